-- What stands at a cursor, by how many bytes are left there, and where a name lies.
use Rattle.std.proofs.Common.{◌≡◌, ℕ, ◌+◌, ◌-◌, ◌<◌, ◌≤◌, true, false, ◌||◌, ◌⊎◌, List, length, take, drop, Some, None, Ok, Err, Result, sym, ap, ◌∙◌, arith, length-drop, Bor}
use Rattle.std.proofs.lemmas.Bool.Decides.{nat_tests}
use Rattle.std.proofs.lemmas.Bool.{eq-eqb, ne_eqb, lt-ltb, le-ltb}
use Rattle.records.specs.declared.fault.RecordFault.{RecordFault}
use Rattle.records.specs.declared.fault.RecordFault.TheVariants.{Partial, UnknownKind, WrongByte}
use Rattle.records.specs.declared.record.Record.{Record}
use Rattle.records.specs.declared.record.Record.TheVariants.{Band, Name}
use Rattle.records.specs.Format.{Entry, name, byte, is_band, is_name, wrong_position, band_in, name_in, present, record_of, record_at}
use Rattle.records.specs.Reading.{InPlace}
use Rattle.records.specs.OneRecord.{ReadAs}

module _ (bytes : List ℕ) (at : ℕ) where
  pub at_end : length bytes ≤ at → record_at bytes at ≡ Ok None
  at_end past = rw (length-drop, eq-eqb (length bytes - at) 0 (omega arith))

  pub at_partial : at < length bytes → length bytes - at < 12 → record_at bytes at ≡ Err (Partial (length bytes - at))
  at_partial some few = rw (length-drop, ne_eqb (length bytes - at) 0 (omega arith), lt-ltb (length bytes - at) 12 few)

  pub at_record : at + 12 ≤ length bytes → record_at bytes at ≡ present (record_of (take 12 (drop at bytes)) at)
  at_record whole = rw (length-drop, ne_eqb (length bytes - at) 0 (omega arith), le-ltb (length bytes - at) 12 (omega arith))

  -- the same of the part `&bytes[at..at + 12]`, which is `(at + 12) - at` long
  pub at_part : at + 12 ≤ length bytes → (x : Result Entry RecordFault) → x ≡ record_of (take ((at + 12) - at) (drop at bytes)) at → present x ≡ record_at bytes at
  at_part whole x held = let twelve : (at + 12) - at ≡ 12 = omega arith in rw (held, twelve) (sym (at_record whole))

  -- the three cases, by how many bytes are left
  pub by_left : ((length bytes ≤ at) × (record_at bytes at ≡ Ok None)) ⊎ (((at < length bytes) × (length bytes - at < 12) × (record_at bytes at ≡ Err (Partial (length bytes - at)))) ⊎ ((at + 12 ≤ length bytes) × (record_at bytes at ≡ present (record_of (take 12 (drop at bytes)) at))))
  by_left =
      let end = at_end in
      let few = at_partial in
      let whole = at_record in
      grind (arith, nat_tests)

-- twelve bytes that are read are nowhere wrong, and are a band or a name
pub told : (r : List ℕ) (at : ℕ) {e : Entry} → record_of r at ≡ Ok e → (wrong_position r ≡ None) × (((is_band r ≡ true) × (e ≡ band_in r)) ⊎ ((is_name r ≡ true) × (e ≡ name_in r at)))
told r at here = grind (arith, nat_tests)

-- twelve bytes that are refused are of no known kind, or have a lowest wrong position
pub refused : (r : List ℕ) (at : ℕ) {f : RecordFault} → record_of r at ≡ Err f → ((is_band r || is_name r ≡ false) × (f ≡ UnknownKind (byte r 0))) ⊎ ((is_band r || is_name r ≡ true) × ((p : ℕ) × (wrong_position r ≡ Some p) × (f ≡ WrongByte p)))
refused r at here = grind (arith, nat_tests)

-- a name begins four bytes after its record
name_place : (r : List ℕ) (at : ℕ) {s p : ℕ} {bs : List ℕ} → record_of r at ≡ Ok (name s p bs) → p ≡ at + 4
name_place r at here = let is = (told r at here).1 in grind (arith, nat_tests)

-- a name in the record r, which begins at `at` in the input, lies in the input at its place
pub in_place : (origin : ℕ × ℕ) (at : ℕ) (r : Bor (List ℕ)) → r.ref_ptr ≡ (origin.0, at + origin.1) → (x : Record) → ReadAs r (record_of r.now at) (Ok x) → InPlace origin x
in_place origin at r lies (Band source target low high) held = tt
in_place origin at r lies (Name state place part) held =
    let offset : r.ref_ptr.1 + 4 ≡ origin.1 + place = omega (arith, ap (λ (o : ℕ × ℕ). o.1) lies, name_place r.now at (sym held.answer)) in
    held.in_record ∙ (λ i. ((lies i).0, offset i))
