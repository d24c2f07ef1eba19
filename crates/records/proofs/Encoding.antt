-- A record is found exactly where its bytes stand.
use Rattle.std.proofs.Common.{◌≡◌, ℕ, zero, suc, ◌+◌, ◌-◌, ◌*◌, ◌/◌, ◌%◌, ◌^◌, ◌<◌, ◌≤◌, true, false, ◌||◌, List, [], ◌∷◌, ◌++◌, length, take, drop, replicate, Some, None, Ok, Err, Option, Result, sym, refl, ap, ◌∙◌, subst, ⊎_elim, add-zero, add-one, arith, Bor}
use Rattle.std.proofs.lemmas.List.{drop_all, drop-drop, drop_more, get_or-append_right, get_or-drop, get_or-replicate, get_or-take, length-append, length-drop, length-replicate, length-take, take-append-drop, take_at}
use Rattle.std.proofs.lemmas.Bool.Decides.{nat_tests}
use Rattle.std.proofs.lemmas.Bool.{eqb-false, eqb-true, or_parts}
use Rattle.records.specs.declared.fault.RecordFault.{RecordFault}
use Rattle.records.specs.declared.fault.RecordFault.TheVariants.{Partial, UnknownKind, WrongByte}
use Rattle.records.specs.declared.record.Record.{Record}
use Rattle.records.specs.Encoding.{little_endian, encoded, Sayable, Says, Told, Tells}
use Rattle.records.specs.Format.{Entry, band, name, byte, number, name_length, is_band, is_name, wrong_position, band_in, name_in, present, record_of, record_at}
use Rattle.records.specs.Reading.{answered, NoCopy, past, StandsAt}
use Rattle.records.proofs.Cursor.{at_record, by_left, told, refused}
use Rattle.records.proofs.Positions.{wrong_tells, third_right, length_right, filler_right, band_right, name_right}

-- the n bytes of r from i on
abbrev positions : List ℕ → ℕ → ℕ → List ℕ
positions r i zero = []
positions r i (suc n) = byte r i ∷ positions r (suc i) n

from_positions : (r : List ℕ) (i n : ℕ) → i + n ≤ length r → drop i r ≡ positions r i n ++ drop (i + n) r
from_positions r i zero within = rw add-zero
from_positions r i (suc n) within =
    let next : i + suc n ≡ suc i + n = omega arith in
    drop_more r i 0 (omega arith) ∙ ap (λ (bs : List ℕ). byte r i ∷ bs) (rw (add-one i, next) (from_positions r (suc i) n (omega arith)))

zeros_from : (r : List ℕ) (i n : ℕ) → length r ≡ i + n → ((k : ℕ) → i ≤ k → k < i + n → byte r k ≡ 0) → drop i r ≡ replicate n 0
zeros_from r i zero long none = drop_all i r (omega arith)
zeros_from r i (suc n) long none =
    let first : byte r i ≡ 0 = none i (omega arith) (omega arith) in
    let rest : drop (suc i) r ≡ replicate n 0 = zeros_from r (suc i) n (omega arith) (λ k lo hi. none k (omega arith) (omega arith)) in
    drop_more r i 0 (omega arith) ∙ rw (add-one i, first, rest)

number_bytes : (a b c d : ℕ) → a < 2 ^ 8 → b < 2 ^ 8 → c < 2 ^ 8 → d < 2 ^ 8 → little_endian 4 (a + b * 256 + c * 65536 + d * 16777216) ≡ a ∷ b ∷ c ∷ d ∷ []
number_bytes a b c d fa fb fc fd =
    let n : ℕ = a + b * 256 + c * 65536 + d * 16777216 in
    let q1 : n / 256 ≡ b + c * 256 + d * 65536 = omega arith in
    let q2 : (b + c * 256 + d * 65536) / 256 ≡ c + d * 256 = omega arith in
    let q3 : (c + d * 256) / 256 ≡ d = omega arith in
    let e0 : n % 256 ≡ a = omega arith in
    let e1 : (b + c * 256 + d * 65536) % 256 ≡ b = omega arith in
    let e2 : (c + d * 256) % 256 ≡ c = omega arith in
    let e3 : d % 256 ≡ d = omega arith in
    rw (q1, q2, q3, e0, e1, e2, e3)

number_from : (n : ℕ) → n < 2 ^ 32 → n % 256 + n / 256 % 256 * 256 + n / 256 / 256 % 256 * 65536 + n / 256 / 256 / 256 % 256 * 16777216 ≡ n
number_from n fits = omega arith

length_is : (n : ℕ) → name_length n ≡ true → (1 ≤ n) × (n ≤ 8)
length_is n good = grind (arith, nat_tests)

-- twelve bytes that are nowhere wrong
module _ (r : List ℕ) (long : length r ≡ 12) (typed : (i : ℕ) → i < 12 → byte r i < 2 ^ 8) (right : wrong_position r ≡ None) (at : ℕ) where
  four : (p : ℕ) → p + 3 < 12 → little_endian 4 (number r p) ≡ byte r p ∷ byte r (p + 1) ∷ byte r (p + 2) ∷ byte r (p + 3) ∷ []
  four p within = number_bytes (byte r p) (byte r (p + 1)) (byte r (p + 2)) (byte r (p + 3)) (typed p (omega arith)) (typed (p + 1) (omega arith)) (typed (p + 2) (omega arith)) (typed (p + 3) (omega arith))

  number_fits : (p : ℕ) → p + 3 < 12 → number r p < 2 ^ 32
  number_fits p within = omega (arith, typed p (omega arith), typed (p + 1) (omega arith), typed (p + 2) (omega arith), typed (p + 3) (omega arith))

  band_said : is_band r ≡ true → Sayable (band_in r) at × (r ≡ encoded (band_in r))
  band_said kind =
      let first : byte r 0 ≡ 0x42 = eqb-true (byte r 0) 0x42 kind in
      let third : byte r 3 ≡ 0 = third_right r right in
      let all : r ≡ positions r 0 12 = from_positions r 0 12 (omega arith) ∙ rw (drop_all 12 r (omega arith)) in
      let said : positions r 0 12 ≡ encoded (band_in r) = λ i. first i ∷ byte r 1 ∷ byte r 2 ∷ third i ∷ (sym (four 4 (omega arith)) i ++ sym (four 8 (omega arith)) i) in
      ((typed 1 (omega arith), typed 2 (omega arith), number_fits 4 (omega arith), number_fits 8 (omega arith)), all ∙ said)

  name_said : is_name r ≡ true → Sayable (name_in r at) at × (r ≡ encoded (name_in r at))
  name_said kind =
      let n : ℕ = byte r 2 in
      let first : byte r 0 ≡ 0x4E = eqb-true (byte r 0) 0x4E kind in
      let third : byte r 3 ≡ 0 = third_right r right in
      let good : (1 ≤ n) × (n ≤ 8) = length_is n (length_right r first right) in
      let count : length (take n (drop 4 r)) ≡ n = length-take n (drop 4 r) ∙ omega (arith, length-drop 4 r) in
      let filler : drop (4 + n) r ≡ replicate (8 - n) 0 = zeros_from r (4 + n) (8 - n) (omega arith) (λ k lo hi. filler_right r first right k lo (omega arith)) in
      let rest : drop 4 r ≡ take n (drop 4 r) ++ replicate (8 - n) 0 = sym (take-append-drop n (drop 4 r)) ∙ ap (λ (bs : List ℕ). take n (drop 4 r) ++ bs) (drop-drop n 4 r ∙ filler) in
      let head : r ≡ byte r 0 ∷ byte r 1 ∷ n ∷ byte r 3 ∷ drop 4 r = from_positions r 0 4 (omega arith) in
      let said : byte r 0 ∷ byte r 1 ∷ n ∷ byte r 3 ∷ drop 4 r ≡ 0x4E ∷ byte r 1 ∷ n ∷ 0 ∷ (take n (drop 4 r) ++ replicate (8 - n) 0) = λ i. first i ∷ byte r 1 ∷ n ∷ third i ∷ rest i in
      ((typed 1 (omega arith), refl, omega (arith, count, good.0), omega (arith, count, good.1)), rw count (head ∙ said))

-- the bytes that say an entry are read as that entry
band_read : (s t l h at : ℕ) → l < 2 ^ 32 → h < 2 ^ 32 → record_of (encoded (band s t l h)) at ≡ Ok (band s t l h)
band_read s t l h at fl fh =
    let r : List ℕ = encoded (band s t l h) in
    rw (band_right r refl refl, number_from l fl, number_from h fh)

name_read : (s : ℕ) (bs : List ℕ) (at : ℕ) → 1 ≤ length bs → length bs ≤ 8 → record_of (encoded (name s (at + 4) bs)) at ≡ Ok (name s (at + 4) bs)
name_read s bs at some few =
    let r : List ℕ = encoded (name s (at + 4) bs) in
    let head : List ℕ = 0x4E ∷ s ∷ length bs ∷ 0 ∷ bs in
    let good : name_length (length bs) ≡ true = grind (arith, nat_tests) in
    let zeros : (k : ℕ) → 4 + length bs ≤ k → k < 12 → byte r k ≡ 0 = λ k lo hi. get_or-append_right head (replicate (8 - length bs) 0) (4 + length bs) k 0 (omega arith) lo ∙ get_or-replicate (8 - length bs) (k - (4 + length bs)) 0 0 (omega arith) in
    rw (name_right r refl good refl zeros) (ap (λ (b : List ℕ). Ok (name s (at + 4) b)) (take_at bs (replicate (8 - length bs) 0) (length bs) refl))

encoded_read : (e : Entry) (at : ℕ) → Sayable e at → record_of (encoded e) at ≡ Ok e
encoded_read (band s t l h) at can = band_read s t l h at can.2 can.3
encoded_read (name s p bs) at can = rw can.1 (name_read s bs at can.2 can.3)

encoded_long : (e : Entry) (at : ℕ) → Sayable e at → length (encoded e) ≡ 12
encoded_long (band s t l h) at can = refl
encoded_long (name s p bs) at can = omega (arith, length-append bs (replicate (8 - length bs) 0), length-replicate {A = ℕ} (8 - length bs) 0, can.3)

module _ (bytes : List ℕ) (at : ℕ) where
  part_long : at + 12 ≤ length bytes → length (take 12 (drop at bytes)) ≡ 12
  part_long whole = length-take 12 (drop at bytes) ∙ omega (arith, length-drop at bytes)

  part_typed : ((i : ℕ) → byte bytes i < 2 ^ 8) → (i : ℕ) → i < 12 → byte (take 12 (drop at bytes)) i < 2 ^ 8
  part_typed typed i below = rw (get_or-take 12 (drop at bytes) i 0 below, get_or-drop at bytes i 0) (typed (at + i))

  found : ((i : ℕ) → byte bytes i < 2 ^ 8) → at + 12 ≤ length bytes → (e : Entry) → record_of (take 12 (drop at bytes)) at ≡ Ok e → Says bytes at e
  found typed whole e here =
      let r : List ℕ = take 12 (drop at bytes) in
      let is = told r at here in
      let long = part_long whole in
      let small = part_typed typed in
      ⊎_elim
      (λ (band_is : (is_band r ≡ true) × (e ≡ band_in r)). subst (λ (x : Entry). Sayable x at × (r ≡ encoded x)) (sym band_is.1) (band_said r long small is.0 at band_is.0))
      (λ (name_is : (is_name r ≡ true) × (e ≡ name_in r at)). subst (λ (x : Entry). Sayable x at × (r ≡ encoded x)) (sym name_is.1) (name_said r long small is.0 at name_is.0))
      is.1

  pub says_whole : (e : Entry) → Says bytes at e → at + 12 ≤ length bytes
  says_whole e says = omega (arith, ap length says.1 ∙ encoded_long e at says.0, length-take 12 (drop at bytes), length-drop at bytes)

  finds : (e : Entry) → Says bytes at e → record_at bytes at ≡ Ok (Some e)
  finds e says = at_record bytes at (says_whole e says) ∙ ap present (ap (λ (r : List ℕ). record_of r at) says.1 ∙ encoded_read e at says.0)

module _ (bytes : List ℕ) (at : ℕ) (typed : (i : ℕ) → byte bytes i < 2 ^ 8) where
  first_byte : byte (take 12 (drop at bytes)) 0 ≡ byte bytes at
  first_byte = get_or-take 12 (drop at bytes) 0 0 (omega arith) ∙ get_or-drop at bytes 0 0 ∙ ap (byte bytes) (add-zero at)

  -- what is told of a whole record
  told_record : at + 12 ≤ length bytes → (x : Result Entry RecordFault) → record_of (take 12 (drop at bytes)) at ≡ x → Told bytes at (present x)
  told_record whole (Ok e) is = found bytes at typed whole e is
  told_record whole (Err f) is = ⊎_elim unknown wrong (refused r at is)
    where
      r : List ℕ
      r = take 12 (drop at bytes)

      unknown : (is_band r || is_name r ≡ false) × (f ≡ UnknownKind (byte r 0)) → Told bytes at (Err f)
      unknown none =
          let neither = or_parts (is_band r) (is_name r) none.0 in
          subst (λ (g : RecordFault). Told bytes at (Err g)) (sym none.1) (whole, sym first_byte, eqb-false (byte r 0) 0x42 neither.0, eqb-false (byte r 0) 0x4E neither.1)

      wrong : (is_band r || is_name r ≡ true) × ((p : ℕ) × (wrong_position r ≡ Some p) × (f ≡ WrongByte p)) → Told bytes at (Err f)
      wrong some =
          let first = wrong_tells r some.1.0 some.1.1 in
          subst (λ (g : RecordFault). Told bytes at (Err g)) (sym some.1.2) (whole, record { known = some.0; within = first.0; wrong = first.1; right = first.2 })

  told_at : Told bytes at (record_at bytes at)
  told_at =
      ⊎_elim
      (λ (end : (length bytes ≤ at) × (record_at bytes at ≡ Ok None)). subst (Told bytes at) (sym end.1) end.0)
      (⊎_elim
      (λ (few : (at < length bytes) × (length bytes - at < 12) × (record_at bytes at ≡ Err (Partial (length bytes - at)))). subst (Told bytes at) (sym few.2) (omega arith, few.1, omega arith))
      (λ (whole : (at + 12 ≤ length bytes) × (record_at bytes at ≡ present (record_of (take 12 (drop at bytes)) at))). subst (Told bytes at) (sym whole.1) (told_record whole.0 (record_of (take 12 (drop at bytes)) at) refl)))
      (by_left bytes at)

  pub tells : (answer : Result (Option Entry) RecordFault) → answer ≡ record_at bytes at → Tells bytes at answer
  tells answer is = subst (Tells bytes at) (sym is) record { told = told_at; finds = finds bytes at }

-- what an answer must be to say what stands at a cursor; what it tells of the bytes follows
pub stands : (input : Bor (List ℕ)) (at : ℕ) → ((i : ℕ) → byte input.now i < 2 ^ 8) → (r : Result (Option Record) RecordFault) → answered r ≡ record_at input.now at → NoCopy input.ref_ptr r → past at r < 2 ^ 64 → StandsAt input at r
stands input at typed r answer in_place within = record { answer = answer; tells = tells input.now at typed _ answer; in_place = in_place; within = within }
