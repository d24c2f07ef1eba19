-- The contents of an input: one record further, and that they are what the input holds.
use Rattle.std.proofs.Common.{◌≡◌, ℕ, zero, suc, ◌+◌, ◌-◌, ◌*◌, ◌^◌, ◌<◌, ◌≤◌, List, ◌∷◌, length, Some, None, Ok, Err, Option, Result, sym, refl, subst, add-zero, zero-add, add-one, arith}
use Rattle.records.specs.declared.fault.RecordFault.{RecordFault}
use Rattle.records.specs.Contents.{Contents, and_then, contents_in, contents_from, contents, StandFrom, last_answer, Holds}
use Rattle.records.specs.Encoding.{Told}
use Rattle.records.specs.Format.{Entry, byte, record_at}
use Rattle.records.proofs.Cursor.{at_end}
use Rattle.records.proofs.Encoding.{says_whole, tells}

module _ (bytes : List ℕ) where
  -- a step more tells nothing new, once there are more steps than bytes left
  enough : (turns at : ℕ) → length bytes - at < turns → contents_in turns bytes at ≡ contents_in (suc turns) bytes at
  unfolding contents_in
  enough zero at few = absurd (omega arith)
  enough (suc turns) at few =
      let more = enough turns (at + 12) in
      let none = at_end bytes at in
      grind arith

  pub step : (at : ℕ) → contents_from bytes at ≡ and_then (record_at bytes at) (contents_from bytes (at + 12))
  unfolding contents_in
  step at =
      let more = enough (length bytes) (at + 12) in
      let none = at_end bytes at in
      rw (add-one (length bytes)) (grind arith)

module _ (bytes : List ℕ) (typed : (i : ℕ) → byte bytes i < 2 ^ 8) where
  abbrev HoldsFrom : ℕ → Contents → Type 0
  HoldsFrom at held = StandFrom bytes at held.entries × Told bytes (at + 12 * length held.entries) (last_answer held.ending)

  one_more : (at : ℕ) (a : Result (Option Entry) RecordFault) → Told bytes at a → (later : Contents) → ((at + 12 ≤ length bytes) → HoldsFrom (at + 12) later) → HoldsFrom at (and_then a later)
  one_more at (Ok None) told later rest = (tt, subst (λ (k : ℕ). Told bytes k (Ok None)) (sym (add-zero at)) told)
  one_more at (Err f) told later rest = (tt, subst (λ (k : ℕ). Told bytes k (Err f)) (sym (add-zero at)) told)
  one_more at (Ok (Some e)) told later rest =
      let held = rest (says_whole bytes at e told) in
      let next : at + 12 + 12 * length later.entries ≡ at + 12 * length (e ∷ later.entries) = omega arith in
      ((told, held.0), subst (λ (k : ℕ). Told bytes k (last_answer later.ending)) next held.1)

  holds_from : (turns at : ℕ) → length bytes - at < turns → HoldsFrom at (contents_in turns bytes at)
  unfolding contents_in
  holds_from zero at few = absurd (omega arith)
  holds_from (suc turns) at few =
      one_more at (record_at bytes at) (tells bytes at typed (record_at bytes at) refl).told (contents_in turns bytes (at + 12)) (λ whole. holds_from turns (at + 12) (omega arith))

  pub holds : Holds bytes (contents bytes)
  holds =
      let all = holds_from (length bytes + 1) 0 (omega arith) in
      record { records = all.0; ending = rw zero-add at all.1 }
