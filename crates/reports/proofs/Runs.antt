-- Size, load and check in a row: check answers.
use Rattle.std.proofs.Common.{◌≡◌, ℕ, ◌<◌, List, Ok, Err, Option, Result, ap, arith}
use Rattle.amounts.specs.Kinds.{Kind}
use Rattle.refusals.specs.declared.Refusal.{Refusal}
use Rattle.tables.proofs.Loads.{load_states}
use Rattle.tables.proofs.Refusing.{answered_ok}
use Rattle.tables.specs.Calls.{Sized, Checked}
use Rattle.tables.specs.Left.{Left}
use Rattle.tables.specs.Loading.{Loads}
use Rattle.tables.specs.declared.load.LoadFault.{LoadFault}
use Rattle.tables.specs.declared.table.Table.{Table}
use Rattle.records.specs.declared.counts.Counts.{Counts}

module _ {S : Type 0} {k : Kind S} {opened sized : Table S} {states : ℕ} where
  size_states : Sized k opened sized states 0 (Ok tt) → sized.states ≡ states
  size_states done = ap (λ (l : Left S). l.states) (rw (answered_ok _ tt tt done.answer).0 at done.left)

  pub check_answers : {loaded : Table S} {amount_of : ℕ → Option S} {bytes : List ℕ} {r : Result Counts LoadFault} → Sized k opened sized states 0 (Ok tt) → 0 < states → Loads k amount_of sized loaded bytes r → {after : Table S} {refusal : Refusal} → Checked k loaded after (Err refusal) → ⊥
  check_answers done some loads checked = omega (arith, some, checked.answer.0, load_states loads, size_states done)
