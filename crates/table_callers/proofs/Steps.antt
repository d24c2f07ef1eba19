-- What the calls of a table leave and answer, by what it held before them.
use Rattle.std.proofs.Common.{◌≡◌, ℕ, Option, Result, subst}
use Rattle.amounts.specs.Kinds.{Kind}
use Rattle.refusals.specs.declared.Refusal.{Refusal}
use Rattle.tables.specs.Calls.{left_of, BandSet, Checked, Sized}
use Rattle.tables.specs.Left.{Left, answered, as_rank, banded, judged, leaves, no_states, question_refusal, rank_left, set_refusal, size_refusal, sized}
use Rattle.tables.specs.declared.band.Band.{Band}
use Rattle.tables.specs.declared.table.Table.{Table}
use Rattle.tables.specs.declared.verdict.Verdict.{Verdict}

module _ {S : Type 0} {k : Kind S} {t u : Table S} {l : Left S} (is : left_of t ≡ l) where
  pub size_leaves : {n s : ℕ} {r : Result (Unit {0}) Refusal} → Sized k t u n s r → left_of u ≡ leaves (size_refusal l n s) l (sized l n s)
  size_leaves {n} {s} done = subst (λ (m : Left S). left_of u ≡ leaves (size_refusal m n s) m (sized m n s)) is done.left

  pub set_leaves : {b : Band S} {r : Result (Unit {0}) Refusal} → BandSet k t u b r → left_of u ≡ leaves (set_refusal k l b) l (banded k l b)
  set_leaves {b} done = subst (λ (m : Left S). left_of u ≡ leaves (set_refusal k m b) m (banded k m b)) is done.left

  pub set_answers : {b : Band S} {r : Result (Unit {0}) Refusal} → BandSet k t u b r → r ≡ answered (set_refusal k l b) tt
  set_answers {b} {r} done = subst (λ (m : Left S). r ≡ answered (set_refusal k m b) tt) is done.answer

  pub check_leaves : {r : Result Verdict Refusal} → Checked k t u r → left_of u ≡ leaves (no_states l.states) l (judged l)
  check_leaves done = subst (λ (m : Left S). left_of u ≡ leaves (no_states m.states) m (judged m)) is done.left

pub rank_answers : {S : Type 0} (k : Kind S) {m l : Left S} → m ≡ l → (n : ℕ) {r : Result (Option ℕ) Refusal} → r ≡ answered (question_refusal m n) (as_rank (rank_left k m n)) → r ≡ answered (question_refusal l n) (as_rank (rank_left k l n))
rank_answers k is n {r} answer = subst (λ (h : Left _). r ≡ answered (question_refusal h n) (as_rank (rank_left k h n))) is answer
