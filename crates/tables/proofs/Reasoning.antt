-- Why a ranked state fell: what is found by the ranks of a sound table.
use Rattle.std.proofs.Common.{◌≡◌, ℕ, suc, ◌-◌, ◌<◌, true, Some, None, Err, Option, Result, sym, ◌∙◌, subst, ⊎_elim, arith}
use Rattle.std.proofs.lemmas.Bool.{cases_eq, ne_eqb}
use Rattle.std.proofs.lemmas.Bool.Decides.{nat_tests}
use Rattle.std.specs.Option.{ok_or}
use Rattle.amounts.specs.Kinds.{Kind, Laws}
use Rattle.refusals.specs.declared.Refusal.{Refusal}
use Rattle.refusals.specs.declared.Refusal.TheVariants.{Standing}
use Rattle.theory.proofs.Consistency.{consistent_from_none, reason_same}
use Rattle.theory.proofs.Ranks as theory
use Rattle.theory.specs.Consistency.{reason_of}
use Rattle.theory.specs.Rounds.{not_before}
use Rattle.theory.specs.declared.reason.Reason.{Reason}
use Rattle.tables.specs.Calls.{left_of, Sound, ReasonAnswer}
use Rattle.tables.specs.Left.{Left, as_rank, model_in, rank_left, reason_left, reason_answer, question_refusal}
use Rattle.tables.specs.Passes.{rank_in}
use Rattle.tables.specs.declared.table.Table.{Table}

-- a rank that is not 0 is shown as it is
pub rank_some : (r rank : ℕ) → Some rank ≡ as_rank r → (r ≡ 0 → ⊥) × (rank ≡ r)
rank_some r rank is = grind (arith, nat_tests)

module _ {S : Type 0} (k : Kind S) (t : Table S) (sound : Sound k t) (in_force : t.checked ≡ true) (u : ℕ) (inside : u < t.states) where
  pub reason_found : (rank_in t.ranks.now u ≡ 0 → ⊥) → reason_of k (model_in k (left_of t)) (not_before (rank_in t.ranks.now) (rank_in t.ranks.now u)) u ≡ reason_left k (left_of t) u
  reason_found some =
      let r = sound.ranked in_force u inside in
      let same = reason_same k (model_in k (left_of t)) (not_before (rank_in t.ranks.now) (rank_in t.ranks.now u)) (not_before (rank_left k (left_of t)) (rank_left k (left_of t) u)) u (λ v below. rw (sound.ranked in_force v below, r)) in
      same ∙ rw (ne_eqb (rank_left k (left_of t) u) 0 (λ zero. some (r ∙ zero)))

-- every ranked state has a reason
module _ {S : Type 0} (k : Kind S) (laws : Laws k) (l : Left S) (u : ℕ) (inside : u < l.states) where
  pub standing_only : reason_left k l u ≡ None → rank_left k l u ≡ 0
  standing_only none =
      ⊎_elim
      (λ (zero : rank_left k l u ≡ 0). zero)
      (λ (some : rank_left k l u ≡ 0 → ⊥).
      let round : rank_left k l u ≡ suc (rank_left k l u - 1) = omega arith in
      let quiet : reason_of k (model_in k l) (not_before (rank_left k l) (rank_left k l u)) u ≡ None = rw (ne_eqb (rank_left k l u) 0 some) at none in
      let fell = (theory.ranks k (model_in k l) laws).fell u (rank_left k l u - 1) inside round in
      absurd (fell (consistent_from_none k (model_in k l) _ u laws (subst (λ (r : ℕ). reason_of k (model_in k l) (not_before (rank_left k l) r) u ≡ None) round quiet))))
      (cases_eq (rank_left k l u) 0)

  refused_standing : (why : Option Reason) → ok_or why Standing ≡ Err Standing → why ≡ None
  refused_standing why is = grind (arith, nat_tests)

  pub reason_answer_lem : (r : Result Reason Refusal) → question_refusal l u ≡ None → r ≡ reason_answer k l u → ReasonAnswer k l u r
  reason_answer_lem r asked is = record {
    answer = rw asked is;
    standing = λ _ refused. standing_only (refused_standing (reason_left k l u) (sym is ∙ refused));
  }
