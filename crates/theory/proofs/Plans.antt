-- The states that stand after r rounds are those with a plan of r steps.
use Rattle.std.proofs.Common.{◌≡◌, ℕ, zero, suc, ◌<◌, Bool, true, false, not, ◌||◌, eqb, leb, is_some, None, sym, refl, ◌∙◌, ⊎_elim, arith}
use Rattle.std.proofs.lemmas.Bool.{and_parts, cases_Bool, false≢true, false_from_ne_true}
use Rattle.std.proofs.lemmas.Bool.Decides.{nat_tests}
use Rattle.amounts.specs.Kinds.{Kind, Laws, IsNothing}
use Rattle.theory.specs.Consistency.{Consistent, reason_of}
use Rattle.theory.specs.Models.{Model}
use Rattle.theory.specs.Plans.{Plan, TellsPlans}
use Rattle.theory.specs.Rounds.{everyone, standing, not_before, rank_of}
use Rattle.theory.specs.Rows.{RowInside}
use Rattle.theory.proofs.Consistency.{consistent_from_none}
use Rattle.theory.proofs.Ranks.{rank_tells}
use Rattle.theory.proofs.Rounds.{stood_before, next_stands}
use Rattle.theory.proofs.Sameness.{nothing_or_some}
use Rattle.theory.proofs.Rows.{row_inside, consistent_has_row, row_is_consistent}

-- by its rank v, a state had not fallen before round r + 1
abbrev unfallen : ℕ → ℕ → Bool
unfallen v r = eqb v 0 || leb (suc r) v

at_rank : (v r : ℕ) → v ≡ suc r → (unfallen v r ≡ true) × (unfallen v (suc r) ≡ false)
at_rank v r is = grind (arith, nat_tests)

at_zero : (v r : ℕ) → v ≡ 0 → unfallen v r ≡ true
at_zero v r is = grind (arith, nat_tests)

from_tests : (v r : ℕ) → unfallen v r ≡ true → unfallen v (suc r) ≡ false → v ≡ suc r
from_tests v r before after = grind (arith, nat_tests)

from_all : (v : ℕ) → unfallen v v ≡ true → v ≡ 0
from_all v is = grind (arith, nat_tests)

module _ {S : Type 0} {k : Kind S} (laws : Laws k) (m : Model S) where
  abbrev stands : ℕ → ℕ → Bool
  stands = standing k m everyone

  -- a row inside a set is inside a larger one
  inside_more : (x y : ℕ → Bool) (t : ℕ) (row : ℕ → S) → ((u : ℕ) → x u ≡ true → y u ≡ true) → RowInside k m x t row → RowInside k m y t row
  inside_more x y t row more inside = record {
    exact = inside.exact;
    outside = λ u below out. ⊎_elim
        (λ (in_x : x u ≡ true). absurd (false≢true (sym out ∙ more u in_x)))
        (λ (out_x : x u ≡ false). inside.outside u below out_x)
        (cases_Bool (x u));
  }

  reason_gone : (r t : ℕ) → stands (suc r) t ≡ true → reason_of k m (stands r) t ≡ None
  unfolding standing
  reason_gone r t stood = let parts = and_parts (stands r t) (not (is_some (reason_of k m (stands r) t))) stood in grind (arith, nat_tests)

  consistent_stands : (r t : ℕ) → Consistent k m (stands r) t → stands r t ≡ true
  unfolding standing
  consistent_stands zero t fits = refl
  consistent_stands (suc r) t fits =
      let row = row_inside laws m (stands (suc r)) t in
      let inside = inside_more (stands (suc r)) (stands r) t row (stood_before k m everyone r) (consistent_has_row laws m (stands (suc r)) t fits) in
      let before = row_is_consistent laws m (stands r) t row inside in
      next_stands k m everyone r t (consistent_stands r t before) before

  pub plan_stands : (r t : ℕ) → Plan k m r t → stands r t ≡ true
  unfolding Plan standing
  plan_stands zero t plan = refl
  plan_stands (suc r) t plan =
      let fits = row_is_consistent laws m (stands r) t plan.row (record {
        exact = plan.exact;
        outside = λ u below out. ⊎_elim
            (λ (none : IsNothing k (plan.row u)). none)
            (λ (some : ¬ IsNothing k (plan.row u)). absurd (false≢true (sym out ∙ plan_stands r u (plan.later u below some))))
            (nothing_or_some laws (plan.row u));
      }) in
      next_stands k m everyone r t (consistent_stands r t fits) fits

  pub stands_plan : (r t : ℕ) → stands r t ≡ true → Plan k m r t
  unfolding Plan standing
  stands_plan zero t stood = tt
  stands_plan (suc r) t stood =
      let row = row_inside laws m (stands r) t in
      let inside = consistent_has_row laws m (stands r) t (consistent_from_none k m (stands r) t laws (reason_gone r t stood)) in
      record {
        row = row;
        exact = inside.exact;
        later = λ u below some. ⊎_elim
            (λ (stands_u : stands r u ≡ true). stands_plan r u stands_u)
            (λ (out : stands r u ≡ false). absurd (some (inside.outside u below out)))
            (cases_Bool (stands r u));
      }

  -- who stands has a plan, and who does not has none
  module _ (t : ℕ) (below : t < m.states) where
    tells : (r : ℕ) → not_before (rank_of k m) (suc r) t ≡ stands r t
    tells r = rank_tells k m r t below

    has_plan : (r : ℕ) → not_before (rank_of k m) (suc r) t ≡ true → Plan k m r t
    has_plan r is = stands_plan r t (sym (tells r) ∙ is)

    has_none : (r : ℕ) → not_before (rank_of k m) (suc r) t ≡ false → ¬ Plan k m r t
    has_none r is plan = false≢true (sym is ∙ tells r ∙ plan_stands r t plan)

    planned : (r : ℕ) → Plan k m r t → not_before (rank_of k m) (suc r) t ≡ true
    planned r plan = tells r ∙ plan_stands r t plan

    unplanned : (r : ℕ) → ¬ Plan k m r t → not_before (rank_of k m) (suc r) t ≡ false
    unplanned r none = false_from_ne_true (not_before (rank_of k m) (suc r) t) (λ (is : not_before (rank_of k m) (suc r) t ≡ true). none (has_plan r is))

    pub rank_tells_plans : TellsPlans k m t (rank_of k m t)
    rank_tells_plans = record {
      fell = λ r is. (has_plan r (at_rank (rank_of k m t) r is).0, has_none (suc r) (at_rank (rank_of k m t) r is).1);
      fell_only = λ r plan none. from_tests (rank_of k m t) r (planned r plan) (unplanned (suc r) none);
      stood = λ is r. has_plan r (at_zero (rank_of k m t) r is);
      stood_only = λ plan. from_all (rank_of k m t) (planned (rank_of k m t) (plan (rank_of k m t)));
    }
