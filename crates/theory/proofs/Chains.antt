-- A chain that keeps the bands uses only states that never fall.
use Rattle.std.proofs.Common.{◌≡◌, ℕ, zero, suc, ◌<◌, Bool, true, cond, eqb, sym, ap, ◌∙◌, ⊎_elim}
use Rattle.std.proofs.lemmas.Bool.{cases_eq, eq-eqb, ne_eqb, false≢true}
use Rattle.amounts.specs.Kinds.{Kind, Laws, Within, IsNothing}
use Rattle.theory.specs.Chains.{Chain, given_to}
use Rattle.theory.specs.Models.{Model}
use Rattle.theory.specs.Rounds.{standing}
use Rattle.theory.specs.Rows.{ExactRow}
use Rattle.theory.proofs.Rows.{row_is_consistent}
use Rattle.theory.proofs.Sameness.{same_refl, same_trans, nothing_or_some}
use Rattle.theory.proofs.Rounds.{next_stands}
use Rattle.theory.proofs.Totals.{totals_nothing, totals_grouped}

module _ {S : Type 0} {k : Kind S} (laws : Laws k) (m : Model S) (chain : Chain k) (keeps : (c u : ℕ) → c < chain.states → u < m.states → Within k (m.band (chain.stands_for c) u) (given_to k chain c u)) (inside : (c : ℕ) → c < chain.states → chain.stands_for c < m.states) where
  -- what a chain state gives is an exact row of the state that it stands for
  pub given_is_exact : (c : ℕ) → c < chain.states → ExactRow k m (chain.stands_for c) (given_to k chain c)
  given_is_exact c below = record {
    within = λ u less. keeps c u below less;
    whole = same_trans laws (totals_grouped laws (chain.row c) chain.stands_for chain.states m.states inside) (chain.whole c below);
  }

  -- some chain states, of which no step leads to others
  module _ (member : ℕ → Type 0) (closed : (c d : ℕ) → c < chain.states → member c → d < chain.states → ¬ IsNothing k (chain.row c d) → member d) (first : ℕ → Bool) (starts : (c : ℕ) → c < chain.states → member c → first (chain.stands_for c) ≡ true) where
    -- no state that one of them stands for ever falls
    pub members_stand : (r c : ℕ) → c < chain.states → member c → standing k m first r (chain.stands_for c) ≡ true
    unfolding standing
    members_stand zero c below is_member = starts c below is_member
    members_stand (suc r) c below is_member =
        let stood = members_stand r in
        let fits = row_is_consistent laws m (standing k m first r) (chain.stands_for c) (given_to k chain c) (record {
          exact = given_is_exact c below;
          outside = λ u less out. totals_nothing laws (λ d. cond (eqb (chain.stands_for d) u) (chain.row c d) k.nothing) chain.states (λ d less_d. ⊎_elim
              (λ (is : chain.stands_for d ≡ u). ⊎_elim
              (λ (none : IsNothing k (chain.row c d)). rw (eq-eqb (chain.stands_for d) u is) none)
              (λ (some : ¬ IsNothing k (chain.row c d)). absurd (false≢true (sym out ∙ ap (standing k m first r) (sym is) ∙ stood d less_d (closed c d below is_member less_d some))))
              (nothing_or_some laws (chain.row c d)))
              (λ (ne : chain.stands_for d ≡ u → ⊥). rw (ne_eqb (chain.stands_for d) u ne) (same_refl laws k.nothing))
              (cases_eq (chain.stands_for d) u));
        }) in
        next_stands k m first r (chain.stands_for c) (stood c below is_member) fits
