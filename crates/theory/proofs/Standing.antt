-- States that each have an exact row among themselves form a chain that keeps the bands.
use Rattle.std.proofs.Common.{◌≡◌, ℕ, ◌<◌, Bool, true, false, cond, eqb, sym, ap, subst, ◌∙◌, ⊎_elim}
use Rattle.std.proofs.lemmas.Bool.{cases_Bool, eq-eqb, ne_eqb, false≢true}
use Rattle.amounts.specs.Kinds.{Kind, Laws, Same, Within, IsNothing}
use Rattle.amounts.specs.declared.bounds.Bounds.{Bounds}
use Rattle.theory.specs.Chains.{Chain, Implements}
use Rattle.theory.specs.Models.{Model, total_below}
use Rattle.theory.specs.Rows.{RowInside}
use Rattle.theory.proofs.Listed.{Listed, list_below}
use Rattle.theory.proofs.Sameness.{same_refl, same_sym, same_trans}
use Rattle.theory.proofs.Totals.{totals_nothing, totals_same, totals_grouped, total_but_one}

module _ {S : Type 0} {k : Kind S} (laws : Laws k) where
  within_same : (b : Bounds S) (x y : S) → Same k y x → Within k b x → Within k b y
  within_same b x y same within = record {
    above = laws.at_most_trans b.low x y within.above same.back;
    below = laws.at_most_trans y x b.high same.there within.below;
  }

module _ {S : Type 0} {k : Kind S} (laws : Laws k) (m : Model S) (x : ℕ → Bool) (row : ℕ → ℕ → S) (rows : (t : ℕ) → t < m.states → x t ≡ true → RowInside k m x t (row t)) where
  members : Listed x m.states
  members = list_below x m.states

  row_at : (c : ℕ) → c < members.size → RowInside k m x (members.at c) (row (members.at c))
  row_at c below = rows (members.at c) (members.inside c below) (members.passes c below)

  -- what c gives to the one that stands for u
  abbrev given : ℕ → ℕ → ℕ → S
  given c u d = cond (eqb (members.at d) u) (row (members.at c) (members.at d)) k.nothing

  given_one : (c u d : ℕ) → d < members.size → members.at d ≡ u → Same k (total_below k (given c u) members.size) (row (members.at c) u)
  given_one c u d below is =
      subst (λ (v : S). Same k (total_below k (given c u) members.size) v)
      (rw (eq-eqb (members.at d) u is) (ap (row (members.at c)) is))
      (total_but_one laws (given c u) d members.size below (λ e less ne.
      rw (ne_eqb (members.at e) u (λ same. ne (members.once d e below less (is ∙ sym same)))) (same_refl laws k.nothing)))

  given_none : (c u : ℕ) → x u ≡ false → IsNothing k (total_below k (given c u) members.size)
  given_none c u out = totals_nothing laws (given c u) members.size (λ d below.
      rw (ne_eqb (members.at d) u (λ same. false≢true (sym out ∙ ap x (sym same) ∙ members.passes d below))) (same_refl laws k.nothing))

  given_is : (c u : ℕ) → c < members.size → u < m.states → Same k (total_below k (given c u) members.size) (row (members.at c) u)
  given_is c u below less = ⊎_elim
      (λ (in_x : x u ≡ true). let there = members.found u less in_x in given_one c u there.0 there.1 there.2)
      (λ (out : x u ≡ false). same_trans laws (given_none c u out) (same_sym laws ((row_at c below).outside u less out)))
      (cases_Bool (x u))

  module _ (t : ℕ) (below : t < m.states) (is_member : x t ≡ true) where
    pub member_chain : Chain k
    member_chain = record {
      states = members.size;
      start = (members.found t below is_member).0;
      starts = (members.found t below is_member).1;
      row = λ c d. row (members.at c) (members.at d);
      whole = λ c less.
          same_trans laws (same_sym laws (totals_grouped laws (λ d. row (members.at c) (members.at d)) members.at members.size m.states members.inside))
          (same_trans laws (totals_same laws (λ u. total_below k (given c u) members.size) (row (members.at c)) m.states (λ u less_u. given_is c u less less_u))
          (row_at c less).exact.whole);
      stands_for = members.at;
    }

    pub member_chain_implements : Implements k m t member_chain
    unfolding member_chain
    member_chain_implements = record {
      from = (members.found t below is_member).2;
      states = members.inside;
      keeps = λ c u less less_u. within_same laws (m.band (members.at c) u) (row (members.at c) u) (total_below k (given c u) members.size) (given_is c u less less_u) ((row_at c less).exact.within u less_u);
    }
