-- A state is locally consistent with a set exactly where it has an exact row that gives nothing outside the set.
use Rattle.std.proofs.Common.{◌≡◌, ℕ, zero, suc, ◌<◌, Bool, true, false, cond, eqb, sym, refl, ap₂, subst, ⊎_elim, arith}
use Rattle.std.proofs.lemmas.Bool.{cases_Bool, cases_eq, eq-eqb, ne_eqb}
use Rattle.amounts.specs.Kinds.{Kind, Laws, AtMost, Same, IsNothing, Within, Shareable}
use Rattle.amounts.specs.declared.bounds.Bounds.{Bounds}
use Rattle.amounts.specs.declared.bounds.Parts.{Parts}
use Rattle.theory.specs.Consistency.{low_inside, high_inside, total_low, total_high, Consistent}
use Rattle.theory.specs.Models.{Model, total_below}
use Rattle.theory.specs.Rows.{RowInside}
use Rattle.theory.proofs.Below.{total_same}
use Rattle.theory.proofs.Sameness.{same_trans, same_total}

module _ {S : Type 0} {k : Kind S} (laws : Laws k) where
  -- the total respects at most on both sides
  pub total_both : {x y v w : S} → AtMost k x y → AtMost k v w → AtMost k (k.total x v) (k.total y w)
  total_both {x} {y} {v} {w} p q =
      let left = laws.total_mono x y v p in
      let right = laws.total_mono v w y q in
      laws.at_most_trans (k.total x v) (k.total y v) (k.total y w) left
      (laws.at_most_trans (k.total y v) (k.total v y) (k.total y w) (laws.total_comm y v).there
      (laws.at_most_trans (k.total v y) (k.total w y) (k.total y w) right (laws.total_comm w y).there))

  -- totals of amounts that are each at most the other's
  pub totals_at_most : (f g : ℕ → S) (n : ℕ) → ((u : ℕ) → u < n → AtMost k (f u) (g u)) → AtMost k (total_below k f n) (total_below k g n)
  unfolding total_below
  totals_at_most f g zero most = laws.at_most_refl k.nothing
  totals_at_most f g (suc n) most = total_both (totals_at_most f g n (λ u below. most u (omega arith))) (most n (omega arith))

-- r can be split among the numbers below n, each within its bounds
record Fits {S : Type 0} (k : Kind S) (low high : ℕ → S) (n : ℕ) (r : S) : Type 0 where
  lows : AtMost k (total_below k low n) r
  highs : AtMost k r (total_below k high n)
  at_most_full : AtMost k r k.full

-- a row splits r among the numbers below n, each within its bounds
record Fills {S : Type 0} (k : Kind S) (low high : ℕ → S) (n : ℕ) (r : S) (row : ℕ → S) : Type 0 where
  within : (u : ℕ) → u < n → Within k (record { low = low u; high = high u }) (row u)
  whole : Same k (total_below k row n) r

module _ {S : Type 0} (k : Kind S) (low high : ℕ → S) where
  abbrev bounds_at : ℕ → Bounds S
  bounds_at u = record { low = low u; high = high u }

  abbrev totals_to : ℕ → Bounds S
  totals_to n = record { low = total_below k low n; high = total_below k high n }

  abbrev parts_at : ℕ → S → Parts S
  parts_at n r = k.share_out r (bounds_at n) (totals_to n)

  -- the highest number gets its share of r, and the numbers below it the rest
  unfoldable filled : ℕ → S → ℕ → S
  filled zero r u = k.nothing
  filled (suc n) r u = cond (eqb u n) (parts_at n r).own (filled n (parts_at n r).others u)

module _ {S : Type 0} {k : Kind S} (laws : Laws k) (low high : ℕ → S) where
  shareable : (n : ℕ) (r : S) → ((u : ℕ) → u < suc n → AtMost k (low u) (high u)) → Fits k low high (suc n) r → Shareable k r (bounds_at k low high n) (totals_to k low high n)
  unfolding total_below
  shareable n r ordered fits = record {
    own_ordered = ordered n (omega arith);
    others_ordered = totals_at_most laws low high n (λ u below. ordered u (omega arith));
    at_most_full = fits.at_most_full;
    lows = laws.at_most_trans _ _ _ (laws.total_comm (low n) (total_below k low n)).there fits.lows;
    highs = laws.at_most_trans _ _ _ fits.highs (laws.total_comm (total_below k high n) (high n)).there;
  }

  -- the others' part is at most the whole
  others_at_most : (r x y : S) → Same k (k.total x y) r → AtMost k y r
  others_at_most r x y whole =
      laws.at_most_trans y (k.total k.nothing y) r (laws.total_nothing y).back
      (laws.at_most_trans (k.total k.nothing y) (k.total x y) r (laws.total_mono k.nothing x y (laws.nothing_least x)) whole.there)

  fill : (n : ℕ) (r : S) → ((u : ℕ) → u < n → AtMost k (low u) (high u)) → Fits k low high n r → Fills k low high n r (filled k low high n r)
  unfolding total_below filled
  fill zero r ordered fits = record {
    within = λ u below. absurd (omega arith);
    whole = record { there = fits.lows; back = fits.highs };
  }
  fill (suc n) r ordered fits =
      let p = parts_at k low high n r in
      let split = laws.share_out_lem r (bounds_at k low high n) (totals_to k low high n) (shareable n r ordered fits) in
      let rest = fill n p.others (λ u below. ordered u (omega arith)) (record {
        lows = split.others_within.above;
        highs = split.others_within.below;
        at_most_full = laws.at_most_trans p.others r k.full (others_at_most r p.own p.others split.whole) fits.at_most_full;
      }) in
      let same = total_same k (filled k low high (suc n) r) (filled k low high n p.others) n (λ u below. rw (ne_eqb u n (omega arith)) refl) in
      let own : filled k low high (suc n) r n ≡ p.own = rw (eq-eqb n n refl) refl in
      record {
        within = λ u below. ⊎_elim
            (λ (is : u ≡ n). rw (eq-eqb u n is, is) split.own_within)
            (λ (ne : u ≡ n → ⊥). rw (ne_eqb u n ne) (rest.within u (omega arith)))
            (cases_eq u n);
        whole = subst (λ (whole : S). Same k whole r) (sym (ap₂ k.total same own))
            (same_trans laws (same_total laws p.own rest.whole) (same_trans laws (laws.total_comm p.others p.own) split.whole));
      }

module _ {S : Type 0} {k : Kind S} (laws : Laws k) (m : Model S) (x : ℕ → Bool) (t : ℕ) where
  -- a row that is chosen by shares-out, from the highest state down
  pub row_inside : ℕ → S
  row_inside = filled k (low_inside k m x t) (high_inside k m x t) m.states k.full

  pub consistent_has_row : Consistent k m x t → RowInside k m x t row_inside
  unfolding row_inside
  consistent_has_row fits =
      let low = low_inside k m x t in
      let high = high_inside k m x t in
      let ordered : (u : ℕ) → u < m.states → AtMost k (low u) (high u) =
      λ u below. ⊎_elim
      (λ (in_x : x u ≡ true). rw (in_x) (fits.inside u below in_x))
      (λ (out : x u ≡ false). rw (out) (laws.at_most_refl k.nothing))
      (cases_Bool (x u)) in
      let done = fill laws low high m.states k.full ordered (record { lows = fits.lows; highs = fits.highs; at_most_full = laws.at_most_refl k.full }) in
      let none : (u : ℕ) → u < m.states → x u ≡ false → IsNothing k (row_inside u) =
      λ u below out. record {
        there = rw (out) at (done.within u below).below;
        back = laws.nothing_least (row_inside u);
      } in
      record {
        exact = record {
          within = λ u below. ⊎_elim
              (λ (in_x : x u ≡ true). rw (in_x) at (done.within u below))
              (λ (out : x u ≡ false). record {
                above = laws.at_most_trans (m.band t u).low k.nothing (row_inside u) (fits.outside u below out).there (laws.nothing_least (row_inside u));
                below = laws.at_most_trans (row_inside u) k.nothing (m.band t u).high (none u below out).there (laws.nothing_least (m.band t u).high);
              })
              (cases_Bool (x u));
          whole = done.whole;
        };
        outside = none;
      }

  pub row_is_consistent : (row : ℕ → S) → RowInside k m x t row → Consistent k m x t
  row_is_consistent row inside =
      let within = inside.exact.within in
      let low = low_inside k m x t in
      let high = high_inside k m x t in
      record {
        outside = λ u below out. record {
          there = laws.at_most_trans (m.band t u).low (row u) k.nothing (within u below).above (inside.outside u below out).there;
          back = laws.nothing_least (m.band t u).low;
        };
        inside = λ u below in_x. laws.at_most_trans (m.band t u).low (row u) (m.band t u).high (within u below).above (within u below).below;
        lows = laws.at_most_trans (total_low k m x t) (total_below k row m.states) k.full
            (totals_at_most laws low row m.states (λ u below. ⊎_elim
            (λ (in_x : x u ≡ true). rw (in_x) ((within u below).above))
            (λ (out : x u ≡ false). rw (out) (laws.nothing_least (row u)))
            (cases_Bool (x u))))
            inside.exact.whole.there;
        highs = laws.at_most_trans k.full (total_below k row m.states) (total_high k m x t)
            inside.exact.whole.back
            (totals_at_most laws row high m.states (λ u below. ⊎_elim
            (λ (in_x : x u ≡ true). rw (in_x) ((within u below).below))
            (λ (out : x u ≡ false). rw (out) ((inside.outside u below out).there))
            (cases_Bool (x u))));
      }
