-- A state has no reason to fall exactly where it is locally consistent, and only the states decide which reason it has.
use Rattle.std.proofs.Common.{◌≡◌, ℕ, ◌<◌, Bool, true, false, not, None, Option, ap, arith}
use Rattle.std.proofs.lemmas.Bool.Decides.{nat_tests}
use Rattle.std.proofs.lemmas.Bool.{not-false}
use Rattle.amounts.specs.Kinds.{Kind, Laws, AtMost}
use Rattle.theory.specs.Consistency.{low_inside, high_inside, total_low, total_high, Consistent, is_lost, is_crossed, first_reason, reason_of}
use Rattle.theory.specs.Models.{Model, lowest_below}
use Rattle.theory.proofs.Below.{total_same, lowest_same, lowest_none, none_passes}

module _ {S : Type 0} (k : Kind S) (m : Model S) where
  -- sets that hold the same states give the same reason
  pub reason_same : (x y : ℕ → Bool) (t : ℕ) → ((u : ℕ) → u < m.states → x u ≡ y u) → reason_of k m x t ≡ reason_of k m y t
  reason_same x y t same =
      let lost = lowest_same (is_lost k m x t) (is_lost k m y t) m.states (λ u below. rw (same u below)) in
      let crossed = lowest_same (is_crossed k m x t) (is_crossed k m y t) m.states (λ u below. rw (same u below)) in
      let lows = total_same k (low_inside k m x t) (low_inside k m y t) m.states (λ u below. rw (same u below)) in
      let highs = total_same k (high_inside k m x t) (high_inside k m y t) m.states (λ u below. rw (same u below)) in
      λ i. first_reason (lost i) (crossed i) (not (k.at_most (lows i) k.full)) (not (k.at_most k.full (highs i)))

-- no reason is left only where none of the four applies
no_reason : (lost crossed : Option ℕ) (over short : Bool) → first_reason lost crossed over short ≡ None → (lost ≡ None) × (crossed ≡ None) × (over ≡ false) × (short ≡ false)
no_reason lost crossed over short none = grind (arith, nat_tests)

module _ {S : Type 0} (k : Kind S) where
  -- the test of two amounts passes exactly where one is at most the other
  at_most_lem : (x y : S) → not (k.at_most x y) ≡ false → AtMost k x y
  at_most_lem x y passes = record { holds = not-false (k.at_most x y) passes }

  at_most_passes : (x y : S) → AtMost k x y → not (k.at_most x y) ≡ false
  at_most_passes x y most = ap not most.holds

module _ {S : Type 0} (k : Kind S) (m : Model S) (x : ℕ → Bool) (t : ℕ) where
  pub consistent_from_none : Laws k → reason_of k m x t ≡ None → Consistent k m x t
  consistent_from_none laws none =
      let lost = lowest_below (is_lost k m x t) m.states in
      let crossed = lowest_below (is_crossed k m x t) m.states in
      let each = no_reason lost crossed (not (k.at_most (total_low k m x t) k.full)) (not (k.at_most k.full (total_high k m x t))) none in
      record {
        outside = λ u below out. record {
          there = at_most_lem k (m.band t u).low k.nothing (rw out at (none_passes (is_lost k m x t) m.states each.0 u below));
          back = laws.nothing_least (m.band t u).low;
        };
        inside = λ u below within. at_most_lem k (m.band t u).low (m.band t u).high (rw within at (none_passes (is_crossed k m x t) m.states each.1 u below));
        lows = at_most_lem k (total_low k m x t) k.full each.2;
        highs = at_most_lem k k.full (total_high k m x t) each.3;
      }

  pub none_from_consistent : Consistent k m x t → reason_of k m x t ≡ None
  none_from_consistent fits =
      let lost = lowest_none (is_lost k m x t) m.states none_lost in
      let crossed = lowest_none (is_crossed k m x t) m.states none_crossed in
      let over = at_most_passes k (total_low k m x t) k.full fits.lows in
      let short = at_most_passes k k.full (total_high k m x t) fits.highs in
      λ i. first_reason (lost i) (crossed i) (over i) (short i)
    where
      none_lost : (u : ℕ) → u < m.states → is_lost k m x t u ≡ false
      none_lost u below = let least = λ (out : x u ≡ false). at_most_passes k (m.band t u).low k.nothing (fits.outside u below out).there in grind (arith, nat_tests)

      none_crossed : (u : ℕ) → u < m.states → is_crossed k m x t u ≡ false
      none_crossed u below = let ordered = λ (within : x u ≡ true). at_most_passes k (m.band t u).low (m.band t u).high (fits.inside u below within) in grind (arith, nat_tests)
