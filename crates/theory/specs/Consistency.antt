-- Local consistency of a state with a set of states, and why it fails.
use Rattle.std.specs.Prelude.{ℕ, ◌<◌, Bool, IsTrue, IsFalse, not, ◌&&◌, Some, None, Option, if◌then◌else◌}
use Rattle.amounts.specs.Kinds.{Kind, AtMost, IsNothing}
use Rattle.theory.specs.Models.{Model, total_below, lowest_below}
use Rattle.theory.specs.declared.reason.Reason.{Reason}
use Rattle.theory.specs.declared.reason.Reason.TheVariants.{Lost, Crossed, OverFull, ShortOfFull}

module _ {S : Type 0} (k : Kind S) (m : Model S) (x : ℕ → Bool) (t : ℕ) where
  -- the lows and the highs of t inside the set x; outside it nothing counts
  abbrev pub low_inside : ℕ → S
  low_inside u = if x u then (m.band t u).low else k.nothing

  abbrev pub high_inside : ℕ → S
  high_inside u = if x u then (m.band t u).high else k.nothing

  abbrev pub total_low : S
  total_low = total_below k low_inside m.states

  abbrev pub total_high : S
  total_high = total_below k high_inside m.states

  -- state t is locally consistent with the set x
  pub record Consistent : Type 0 where
    pub outside : (u : ℕ) → u < m.states → IsFalse (x u) → IsNothing k (m.band t u).low
    pub inside : (u : ℕ) → u < m.states → IsTrue (x u) → AtMost k (m.band t u).low (m.band t u).high
    pub lows : AtMost k total_low k.full
    pub highs : AtMost k k.full total_high

  -- a target outside x must get something
  abbrev pub is_lost : ℕ → Bool
  is_lost u = not (x u) && not (k.at_most (m.band t u).low k.nothing)

  -- the band to a target inside x is empty
  abbrev pub is_crossed : ℕ → Bool
  is_crossed u = x u && not (k.at_most (m.band t u).low (m.band t u).high)

-- the first that applies
abbrev pub first_reason : Option ℕ → Option ℕ → Bool → Bool → Option Reason
first_reason (Some u) crossed over short = Some (Lost u)
first_reason None (Some u) over short = Some (Crossed u)
first_reason None None over short = if over then Some OverFull else (if short then Some ShortOfFull else None)

-- why t is not locally consistent with x; none if it is
abbrev pub reason_of : {S : Type 0} → Kind S → Model S → (ℕ → Bool) → ℕ → Option Reason
reason_of k m x t =
    first_reason (lowest_below (is_lost k m x t) m.states) (lowest_below (is_crossed k m x t) m.states)
    (not (k.at_most (total_low k m x t) k.full))
    (not (k.at_most k.full (total_high k m x t)))
