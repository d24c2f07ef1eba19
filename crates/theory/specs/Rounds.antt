-- Rounds: which states fall, and in which round.
use Rattle.std.specs.Prelude.{◌≡◌, ℕ, zero, suc, ◌<◌, Bool, true, not, ◌&&◌, ◌||◌, ◌⊎◌, is_some, ◌==◌, nat_le, if◌then◌else◌}
use Rattle.amounts.specs.Kinds.{Kind}
use Rattle.theory.specs.Consistency.{Consistent, reason_of}
use Rattle.theory.specs.Models.{Model, count_below, highest_below}

-- before round 1 no state has fallen
abbrev pub everyone : ℕ → Bool
everyone t = true

module _ {S : Type 0} (k : Kind S) (m : Model S) (first : ℕ → Bool) where
  -- t has not fallen after r rounds; the states outside `first` fell before round 1
  unfoldable pub standing : ℕ → ℕ → Bool
  standing zero t = first t
  standing (suc r) t = standing r t && not (is_some (reason_of k m (standing r) t))

  -- t falls in the round after r rounds
  abbrev pub falls_after : ℕ → ℕ → Bool
  falls_after r t = standing r t && not (standing (suc r) t)

  -- the round, among the first r, in which t falls, or 0
  unfoldable pub rank_within : ℕ → ℕ → ℕ
  rank_within zero t = 0
  rank_within (suc r) t = if falls_after r t then suc r else rank_within r t

  -- in each round but the last a state falls, so that no state falls after as many rounds as there are states
  abbrev pub rank_from : ℕ → ℕ
  rank_from t = rank_within m.states t

-- the rank of t, or 0 if it stands
abbrev pub rank_of : {S : Type 0} → Kind S → Model S → ℕ → ℕ
rank_of k m t = rank_from k m everyone t

-- by their ranks, these states had not fallen before round r
abbrev pub not_before : (ℕ → ℕ) → ℕ → ℕ → Bool
not_before rank r u = rank u == 0 || nat_le r (rank u)

-- the ranks say who falls when: a state falls in the first round in which it is not locally consistent with the states that had not fallen before that round
pub record Ranks {S : Type 0} (k : Kind S) (m : Model S) (rank : ℕ → ℕ) : Type 0 where
  pub fell : (t r : ℕ) → t < m.states → rank t ≡ suc r → ¬ Consistent k m (not_before rank (suc r)) t
  pub stood : (t r : ℕ) → t < m.states → (rank t ≡ 0) ⊎ (suc r < rank t) → Consistent k m (not_before rank (suc r)) t

abbrev pub removed_of : {S : Type 0} → Kind S → Model S → ℕ
removed_of k m = count_below (λ t. not (rank_of k m t == 0)) m.states

-- the highest rank
abbrev pub rounds_of : {S : Type 0} → Kind S → Model S → ℕ
rounds_of k m = highest_below (rank_of k m) m.states
