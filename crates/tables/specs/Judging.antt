-- What a round makes of the ranks, over the bands that a table holds.
use Rattle.std.specs.Prelude.{◌≡◌, ℕ, suc, ◌<◌, ◌≤◌, List}
use Rattle.std.specs.List.{AllByRecursion}
use Rattle.amounts.specs.Kinds.{Kind}
use Rattle.theory.specs.Models.{Model, count_below}
use Rattle.theory.specs.Rounds.{everyone, falls_after, rank_within, rank_of, removed_of, rounds_of}
use Rattle.tables.specs.Held.{Ascending}
use Rattle.tables.specs.Passes.{rank_in}
use Rattle.tables.specs.declared.band.Band.{Band}
use Rattle.tables.specs.declared.tally.Tally.{Tally}

-- bands in order, between states of the table
pub record Orderly {S : Type 0} (states : ℕ) (held : List (Band S)) : Type 0 where
  pub few : states ≤ 256
  pub order : Ascending held
  pub sources : AllByRecursion (λ b. b.source < states) held
  pub targets : AllByRecursion (λ b. b.target < states) held

-- the first ranks are those of the first r rounds
abbrev pub RanksAfter : {S : Type 0} → Kind S → Model S → ℕ → List ℕ → Type 0
RanksAfter k m r ranks = (t : ℕ) → t < m.states → rank_in ranks t ≡ rank_within k m everyone r t

-- a round turned the ranks of r rounds into those of one round more
pub record Round {S : Type 0} (k : Kind S) (m : Model S) (r : ℕ) (after : List ℕ) (fallen : ℕ) : Type 0 where
  pub ranks : RanksAfter k m (suc r) after
  pub counted : fallen ≡ count_below (falls_after k m everyone r) m.states

-- all rounds were run
pub record Ranked {S : Type 0} (k : Kind S) (m : Model S) (after : List ℕ) (tally : Tally) : Type 0 where
  pub ranks : (t : ℕ) → t < m.states → rank_in after t ≡ rank_of k m t
  pub removed : tally.removed ≡ removed_of k m
  pub rounds : tally.rounds ≡ rounds_of k m
