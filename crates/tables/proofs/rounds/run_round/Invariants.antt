-- `run_round`: the states so far are judged.
use Rattle.std.proofs.Common.{◌≡◌, ℕ, suc, ◌+◌, ◌≤◌, length}
use Rattle.tables.specs.Held.{model_of}
use Rattle.tables.specs.Judging.{Orderly, RanksAfter}
use Rattle.tables.specs.Passes.{standing_count}
use Rattle.tables.proofs.Rounding.{Midway}
use Rattle.tables.proofs.rounds.run_round.Given as goal

abbrev pub invariant-loop-t : goal.invariant-loop-t
invariant-loop-t g l =
    (l.fallen ≤ l.t) × (l.fallen + standing_count l.ranks ≡ standing_count l.initial.ranks)
    × (Orderly (length l.initial.ranks) l.held → (r : ℕ) → l.round ≡ suc r → RanksAfter g.K.Amount.kind (model_of g.K.Amount.kind (length l.initial.ranks) l.held) r l.initial.ranks
    → Midway g.K.Amount.kind (model_of g.K.Amount.kind (length l.initial.ranks) l.held) r l.t l.ranks l.fallen)
