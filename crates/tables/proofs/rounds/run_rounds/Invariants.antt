-- `run_rounds`: the ranks are those of the rounds so far.
use Rattle.std.proofs.Common.{◌+◌, ◌≤◌}
use Rattle.tables.specs.Held.{model_of}
use Rattle.tables.specs.Judging.{Orderly}
use Rattle.tables.specs.Passes.{standing_count}
use Rattle.tables.proofs.Rounding.{Sofar}
use Rattle.tables.proofs.rounds.run_rounds.Given as goal

abbrev pub invariant-loop-rounds : goal.invariant-loop-rounds
invariant-loop-rounds g l =
    (l.rounds ≤ l.removed) × (l.removed + standing_count l.ranks ≤ l.states)
    × (Orderly l.states l.held → Sofar g.K.Amount.kind (model_of g.K.Amount.kind l.states l.held) l.rounds l.ranks l.removed)
