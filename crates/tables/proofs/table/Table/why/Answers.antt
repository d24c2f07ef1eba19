-- `why`: a ranked state is judged once more by the ranks.
use Rattle.std.proofs.Common.{sym, ◌∙◌}
use Rattle.tables.specs.Passes.{rank_in}
use Rattle.tables.proofs.Reasoning as reasoning
use Rattle.tables.proofs.table.Table.why.Goals as goal

pub returns : goal.returns
returns g c sound in_force =
    let t = c.args.self.now in
    let ranked = reasoning.rank_some (rank_in t.ranks.now c.args.state) c.in_ok-round.round (sym c.in_ok-round.was ∙ c.rank_of.ensures) in
    (rw c.held_bands.ensures at c.reason_of.ensures) t.states sound.proper.orderly
    ∙ rw ranked.1 (reasoning.reason_found g.K.Amount.kind t sound in_force c.args.state c.requires.inside ranked.0)
