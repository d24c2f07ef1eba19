-- `take_out`: the bands after it are moved down.
use Rattle.tables.proofs.Shifts.{take_out}
use Rattle.tables.proofs.table.Table.take_out.Goals as goal

pub returns-clause-taken : goal.returns-clause-taken
returns-clause-taken g c =
    rw c.copy_within.ensures.after
    (take_out c.args.self.now.bands.now c.args.self.now.held c.args.at c.requires.there c.args.self.now.within)
