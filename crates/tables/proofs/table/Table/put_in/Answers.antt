-- `put_in`: the bands after it are moved up, and the new one is in its place.
use Rattle.tables.proofs.Shifts.{put_in}
use Rattle.tables.proofs.table.Table.put_in.Goals as goal

pub returns-clause-put : goal.returns-clause-put
returns-clause-put g c =
    rw c.copy_within.ensures.after
    (put_in c.args.self.now.bands.now c.args.self.now.held c.args.at c.args.band c.requires.within c.requires.room)
