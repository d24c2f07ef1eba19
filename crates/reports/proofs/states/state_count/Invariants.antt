-- `state_count`: the largest number of the records before the cursor, and each turn reads one more.
use Rattle.std.proofs.Common.{◌-◌, length}
use Rattle.reports.proofs.Largest.{Sofar}
use Rattle.reports.proofs.states.state_count.Given as goal

abbrev pub invariant-records : goal.invariant-records
invariant-records l = Sofar l.records l.reader l.largest

abbrev pub decreases-records : goal.decreases-records
decreases-records l = length l.records - l.reader.cursor
