-- `put_records`: the records before the cursor are listed, and each turn reads one more.
use Rattle.std.proofs.Common.{◌-◌, length}
use Rattle.listings.proofs.Sofar.{Sofar}
use Rattle.listings.proofs.list.put_records.Given as goal

abbrev pub invariant-records : goal.invariant-records
invariant-records l = Sofar l.records l.initial.page l.reader l.page l.counts

abbrev pub decreases-records : goal.decreases-records
decreases-records l = length l.records - l.reader.cursor
