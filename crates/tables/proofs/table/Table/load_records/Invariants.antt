-- `load_records`: the records before the cursor are accepted, and each turn reads one more.
use Rattle.std.proofs.Common.{◌-◌, length}
use Rattle.tables.proofs.Loads.{Loading}
use Rattle.tables.proofs.table.Table.load_records.Given as goal

abbrev pub invariant-records : goal.invariant-records
invariant-records g l = Loading g.K.Amount.kind g.K.RecordNumber.amount_of l.initial.self l.self l.records l.reader l.counts

abbrev pub decreases-records : goal.decreases-records
decreases-records g l = length l.records - l.reader.cursor
