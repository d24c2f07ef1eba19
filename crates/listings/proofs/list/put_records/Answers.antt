-- `put_records`: a record, the end and a fault each lead on as the listing has it.
use Rattle.records.proofs.Contents.{holds}
use Rattle.records.specs.Reading.{said}
use Rattle.listings.proofs.Sofar.{closed_at_end, closed_at_fault, not_refused, next}
use Rattle.listings.proofs.list.put_records.Goals as goal

pub returns-in_err-put_record-in-Ok-Some : goal.returns-in_err-put_record-in-Ok-Some
returns-in_err-put_record-in-Ok-Some c =
    let read = rw c.in-Ok-Some.field-0-is at c.in-Ok-Some.ensures in
    absurd (not_refused c.records.invariant (said c.in-Ok-Some.entry) read.stands.answer read.stands.tells.told c.in_err-put_record-in-Ok-Some.ensures)

pub records-preserved : goal.records-preserved
records-preserved c =
    let read = rw c.in-Ok-Some.field-0-is at c.in-Ok-Some.ensures in
    next c.records.invariant (said c.in-Ok-Some.entry) read.stands.answer read.stands.tells.told c.next.new.self c.put_record.new.page c.with-counts.result read.input read.cursor c.in_ok-put_record-in-Ok-Some.ensures c.with-counts.ensures

pub returns-in-Ok-None : goal.returns-in-Ok-None
returns-in-Ok-None c =
    let read = rw c.in-Ok-None.field-0-is at c.in-Ok-None.ensures in
    let both = closed_at_end c.records.invariant read.stands.answer c.put_counts.ensures in
    record { writes = both.0; short = both.1; holds = holds c.args.records.now (λ i. (c.type_inv.records i).fits) }

pub returns-in-Err : goal.returns-in-Err
returns-in-Err c =
    let put = rw c.into.ensures at c.put_refused.ensures in
    let both = closed_at_fault c.records.invariant c.in-Err.fault c.in-Err.ensures.stands.answer put.short put.writes in
    record { writes = both.0; short = both.1; holds = holds c.args.records.now (λ i. (c.type_inv.records i).fits) }
