-- `state_count`: one record more, and the end or a fault.
use Rattle.std.proofs.Common.{◌≡◌, Ok, None}
use Rattle.records.specs.Reading.{said}
use Rattle.reports.proofs.Largest.{sofar_more, counted_at_end, counted_at_fault}
use Rattle.reports.proofs.states.state_count.Goals as goal
use Rattle.reports.proofs.states.state_count.Goals.{in_default, in_default-2}

pub records-preserved : goal.records-preserved
records-preserved c =
    let read = rw c.in-Ok-Some.field-0-is at c.in-Ok-Some.ensures in
    sofar_more c.records.invariant (said c.in-Ok-Some.entry) read.stands.answer c.next.new.self c.larger_state-largest.result c.larger_state-largest.type_inv read.input read.cursor c.larger_state-largest.ensures

pub returns : goal.returns
returns c = rw c.from.ensures (elim c.match-next.branch [
  | in_default w ↦
      let none : c.next.result ≡ Ok None = cc in
      counted_at_end c.records.invariant (rw none at c.next.ensures.stands.answer)
  | in_default-2 w ↦ counted_at_fault c.records.invariant w.in_default.field-0 (rw w.in_default.is at c.next.ensures.stands.answer)
])
