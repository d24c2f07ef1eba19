-- `put_lines`: the lines of the states so far are put.
use Rattle.tables.specs.Calls.{left_of}
use Rattle.reports.proofs.StateLines.{Lines}
use Rattle.reports.proofs.report.put_lines.Given as goal

abbrev pub invariant-loop-state : goal.invariant-loop-state
invariant-loop-state l = Lines (left_of l.table) l.initial.page l.page l.state
