-- `put_lines`: no line yet, one more, and the closing line; with room for all, none is refused.
use Rattle.std.proofs.Common.{◌≡◌, arith}
use Rattle.tables.specs.Calls.{left_of}
use Rattle.reports.proofs.StateLines.{lines_none, lines_more, lines_all, not_refused, rank_told}
use Rattle.reports.proofs.report.put_lines.Goals as goal

pub loop-state-init : goal.loop-state-init
loop-state-init c = lines_none (left_of c.args.table.now) c.args.page.now (omega (arith, c.requires.room))

pub returns-in_err-put_state : goal.returns-in_err-put_state
returns-in_err-put_state c =
    let rank = rank_told c.loop-state.state c.unwrap-rank.result c.requires.sound (rw c.unwrap-rank.ensures at c.rank.ensures) in
    let inside = rw c.requires.verdict.states at c.loop-state-test.true in
    absurd (not_refused c.loop-state.invariant c.requires.sound.proper.orderly.few c.requires.room inside (rw rank at c.in_err-put_state.ensures))

pub loop-state-preserved : goal.loop-state-preserved
loop-state-preserved c =
    let rank = rank_told c.loop-state.state c.unwrap-rank.result c.requires.sound (rw c.unwrap-rank.ensures at c.rank.ensures) in
    let inside = rw c.requires.verdict.states at c.loop-state-test.true in
    lines_more c.loop-state.invariant c.requires.sound.proper.orderly.few c.requires.room inside c.put_state.new.page (rw rank at c.in_ok-put_state.ensures)

pub returns : goal.returns
returns c =
    let all : c.loop-state.state ≡ c.args.table.now.states = omega (arith, c.requires.verdict.states, c.loop-state-test.false, c.loop-state.auto.state-end) in
    let put = rw (c.requires.verdict.removed, c.requires.verdict.states, c.requires.verdict.rounds) at c.put_removed.ensures in
    let both = lines_all c.loop-state.invariant c.requires.sound.proper.orderly.few c.requires.room all put in
    record { writes = both.0; short = both.1 }
