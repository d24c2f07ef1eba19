-- `ranked`: a table that was sized has states, so that check answers.
use Rattle.std.proofs.Common.{arith}
use Rattle.reports.proofs.Runs.{check_answers}
use Rattle.reports.proofs.report.ranked.Goals as goal

pub returns-in_err-check-clause-ran : goal.returns-in_err-check-clause-ran
returns-in_err-check-clause-ran c =
    let sized = c.in_ok-size.ensures.sized c.requires.sound in
    let loads = c.load.ensures.loads sized.sound in
    absurd (check_answers sized (omega (arith, c.state_count.ensures)) loads (c.in_err-check.ensures.checked loads.sound))
