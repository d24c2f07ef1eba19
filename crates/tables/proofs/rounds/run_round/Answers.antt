-- `run_round`: a state falls or stays, and all are judged.
use Rattle.std.proofs.Common.{arith}
use Rattle.tables.proofs.Rounding.{midway_none, midway_all, fallen_more, fallen_same, standing_less}
use Rattle.tables.proofs.rounds.run_round.Goals as goal
use Rattle.tables.proofs.rounds.run_round.Goals.{then-falls, else-falls}

pub loop-t-init : goal.loop-t-init
loop-t-init g c = (omega arith, omega arith, λ orderly r is after. midway_none _ _ r _ after)

pub loop-t-preserved : goal.loop-t-preserved
loop-t-preserved g c =
    let inside = c.loop-t-test.true in
    elim c.if-falls.branch [
      | then-falls w ↦ (
        omega (arith, w.fallen-is, c.loop-t.invariant.0),
        rw (w.fallen-is, w.ranks-is) (omega (arith, c.loop-t.invariant.1, standing_less c.loop-t.ranks c.loop-t.t c.args.round (omega (arith, c.loop-t.auto.ranks)) (c.falls.ensures.unranked w.if-falls.true) c.requires.some)),
        λ orderly r is after.
            rw (w.ranks-is, w.fallen-is, is) (fallen_more _ _ r (c.loop-t.invariant.2 orderly r is after) inside c.falls.result (rw is at (c.falls.ensures.falls _ orderly)) w.if-falls.true (omega (arith, c.loop-t.auto.ranks))),
      )
      | else-falls w ↦ (
        omega (arith, w.fallen-is, c.loop-t.invariant.0),
        rw (w.fallen-is, w.ranks-is) c.loop-t.invariant.1,
        λ orderly r is after.
            rw (w.ranks-is, w.fallen-is) (fallen_same _ _ r (c.loop-t.invariant.2 orderly r is after) inside c.falls.result (rw is at (c.falls.ensures.falls _ orderly)) w.if-falls.false),
      )
    ]

pub returns : goal.returns
returns g c = record {
  fell = c.loop-t.invariant.1;
  round = λ orderly r is after. midway_all _ _ r c.loop-t.t (omega (arith, c.loop-t.auto.t-end)) (c.loop-t.invariant.2 orderly r is after);
}
