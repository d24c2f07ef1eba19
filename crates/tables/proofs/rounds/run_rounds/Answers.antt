-- `run_rounds`: a round more, a round in which none falls, and as many rounds as states.
use Rattle.std.proofs.Common.{◌==◌, sym, refl, ◌∙◌, arith, rules}
use Rattle.std.proofs.lemmas.List.Sums.{count_by-le-length}
use Rattle.tables.proofs.Rounding.{none_yet, sofar_none, sofar_more, sofar_all, sofar_spent, quiet_round}
use Rattle.tables.proofs.rounds.run_rounds.Goals as goal

pub loop-rounds-init : goal.loop-rounds-init
loop-rounds-init g c = (
  omega arith,
  omega (arith, count_by-le-length (λ r. r == 0) c.fill.new.self),
  λ orderly. sofar_none _ _ (none_yet _ _ c.fill.new.self (rw c.fill.ensures.len (c.fill.ensures.after (search rules)))),
)

pub returns-then-fallen-eq0 : goal.returns-then-fallen-eq0
returns-then-fallen-eq0 g c = record {
  bounded = omega (arith, c.loop-rounds.invariant.1, c.fill.ensures.len);
  ranked = rw (← c.fill.ensures.len) (λ orderly.
      let sofar = c.loop-rounds.invariant.2 orderly in
      let round = (rw c.loop-rounds.auto.ranks at c.run_round-fallen.ensures.round) orderly c.loop-rounds.rounds (omega arith) sofar.after in
      sofar_all _ _ sofar (sym round.counted ∙ c.if-fallen-eq0.true) _ (quiet_round _ _ round c.if-fallen-eq0.true) _ refl refl);
}

pub loop-rounds-preserved : goal.loop-rounds-preserved
loop-rounds-preserved g c = (
  omega (arith, c.loop-rounds.invariant.0),
  omega (arith, c.run_round-fallen.ensures.fell, c.loop-rounds.invariant.1),
  λ orderly.
      let sofar = c.loop-rounds.invariant.2 orderly in
      let round = (rw c.loop-rounds.auto.ranks at c.run_round-fallen.ensures.round) orderly c.loop-rounds.rounds (omega arith) sofar.after in
      sofar_more _ _ c.run_round-fallen.new.ranks c.run_round-fallen.result sofar round c.if-fallen-eq0.false,
)

pub returns : goal.returns
returns g c = record {
  bounded = omega (arith, c.loop-rounds.invariant.1, c.fill.ensures.len);
  ranked = rw (← c.fill.ensures.len) (λ orderly. sofar_spent _ _ (c.loop-rounds.invariant.2 orderly) (omega (arith, c.loop-rounds.auto.rounds-end)) _ refl refl);
}
