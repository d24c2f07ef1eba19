-- `reason_in`: one band more, a lost target, and the end of the pass.
use Rattle.std.proofs.Common.{◌+◌, drop, sym, ◌∙◌}
use Rattle.tables.specs.Passes.{remaining}
use Rattle.tables.proofs.Turns as turns
use Rattle.tables.proofs.reasons.reason_in.Goals as goal
use Rattle.tables.proofs.reasons.reason_in.Goals.{then-contains, else-contains+else-not-at_most, else-loop-band-test, then-loop-band-test+then-band-source}

pub returns-then-not-at_most : goal.returns-then-not-at_most
returns-then-not-at_most g c =
    let k = g.K.Amount.kind in
    let x = remaining c.args.set.now in
    let next = turns.next k x c.args.source c.loop-band.crossed c.loop-band.low c.loop-band.high c.args.part.now c.loop-band.band-index c.band-item.result c.loop-band-test.true c.band-item.is in
    let out = sym c.if-contains.ensures in
    let some = rw c.nothing.ensures at (sym c.if-not-at_most.ensures) in
    rw c.from.ensures
    (sym (turns.lost k x c.args.source c.loop-band.crossed c.loop-band.low c.loop-band.high c.band-item.result (drop (c.loop-band.band-index + 1) c.args.part.now) c.if-band-source.false out some)
    ∙ sym next ∙ c.loop-band.invariant)

pub loop-band-preserved : goal.loop-band-preserved
loop-band-preserved g c =
    let k = g.K.Amount.kind in
    let x = remaining c.args.set.now in
    let next = turns.next k x c.args.source c.loop-band.crossed c.loop-band.low c.loop-band.high c.args.part.now c.loop-band.band-index c.band-item.result c.loop-band-test.true c.band-item.is in
    let later = drop (c.loop-band.band-index + 1) c.args.part.now in
    elim c.if-contains.branch [
      | then-contains w ↦
          rw (w.crossed-is, w.low-is, w.high-is, w.or-crossed.ensures, w.crossing.ensures, w.total-low.ensures, w.total-high.ensures)
          (sym (turns.inside k x c.args.source c.loop-band.crossed c.loop-band.low c.loop-band.high c.band-item.result later c.if-band-source.false (sym w.if-contains.ensures))
          ∙ sym next ∙ c.loop-band.invariant)
      | else-contains+else-not-at_most w ↦
          rw (w.crossed-is, w.low-is, w.high-is)
          (sym (turns.outside k x c.args.source c.loop-band.crossed c.loop-band.low c.loop-band.high c.band-item.result later c.if-band-source.false (sym w.if-contains.ensures) (rw w.nothing.ensures at (sym w.if-not-at_most.ensures)))
          ∙ sym next ∙ c.loop-band.invariant)
    ]

pub returns : goal.returns
returns g c =
    let k = g.K.Amount.kind in
    let x = remaining c.args.set.now in
    c.ended.ensures
    ∙ elim c.loop-band-test.branch [
      | else-loop-band-test w ↦
          sym (turns.last k x c.args.source c.loop-band.crossed c.loop-band.low c.loop-band.high c.args.part.now c.loop-band.band-index w.loop-band-test.false) ∙ c.loop-band.invariant
      | then-loop-band-test+then-band-source w ↦
          sym (turns.next k x c.args.source c.loop-band.crossed c.loop-band.low c.loop-band.high c.args.part.now c.loop-band.band-index w.band-item.result w.loop-band-test.true w.band-item.is
          ∙ turns.other_source k x c.args.source c.loop-band.crossed c.loop-band.low c.loop-band.high w.band-item.result (drop (c.loop-band.band-index + 1) c.args.part.now) w.if-band-source.true)
          ∙ c.loop-band.invariant
    ]
