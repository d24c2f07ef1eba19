-- `reason_in`: what is left of the pass gives what the whole gives.
use Rattle.std.proofs.Common.{◌≡◌, drop, None}
use Rattle.tables.specs.Passes.{remaining, passed}
use Rattle.tables.proofs.reasons.reason_in.Given as goal

abbrev pub invariant-loop-band : goal.invariant-loop-band
invariant-loop-band g l =
    passed g.K.Amount.kind (remaining l.set) l.source l.crossed l.low l.high (drop l.band-index l.part)
    ≡ passed g.K.Amount.kind (remaining l.set) l.source None g.K.Amount.kind.nothing g.K.Amount.kind.nothing l.part
