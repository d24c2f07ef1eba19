-- `put_refused`: its numbers have 8 and 64 bits, so the line is short.
use Rattle.std.proofs.Common.{arith, length-append}
use Rattle.std.proofs.lemmas.Fmt.{length-decimal-le}
use Rattle.text.proofs.refused.put_refused.Goals as goal

pub returns-clause-short : goal.returns-clause-short
returns-clause-short c =
    let number = rw c.number.ensures at (length-decimal-le 3 c.number.result (omega arith) (omega arith) (omega arith)) in
    let index = length-decimal-le 20 c.args.index (omega arith) (omega arith) (omega arith) in
    let place = rw c.place.ensures at (length-decimal-le 20 c.place.result (omega arith) (omega arith) (omega arith)) in
    simp length-append (omega (arith, number, index, place))
