-- `spell`: two digits more each turn, and no text is left after the last.
use Rattle.std.proofs.Common.{◌*◌, ◌∙◌, arith}
use Rattle.std.proofs.lemmas.List.{append-nil, drop_all, take_all}
use Rattle.text.specs.Puts.{hexadecimal}
use Rattle.text.proofs.Hexadecimal.{length-hexadecimal, byte_room, spelled_more}
use Rattle.text.proofs.hex.spell.Goals as goal

pub slice_bounds-copy_from_slice-end : goal.slice_bounds-copy_from_slice-end
slice_bounds-copy_from_slice-end c = byte_room c.args.bytes.now c.loop-i.i c.loop-i-test.true (c.loop-i.auto.text ∙ c.requires)

pub loop-i-preserved : goal.loop-i-preserved
loop-i-preserved c = rw (c.copy_from_slice.ensures.after, c.digits.ensures) (spelled_more c.args.bytes.now c.loop-i.i c.loop-i-test.true c.args.text.now c.loop-i.text c.loop-i.invariant _ (omega arith))

pub returns : goal.returns
returns c =
    let all = take_all c.loop-i.i c.args.bytes.now c.loop-i-test.false in
    let none = drop_all (2 * c.loop-i.i) c.args.text.now (omega (arith, c.requires, length-hexadecimal c.args.bytes.now, c.loop-i-test.false)) in
    rw (all, none) at c.loop-i.invariant ∙ append-nil (hexadecimal c.args.bytes.now)
