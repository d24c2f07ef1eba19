-- `spell`: the bytes so far are spelled, and the rest of the text is as it was.
use Rattle.std.proofs.Common.{◌≡◌, ◌*◌, ◌++◌, take, drop}
use Rattle.text.specs.Puts.{hexadecimal}
use Rattle.text.proofs.hex.spell.Given as goal

abbrev pub invariant-loop-i : goal.invariant-loop-i
invariant-loop-i l = l.text ≡ hexadecimal (take l.i l.bytes) ++ drop (2 * l.i) l.initial.text
