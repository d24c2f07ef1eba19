-- `hex_len`: a byte has two digits.
use Rattle.std.proofs.Common.{sym}
use Rattle.text.proofs.Hexadecimal.{length-hexadecimal}
use Rattle.text.proofs.hex.hex_len.Goals as goal

pub returns : goal.returns
returns c = sym (length-hexadecimal c.args.bytes.now)
