-- What a piece of text says.
use Rattle.std.specs.Prelude.{ℕ, List, decimal}
use Rattle.std.specs.List.{flat_map}
use Rattle.text.specs.Puts.{hexadecimal}
use Rattle.text.specs.declared.piece.Piece.{Piece}
use Rattle.text.specs.declared.piece.Piece.TheVariants.{Word, Decimal, Hex}

abbrev pub bytes_of : Piece → List ℕ
bytes_of (Word word) = word.now
bytes_of (Decimal number) = decimal number
bytes_of (Hex bytes) = hexadecimal bytes.now

abbrev pub printed : List Piece → List ℕ
printed pieces = flat_map bytes_of pieces
