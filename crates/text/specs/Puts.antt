-- What it means to put a text into the caller's bytes.
use Rattle.std.specs.Prelude.{◌≡◌, ℕ, ◌+◌, ◌-◌, ◌/◌, ◌%◌, ◌^◌, min, true, List, [], ◌∷◌, ◌++◌, length, take, drop, Ok, Err, Result, nat_le, if◌then◌else◌}
use Rattle.std.specs.Fmt.{digit_glyph}
use Rattle.text.specs.declared.room.TooShort.{TooShort}

-- so many bytes are needed, as far as 64 bits can say it
abbrev pub too_short : ℕ → TooShort
too_short need = record { need = min need (2 ^ 64 - 1) }

-- where a text of `count` bytes that begins at `at` ends, if it fits into `len` bytes
abbrev pub end_of : ℕ → ℕ → ℕ → Result ℕ TooShort
end_of len at count = if nat_le (at + count) len then Ok (at + count) else Err (too_short (at + count))

-- old with ys over it from `at` on
abbrev pub overlaid : List ℕ → ℕ → List ℕ → List ℕ
overlaid old at ys = take at old ++ (ys ++ drop (at + length ys) old)

-- ys was put into old at `at`: where it does not fit, nothing is written
pub record Put (old : List ℕ) (at : ℕ) (ys new : List ℕ) (r : Result ℕ TooShort) : Type 0 where
  pub answer : r ≡ end_of (length old) at (length ys)
  pub writes : new ≡ if nat_le (at + length ys) (length old) then overlaid old at ys else old

-- each byte as two digits, in upper case
abbrev pub hexadecimal : List ℕ → List ℕ
hexadecimal [] = []
hexadecimal (b ∷ bs) = digit_glyph true (b / 16) ∷ digit_glyph true (b % 16) ∷ hexadecimal bs
