-- The record format: what twelve bytes hold, where they are wrong, and what stands at a cursor.
use Rattle.std.specs.Prelude.{ℕ, zero, suc, ◌+◌, ◌*◌, Bool, not, ◌&&◌, ◌||◌, List, length, take, drop, Some, None, Ok, Err, Option, Result, ◌==◌, nat_le, nat_lt, slice_index, if◌then◌else◌}
use Rattle.records.specs.declared.fault.RecordFault.{RecordFault}
use Rattle.records.specs.declared.fault.RecordFault.TheVariants.{Partial, UnknownKind, WrongByte}

-- what a record says; a name has the place of its first byte in the input
pub data Entry : Type 0 where
  band : (source target low high : ℕ) → Entry
  name : (state place : ℕ) (bytes : List ℕ) → Entry

abbrev pub byte : List ℕ → ℕ → ℕ
byte r p = slice_index r p

-- the number in the four bytes from p on, least significant first
abbrev pub number : List ℕ → ℕ → ℕ
number r p = byte r p + byte r (p + 1) * 256 + byte r (p + 2) * 65536 + byte r (p + 3) * 16777216

abbrev pub is_band : List ℕ → Bool
is_band r = byte r 0 == 0x42

abbrev pub is_name : List ℕ → Bool
is_name r = byte r 0 == 0x4E

-- byte 3 must be 00, and so must the bytes after a name
abbrev pub must_be_zero : List ℕ → ℕ → Bool
must_be_zero r p = p == 3 || (is_name r && nat_le (4 + byte r 2) p)

-- a name has 1 to 8 bytes
abbrev pub name_length : ℕ → Bool
name_length n = nat_le 1 n && nat_le n 8

abbrev pub wrong_length : List ℕ → Bool
wrong_length r = is_name r && not (name_length (byte r 2))

abbrev pub wrong_at : List ℕ → ℕ → Bool
wrong_at r p = (must_be_zero r p && not (byte r p == 0)) || (p == 2 && wrong_length r)

-- the lowest of the n numbers from p on that passes a test
unfoldable pub lowest : (ℕ → Bool) → ℕ → ℕ → Option ℕ
lowest test p zero = None
lowest test p (suc n) = if test p then Some p else lowest test (suc p) n

abbrev pub wrong_position : List ℕ → Option ℕ
wrong_position r = lowest (wrong_at r) 0 12

abbrev pub band_in : List ℕ → Entry
band_in r = band (byte r 1) (byte r 2) (number r 4) (number r 8)

-- r begins at `at` in the input
abbrev pub name_in : List ℕ → ℕ → Entry
name_in r at = name (byte r 1) (at + 4) (take (byte r 2) (drop 4 r))

abbrev pub unless_wrong : Option ℕ → Entry → Result Entry RecordFault
unless_wrong None e = Ok e
unless_wrong (Some p) e = Err (WrongByte p)

abbrev pub record_of : List ℕ → ℕ → Result Entry RecordFault
record_of r at = if is_band r || is_name r then unless_wrong (wrong_position r) (if is_band r then band_in r else name_in r at) else Err (UnknownKind (byte r 0))

abbrev pub present : Result Entry RecordFault → Result (Option Entry) RecordFault
present (Ok e) = Ok (Some e)
present (Err f) = Err f

-- what stands at a cursor: the end, a fault, or a record
abbrev pub record_at : List ℕ → ℕ → Result (Option Entry) RecordFault
record_at bytes at =
    let rest : List ℕ = drop at bytes in
    if length rest == 0 then Ok None else (if nat_lt (length rest) 12 then Err (Partial (length rest)) else present (record_of (take 12 rest) at))
