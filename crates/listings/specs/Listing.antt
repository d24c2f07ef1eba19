-- The text that tells what a record file holds.
use Rattle.std.specs.Prelude.{◌≡◌, ℕ, ◌≤◌, List, ◌++◌, length, drop, Some, None, Ok, Err, codes, decimal, Option, Result, nat_le, nat_lt, if◌then◌else◌}
use Rattle.std.specs.List.{flat_map}
use Rattle.refusals.specs.declared.Refusal.{Refusal}
use Rattle.refusals.specs.declared.Refusal.TheVariants.{LongInput, ShortList}
use Rattle.records.specs.Contents.{Contents, Holds, contents}
use Rattle.records.specs.Counts.{counts_of}
use Rattle.records.specs.declared.counts.Counts.{Counts}
use Rattle.records.specs.Faults.{refusal_of}
use Rattle.records.specs.Format.{Entry, band, name}
use Rattle.records.specs.declared.fault.RecordFault.{RecordFault}
use Rattle.text.specs.Puts.{hexadecimal}
use Rattle.text.specs.Refused.{refused_line}

abbrev pub band_line : ℕ → ℕ → ℕ → ℕ → List ℕ
band_line source target low high =
    codes "band " ++ (decimal source ++ (codes " " ++ (decimal target ++ (codes " " ++ (decimal low ++ (codes " " ++ (decimal high ++ codes "\n")))))))

abbrev pub name_line : ℕ → List ℕ → List ℕ
name_line state bytes = codes "name " ++ (decimal state ++ (codes " " ++ (hexadecimal bytes ++ codes "\n")))

abbrev pub line : Entry → List ℕ
line (band source target low high) = band_line source target low high
line (name state place bytes) = name_line state bytes

abbrev pub counts_line : Counts → List ℕ
counts_line counts = decimal counts.bands ++ (codes " bands, " ++ (decimal counts.names ++ codes " names\n"))

-- the last line: how many records there were, or the fault that ended them
abbrev pub closing : List Entry → Option RecordFault → List ℕ
closing entries None = counts_line (counts_of entries)
closing entries (Some fault) = refused_line (refusal_of fault) (length entries)

abbrev pub lines_of : Contents → List ℕ
lines_of held = flat_map line held.entries ++ closing held.entries held.ending

-- what is printed of an input: at most 61,440 bytes are looked at
abbrev pub listing : List ℕ → List ℕ
listing bytes = if nat_lt 61_440 (length bytes) then refused_line LongInput 0 else lines_of (contents bytes)

-- a text under 180,000 bytes, which every listing fits, is refused and left as it was; later bytes are never touched.
-- What is listed is what the input holds.
pub record Listed (bytes old new : List ℕ) (r : Result ℕ Refusal) : Type 0 where
  pub answer : r ≡ if nat_le 180_000 (length old) then Ok (length (listing bytes)) else Err (ShortList 180_000)
  pub writes : new ≡ if nat_le 180_000 (length old) then listing bytes ++ drop (length (listing bytes)) old else old
  pub fits : 180_000 ≤ length old → length (listing bytes) ≤ 180_000
  pub holds : 180_000 ≤ length old → length bytes ≤ 61_440 → Holds bytes (contents bytes)
