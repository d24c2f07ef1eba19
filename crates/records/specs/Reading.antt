-- What a call of the reader means.
use Rattle.std.specs.Prelude.{◌≡◌, ℕ, ◌+◌, ◌^◌, ◌<◌, List, Some, None, Ok, Err, Option, Result}
use Rattle.std.specs.Borrow.{Bor}
use Rattle.records.specs.declared.fault.RecordFault.{RecordFault}
use Rattle.records.specs.declared.record.Record.{Record}
use Rattle.records.specs.declared.record.Record.TheVariants.{Band, Name}
use Rattle.records.specs.declared.reader.Reader.{Reader}
use Rattle.records.specs.Encoding.{Tells}
use Rattle.records.specs.Format.{Entry, band, name, record_at}

-- what a record says, without its reference
abbrev pub said : Record → Entry
said (Band source target low high) = band source target low high
said (Name state place part) = name state place part.now

abbrev pub answered : Result (Option Record) RecordFault → Result (Option Entry) RecordFault
answered (Ok None) = Ok None
answered (Ok (Some r)) = Ok (Some (said r))
answered (Err f) = Err f

-- a name lies in the input itself, at its place
abbrev pub InPlace : ℕ × ℕ → Record → Type 0
InPlace origin (Band source target low high) = Unit {0}
InPlace origin (Name state place part) = part.ref_ptr ≡ (origin.0, origin.1 + place)

abbrev pub NoCopy : ℕ × ℕ → Result (Option Record) RecordFault → Type 0
NoCopy origin (Ok None) = Unit {0}
NoCopy origin (Ok (Some r)) = InPlace origin r
NoCopy origin (Err f) = Unit {0}

-- the cursor after an answer
abbrev pub past : ℕ → Result (Option Record) RecordFault → ℕ
past at (Ok None) = at
past at (Ok (Some r)) = at + 12
past at (Err f) = at

-- r is what stands at `at` in the input
pub record StandsAt (input : Bor (List ℕ)) (at : ℕ) (r : Result (Option Record) RecordFault) : Type 0 where
  pub answer : answered r ≡ record_at input.now at
  pub tells : Tells input.now at (answered r)
  pub in_place : NoCopy input.ref_ptr r
  pub within : past at r < 2 ^ 64

pub record Next (before after : Reader) (r : Result (Option Record) RecordFault) : Type 0 where
  pub stands : StandsAt before.bytes before.cursor r
  pub cursor : after.cursor ≡ past before.cursor r
  pub input : after.bytes ≡ before.bytes
