-- What the functions on one record's twelve bytes mean.
use Rattle.std.specs.Prelude.{◌≡◌, ℕ, ◌+◌, ◌<◌, ◌≤◌, List, length, Some, None, Ok, Err, Option, Result, ◌≢◌}
use Rattle.std.specs.Borrow.{Bor}
use Rattle.records.specs.declared.fault.RecordFault.{RecordFault}
use Rattle.records.specs.declared.record.Record.{Record}
use Rattle.records.specs.declared.record.Record.TheVariants.{Band, Name}
use Rattle.records.specs.Format.{Entry, byte}
use Rattle.records.specs.Reading.{said}

abbrev pub said_of : Result Record RecordFault → Result Entry RecordFault
said_of (Ok r) = Ok (said r)
said_of (Err f) = Err f

-- a name lies in the record's own bytes
abbrev pub InRecord : Bor (List ℕ) → Result Record RecordFault → Type 0
InRecord r (Ok (Band source target low high)) = Unit {0}
InRecord r (Ok (Name state place part)) = part.ref_ptr ≡ (r.ref_ptr.0, r.ref_ptr.1 + 4)
InRecord r (Err f) = Unit {0}

-- the bytes r are read as a, where `want` is what the format has of them
pub record ReadAs (r : Bor (List ℕ)) (want : Result Entry RecordFault) (a : Result Record RecordFault) : Type 0 where
  pub answer : said_of a ≡ want
  pub in_record : InRecord r a

-- p is the lowest position from `from` on whose byte is not 00
abbrev pub FirstNonzero : List ℕ → ℕ → Option ℕ → Type 0
FirstNonzero r from None = (k : ℕ) → from ≤ k → k < length r → byte r k ≡ 0
FirstNonzero r from (Some p) = (from ≤ p) × (p < length r) × (byte r p ≢ 0) × ((k : ℕ) → from ≤ k → k < p → byte r k ≡ 0)
