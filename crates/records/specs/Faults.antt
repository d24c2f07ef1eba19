-- Which refusal a fault of the reader is.
use Rattle.refusals.specs.declared.Refusal.{Refusal}
use Rattle.refusals.specs.declared.Refusal.TheVariants as refusals
use Rattle.records.specs.declared.fault.RecordFault.{RecordFault}
use Rattle.records.specs.declared.fault.RecordFault.TheVariants.{Partial, UnknownKind, WrongByte}

abbrev pub refusal_of : RecordFault → Refusal
refusal_of (Partial bytes) = refusals.PartialRecord bytes
refusal_of (UnknownKind byte) = refusals.UnknownRecord byte
refusal_of (WrongByte position) = refusals.WrongByte position
