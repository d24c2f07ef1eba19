-- What a whole input holds: its records in order, and the fault that ends it, if one does.
use Rattle.std.specs.Prelude.{ℕ, zero, suc, ◌+◌, ◌*◌, List, [], ◌∷◌, length, Some, None, Ok, Err, Option, Result}
use Rattle.records.specs.declared.fault.RecordFault.{RecordFault}
use Rattle.records.specs.Encoding.{Says, Told}
use Rattle.records.specs.Format.{Entry, record_at}

pub record Contents : Type 0 where
  pub entries : List Entry
  pub ending : Option RecordFault

-- what stands at a cursor, and then what follows it
abbrev pub and_then : Result (Option Entry) RecordFault → Contents → Contents
and_then (Ok None) later = record { entries = []; ending = None }
and_then (Ok (Some e)) later = record { entries = e ∷ later.entries; ending = later.ending }
and_then (Err f) later = record { entries = []; ending = Some f }

-- what the input holds from a cursor on, in at most `turns` steps of one record
unfoldable pub contents_in : ℕ → List ℕ → ℕ → Contents
contents_in zero bytes at = record { entries = []; ending = None }
contents_in (suc turns) bytes at = and_then (record_at bytes at) (contents_in turns bytes (at + 12))

-- an input has fewer records than bytes, so the steps suffice
abbrev pub contents_from : List ℕ → ℕ → Contents
contents_from bytes at = contents_in (length bytes + 1) bytes at

abbrev pub contents : List ℕ → Contents
contents bytes = contents_from bytes 0

-- entries stand one after another from `at` on
abbrev pub StandFrom : List ℕ → ℕ → List Entry → Type 0
StandFrom bytes at [] = Unit {0}
StandFrom bytes at (e ∷ es) = Says bytes at e × StandFrom bytes (at + 12) es

-- what the reader answers after the last record
abbrev pub last_answer : Option RecordFault → Result (Option Entry) RecordFault
last_answer None = Ok None
last_answer (Some f) = Err f

-- the input is what `held` says: its records stand one after another from the first byte on, and then comes the end or the fault
pub record Holds (bytes : List ℕ) (held : Contents) : Type 0 where
  pub records : StandFrom bytes 0 held.entries
  pub ending : Told bytes (12 * length held.entries) (last_answer held.ending)
