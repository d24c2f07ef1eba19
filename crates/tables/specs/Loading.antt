-- What a load of records leaves, and where it stops.
use Rattle.std.specs.Prelude.{◌≡◌, ℕ, ◌+◌, List, [], ◌∷◌, length, is_some, Some, None, Ok, Err, Option, Result, ◌==◌, if◌then◌else◌}
use Rattle.std.specs.Option.{option_or, unwrap_or}
use Rattle.amounts.specs.Kinds.{Kind}
use Rattle.records.specs.Contents.{Contents, contents}
use Rattle.records.specs.Counts.{counts_of}
use Rattle.records.specs.Format.{Entry, band, name}
use Rattle.records.specs.declared.counts.Counts.{Counts}
use Rattle.records.specs.declared.fault.RecordFault.{RecordFault}
use Rattle.refusals.specs.declared.Bound.{Bound}
use Rattle.refusals.specs.declared.Bound.TheVariants.{Low, High}
use Rattle.refusals.specs.declared.Refusal.{Refusal}
use Rattle.refusals.specs.declared.Refusal.TheVariants.{NoAmount, NoStates}
use Rattle.tables.specs.Calls.{left_of, Sound}
use Rattle.tables.specs.Left.{Left, answered, leaves, no_such_state, set_refusal, banded}
use Rattle.tables.specs.declared.band.Band.{Band}
use Rattle.tables.specs.declared.load.LoadFault.{LoadFault}
use Rattle.tables.specs.declared.load.LoadFault.TheVariants.{Records, Table as OfTable}
use Rattle.tables.specs.declared.table.Table.{Table}

-- `amount_of` gives the amount that a record number stands for, if it stands for one
module _ {S : Type 0} (k : Kind S) (amount_of : ℕ → Option S) where
  abbrev pub no_number : Bound → ℕ → Option Refusal
  no_number bound n = if is_some (amount_of n) then None else Some (NoAmount bound)

  -- the band of a record whose numbers stand for amounts
  abbrev pub band_said : ℕ → ℕ → ℕ → ℕ → Band S
  band_said source target low high = record { source = source; target = target; low = unwrap_or (amount_of low) k.nothing; high = unwrap_or (amount_of high) k.nothing }

  -- a record is looked at as a set would be; of a name only the state is looked at
  abbrev pub entry_refusal : Left S → Entry → Option Refusal
  entry_refusal l (band source target low high) =
      option_or (no_such_state l.states 0 source)
      (option_or (no_such_state l.states 1 target)
      (option_or (no_number Low low) (option_or (no_number High high) (set_refusal k l (band_said source target low high)))))
  entry_refusal l (name state place bytes) = no_such_state l.states 0 state

  -- what a record leaves that is not refused
  abbrev pub entry_left : Left S → Entry → Left S
  entry_left l (band source target low high) = banded k l (band_said source target low high)
  entry_left l (name state place bytes) = l

-- what loading some records leaves; how many of them were accepted; and why the next one was not, if it was refused
pub record Loaded (S : Type 0) : Type 0 where
  pub left : Left S
  pub accepted : ℕ
  pub refusal : Option Refusal

abbrev pub and_one : {S : Type 0} → Option Refusal → Left S → Loaded S → Loaded S
and_one None l later = record { left = later.left; accepted = 1 + later.accepted; refusal = later.refusal }
and_one (Some refusal) l later = record { left = l; accepted = 0; refusal = Some refusal }

unfoldable pub loaded : {S : Type 0} → Kind S → (ℕ → Option S) → Left S → List Entry → Loaded S
loaded k amount_of l [] = record { left = l; accepted = 0; refusal = None }
loaded k amount_of l (e ∷ es) = and_one (entry_refusal k amount_of l e) l (loaded k amount_of (entry_left k amount_of l e) es)

-- a record was accepted or refused
pub record Accepts {S : Type 0} (k : Kind S) (amount_of : ℕ → Option S) (before after : Table S) (e : Entry) (r : Result (Unit {0}) Refusal) : Type 0 where
  pub answer : r ≡ answered (entry_refusal k amount_of (left_of before) e) tt
  pub left : left_of after ≡ leaves (entry_refusal k amount_of (left_of before) e) (left_of before) (entry_left k amount_of (left_of before) e)
  pub sound : Sound k after

-- the answer: the table's refusal, else the reader's fault, else the counts
abbrev pub end_answer : List Entry → Option RecordFault → Result Counts LoadFault
end_answer entries (Some fault) = Err (Records (length entries) fault)
end_answer entries None = Ok (counts_of entries)

abbrev pub load_answer : Contents → ℕ → Option Refusal → Result Counts LoadFault
load_answer held accepted (Some refusal) = Err (OfTable accepted refusal)
load_answer held accepted None = end_answer held.entries held.ending

abbrev pub load_of : {S : Type 0} → Kind S → (ℕ → Option S) → Left S → List ℕ → Loaded S
load_of k amount_of l bytes = loaded k amount_of l (contents bytes).entries

abbrev pub load_result : {S : Type 0} → Kind S → (ℕ → Option S) → Left S → List ℕ → Result Counts LoadFault
load_result k amount_of l bytes = load_answer (contents bytes) (load_of k amount_of l bytes).accepted (load_of k amount_of l bytes).refusal

-- a table without states reads nothing
pub record Loads {S : Type 0} (k : Kind S) (amount_of : ℕ → Option S) (before after : Table S) (bytes : List ℕ) (r : Result Counts LoadFault) : Type 0 where
  pub answer : r ≡ if before.states == 0 then Err (OfTable 0 NoStates) else load_result k amount_of (left_of before) bytes
  pub left : left_of after ≡ if before.states == 0 then left_of before else (load_of k amount_of (left_of before) bytes).left
  pub refused : before.states ≡ 0 → after ≡ before
  pub sound : Sound k after
