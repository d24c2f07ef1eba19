-- The report on a record file: which states fall, in which round.
use Rattle.std.specs.Prelude.{IsTrue, ◌≡◌, ℕ, zero, suc, ◌+◌, ◌<◌, ◌≤◌, max, List, [], ◌∷◌, ◌++◌, length, take, drop, Some, None, Ok, Err, codes, decimal, Option, Result, nat_le, nat_lt, if◌then◌else◌}
use Rattle.std.specs.Option.{option_or}
use Rattle.amounts.specs.Shares.{shares, share_of}
use Rattle.amounts.specs.declared.shares.Share.{Share}
use Rattle.records.specs.Contents.{contents}
use Rattle.records.specs.Faults.{refusal_of}
use Rattle.records.specs.Format.{Entry, band, name}
use Rattle.records.specs.declared.counts.Counts.{Counts}
use Rattle.refusals.specs.declared.Refusal.{Refusal}
use Rattle.refusals.specs.declared.Refusal.TheVariants.{LongInput, ShortList}
use Rattle.tables.specs.Calls.{left_of, Sound, VerdictOn}
use Rattle.tables.specs.Left.{Left, opened, leaves, size_refusal, sized, judged, model_in, rank_left, as_rank}
use Rattle.tables.specs.Loading.{load_of, load_result}
use Rattle.tables.specs.Passes.{rank_in}
use Rattle.tables.specs.declared.band.Band.{Band}
use Rattle.tables.specs.declared.load.LoadFault.{LoadFault}
use Rattle.tables.specs.declared.load.LoadFault.TheVariants.{Records, Table as OfTable}
use Rattle.tables.specs.declared.table.Table.{Table}
use Rattle.tables.specs.declared.verdict.Verdict.{Verdict}
use Rattle.text.specs.Refused.{refused_line}
use Rattle.theory.specs.Rounds.{removed_of, rounds_of}
use Rattle.reports.specs.declared.stop.Stop.{Stop}

abbrev pub larger_state : ℕ → Entry → ℕ
larger_state largest (band source target low high) = max largest (max source target)
larger_state largest (name state place bytes) = max largest state

-- the largest state number of some records, or what was the largest before
unfoldable pub largest_state : ℕ → List Entry → ℕ
largest_state largest [] = largest
largest_state largest (e ∷ es) = largest_state (larger_state largest e) es

-- one more state than the largest number in the records before any fault of the reader; one state without records
abbrev pub state_count : List ℕ → ℕ
state_count bytes = largest_state 0 (contents bytes).entries + 1

-- the refusal and the index of a load's fault
abbrev pub stop_of : LoadFault → Stop
stop_of (Records index fault) = record { index = index; refusal = refusal_of fault }
stop_of (OfTable index refusal) = record { index = index; refusal = refusal }

abbrev pub load_stop : Result Counts LoadFault → Option Stop
load_stop (Ok counts) = None
load_stop (Err fault) = Some (stop_of fault)

abbrev pub size_stop : Option Refusal → Option Stop
size_stop None = None
size_stop (Some refusal) = Some (record { index = 0; refusal = refusal })

-- what stops the size or the load of a table of shares over so many places, if anything does
abbrev pub report_stop : ℕ → ℕ → List ℕ → Option Stop
report_stop bands ranks bytes =
    option_or (size_stop (size_refusal {S = Share} (opened bands ranks) (state_count bytes) 0))
    (load_stop (load_result shares share_of (sized (opened bands ranks) (state_count bytes) 0) bytes))

-- only a load that was not stopped is checked
abbrev pub checked_unless : Option Stop → Left Share → Left Share
checked_unless None l = judged l
checked_unless (Some stop) l = l

-- what size, load and check leave
abbrev pub report_left : ℕ → ℕ → List ℕ → Left Share
report_left bands ranks bytes =
    leaves (size_refusal {S = Share} (opened bands ranks) (state_count bytes) 0) (opened bands ranks)
    (checked_unless (report_stop bands ranks bytes) (load_of shares share_of (sized (opened bands ranks) (state_count bytes) 0) bytes).left)

abbrev pub state_line : ℕ → Option ℕ → List ℕ
state_line t None = decimal t ++ codes " stands\n"
state_line t (Some rank) = decimal t ++ (codes " " ++ (decimal rank ++ codes "\n"))

-- a line for each of the first states
unfoldable pub state_lines : Left Share → ℕ → List ℕ
state_lines l zero = []
state_lines l (suc n) = state_lines l n ++ state_line n (as_rank (rank_left shares l n))

abbrev pub removed_line : ℕ → ℕ → ℕ → List ℕ
removed_line removed states rounds = codes "removed " ++ (decimal removed ++ (codes " of " ++ (decimal states ++ (codes " in " ++ (decimal rounds ++ codes " rounds\n")))))

abbrev pub report_lines : Left Share → List ℕ
report_lines l = state_lines l l.states ++ removed_line (removed_of shares (model_in shares l)) l.states (rounds_of shares (model_in shares l))

abbrev pub text_of : Option Stop → Left Share → List ℕ
text_of None l = report_lines l
text_of (Some stop) l = refused_line stop.refusal stop.index

-- the text for these bytes, over so many band places and rank places
abbrev pub report_text : ℕ → ℕ → List ℕ → List ℕ
report_text bands ranks bytes = if nat_lt 61_440 (length bytes) then refused_line LongInput 0 else text_of (report_stop bands ranks bytes) (report_left bands ranks bytes)

-- the text for a table that was just opened
abbrev pub table_text : Table Share → List ℕ → List ℕ
table_text t bytes =
    text_of (report_stop (length t.bands.now) (length t.ranks.now) bytes) (report_left (length t.bands.now) (length t.ranks.now) bytes)

-- places of the caller
pub record Memory : Type 0 where
  pub bands : List (Band Share)
  pub ranks : List ℕ

-- the places hold what the calls leave: the held bands first, and, once checked, the ranks
pub record HoldsLeft (memory : Memory) (l : Left Share) : Type 0 where
  pub held : take (length l.held) memory.bands ≡ l.held
  pub ranks : IsTrue l.verdict → (t : ℕ) → t < l.states → rank_in memory.ranks t ≡ rank_left shares l t

-- a text under 4,096 bytes, which every report fits, is refused and left as it was, and so are the places; later bytes are never touched
pub record Reported (bytes old new : List ℕ) (before after : Memory) (r : Result ℕ Refusal) : Type 0 where
  pub answer : r ≡ if nat_le 4_096 (length old) then Ok (length (report_text (length before.bands) (length before.ranks) bytes)) else Err (ShortList 4_096)
  pub writes : new ≡ if nat_le 4_096 (length old) then report_text (length before.bands) (length before.ranks) bytes ++ drop (length (report_text (length before.bands) (length before.ranks) bytes)) old else old
  pub fits : 4_096 ≤ length old → length (report_text (length before.bands) (length before.ranks) bytes) ≤ 4_096
  pub memory : 4_096 ≤ length old → length bytes ≤ 61_440 → HoldsLeft after (report_left (length before.bands) (length before.ranks) bytes)
  pub refused : length old < 4_096 → after ≡ before
  pub long : 61_440 < length bytes → after ≡ before

abbrev pub RunAnswer : ℕ → ℕ → List ℕ → Left Share → Result Verdict Stop → Type 0
RunAnswer bands ranks bytes l (Ok verdict) = (report_stop bands ranks bytes ≡ None) × VerdictOn shares l verdict
RunAnswer bands ranks bytes l (Err stop) = report_stop bands ranks bytes ≡ Some stop

-- size, load and check were called on a table that was just opened over so many places
pub record Ran (bands ranks : ℕ) (bytes : List ℕ) (after : Table Share) (r : Result Verdict Stop) : Type 0 where
  pub sound : Sound shares after
  pub left : left_of after ≡ report_left bands ranks bytes
  pub answer : RunAnswer bands ranks bytes (left_of after) r
