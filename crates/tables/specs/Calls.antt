-- What each call on a table answers and leaves.
use Rattle.std.specs.Prelude.{IsSome, IsTrue, ◌≡◌, ℕ, ◌+◌, ◌-◌, ◌<◌, min, List, length, Some, None, Ok, Err, Option, Result, if◌then◌else◌}
use Rattle.amounts.specs.Kinds.{Kind}
use Rattle.amounts.specs.declared.bounds.Bounds.{Bounds}
use Rattle.refusals.specs.declared.Refusal.{Refusal}
use Rattle.refusals.specs.declared.Refusal.TheVariants.{NoStates, Standing}
use Rattle.theory.specs.Chains.{TellsChains}
use Rattle.theory.specs.Plans.{TellsPlans}
use Rattle.theory.specs.Rounds.{Ranks, removed_of, rounds_of}
use Rattle.theory.specs.declared.reason.Reason.{Reason}
use Rattle.tables.specs.Held.{key_of, bounds_of, band_in, is_held, both_nothing, model_of}
use Rattle.tables.specs.Judging.{Orderly, Ranked}
use Rattle.tables.specs.Left.{Left, Proper, answered, leaves, size_refusal, sized, no_states, set_refusal, banded, judged, question_refusal, model_in, rank_left, as_rank, reason_answer}
use Rattle.tables.specs.Passes.{rank_in}
use Rattle.tables.specs.Places.{bands_of}
use Rattle.tables.specs.declared.band.Band.{Band}
use Rattle.tables.specs.declared.table.Table.{Table}
use Rattle.tables.specs.declared.tally.Tally.{Tally}
use Rattle.tables.specs.declared.verdict.Verdict.{Verdict}

-- what a table holds
abbrev pub left_of : {S : Type 0} → Table S → Left S
left_of t = record {
  places = min (length t.bands.now) 4_096;
  ranks = length t.ranks.now;
  states = t.states;
  start = t.start;
  held = bands_of t;
  verdict = t.checked;
}

-- what open gives and every call keeps: the held bands are in order, and while a verdict is in force the rank places hold the ranks
pub record Sound {S : Type 0} (k : Kind S) (t : Table S) : Type 0 where
  pub proper : Proper k (left_of t)
  pub ranked : IsTrue t.checked → (u : ℕ) → u < t.states → rank_in t.ranks.now u ≡ rank_left k (left_of t) u

-- the places are still those that the caller lent to open
pub record Lent {S : Type 0} (before after : Table S) : Type 0 where
  pub bands : after.bands.ghost_name ≡ before.bands.ghost_name
  pub ranks : after.ranks.ghost_name ≡ before.ranks.ghost_name

pub record Sized {S : Type 0} (k : Kind S) (before after : Table S) (states start : ℕ) (r : Result (Unit {0}) Refusal) : Type 0 where
  pub answer : r ≡ answered (size_refusal (left_of before) states start) tt
  pub left : left_of after ≡ leaves (size_refusal (left_of before) states start) (left_of before) (sized (left_of before) states start)
  pub refused : IsSome (size_refusal (left_of before) states start) → after ≡ before
  pub sound : Sound k after

-- how many bands are held after a set
abbrev pub count_after : {S : Type 0} → Kind S → List (Band S) → Band S → ℕ
count_after k held b = if is_held held (key_of b) then (if both_nothing k (bounds_of b) then length held - 1 else length held) else (if both_nothing k (bounds_of b) then length held else length held + 1)

-- the bounds that are read of a pair that was set
abbrev pub read_back : {S : Type 0} → Kind S → Band S → Bounds S
read_back k b = if both_nothing k (bounds_of b) then record { low = k.nothing; high = k.nothing } else bounds_of b

-- what is read after an accepted set: for its pair what was set, for every other pair what was read before
pub record Reads {S : Type 0} (k : Kind S) (before after : List (Band S)) (b : Band S) : Type 0 where
  pub own : band_in k after b.source b.target ≡ read_back k b
  pub others : (s t : ℕ) → t < 65_536 → ((s ≡ b.source) × (t ≡ b.target) → ⊥) → band_in k after s t ≡ band_in k before s t
  pub count : length after ≡ count_after k before b

pub record BandSet {S : Type 0} (k : Kind S) (before after : Table S) (b : Band S) (r : Result (Unit {0}) Refusal) : Type 0 where
  pub answer : r ≡ answered (set_refusal k (left_of before) b) tt
  pub left : left_of after ≡ leaves (set_refusal k (left_of before) b) (left_of before) (banded k (left_of before) b)
  pub reads : set_refusal k (left_of before) b ≡ None → Reads k (left_of before).held (left_of after).held b
  pub refused : IsSome (set_refusal k (left_of before) b) → after ≡ before
  pub sound : Sound k after

-- the rounds were run in the rank places, and nothing else has changed
pub record RoundsRun {S : Type 0} (k : Kind S) (before after : Table S) (tally : Tally) : Type 0 where
  pub ranked : Orderly before.states (bands_of before) → Ranked k (model_of k before.states (bands_of before)) after.ranks.now tally
  pub lent : after.ranks.ghost_name ≡ before.ranks.ghost_name
  pub places : length after.ranks.now ≡ length before.ranks.now
  pub bands : after.bands ≡ before.bands
  pub held : after.held ≡ before.held
  pub states : after.states ≡ before.states
  pub start : after.start ≡ before.start
  pub checked : after.checked ≡ before.checked

-- a verdict on what a table holds
pub record VerdictOn {S : Type 0} (k : Kind S) (l : Left S) (v : Verdict) : Type 0 where
  pub states : v.states ≡ l.states
  pub removed : v.removed ≡ removed_of k (model_in k l)
  pub rounds : v.rounds ≡ rounds_of k (model_in k l)
  pub start : v.start ≡ as_rank (rank_left k l l.start)

abbrev pub CheckAnswer : {S : Type 0} → Kind S → Left S → Result Verdict Refusal → Type 0
CheckAnswer k l (Ok verdict) = (0 < l.states) × VerdictOn k l verdict
CheckAnswer k l (Err refusal) = (l.states ≡ 0) × (refusal ≡ NoStates)

pub record Checked {S : Type 0} (k : Kind S) (before after : Table S) (r : Result Verdict Refusal) : Type 0 where
  pub answer : CheckAnswer k (left_of before) r
  pub left : left_of after ≡ leaves (no_states before.states) (left_of before) (judged (left_of before))
  -- the ranks are those of the rounds, and no others are
  pub ranks : Ranks k (model_in k (left_of before)) (rank_left k (left_of before))
  pub only : (rank : ℕ → ℕ) → Ranks k (model_in k (left_of before)) rank → (t : ℕ) → t < before.states → rank t ≡ rank_left k (left_of before) t
  -- and they tell how far ahead each state can be planned
  pub plans : (t : ℕ) → t < before.states → TellsPlans k (model_in k (left_of before)) t (rank_left k (left_of before) t)
  -- and which states a chain can use
  pub chains : (t : ℕ) → t < before.states → TellsChains k (model_in k (left_of before)) t (rank_left k (left_of before) t)
  pub refused : before.states ≡ 0 → after ≡ before
  pub sound : Sound k after

abbrev pub RankAnswer : {S : Type 0} → Kind S → Left S → ℕ → Result (Option ℕ) Refusal → Type 0
RankAnswer k l t r = r ≡ answered (question_refusal l t) (as_rank (rank_left k l t))

abbrev pub unless_refused : {A : Type 0} → Option Refusal → Result A Refusal → Result A Refusal
unless_refused None r = r
unless_refused (Some refusal) r = Err refusal

pub record ReasonAnswer {S : Type 0} (k : Kind S) (l : Left S) (t : ℕ) (r : Result Reason Refusal) : Type 0 where
  pub answer : r ≡ unless_refused (question_refusal l t) (reason_answer k l t)
  -- only a standing state has no reason
  pub standing : question_refusal l t ≡ None → r ≡ Err Standing → rank_left k l t ≡ 0
