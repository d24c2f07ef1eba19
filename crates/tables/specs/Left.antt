-- What a table holds as its user thinks of it, which calls it refuses, and what they leave.
use Rattle.std.specs.Prelude.{IsFalse, IsTrue, ℕ, ◌<◌, ◌≤◌, min, Bool, true, false, ◌||◌, List, [], length, Some, None, Ok, Err, Option, Result, ◌==◌, nat_le, nat_lt, if◌then◌else◌}
use Rattle.std.specs.Option.{option_or, ok_or}
use Rattle.std.specs.List.{AllByRecursion}
use Rattle.amounts.specs.Kinds.{Kind, AtMost}
use Rattle.refusals.specs.declared.Bound.{Bound}
use Rattle.refusals.specs.declared.Bound.TheVariants.{Low, High}
use Rattle.refusals.specs.declared.Refusal.{Refusal}
use Rattle.refusals.specs.declared.Refusal.TheVariants.{StateCount, NoSuchState, NoAmount, NoStates, NoVerdict, Standing, NoFreePlace}
use Rattle.theory.specs.Consistency.{reason_of}
use Rattle.theory.specs.Models.{Model}
use Rattle.theory.specs.Rounds.{not_before, rank_of}
use Rattle.theory.specs.declared.reason.Reason.{Reason}
use Rattle.tables.specs.Held.{bounds_of, both_nothing, lacks_place, with_band, model_of}
use Rattle.tables.specs.Judging.{Orderly}
use Rattle.tables.specs.declared.arguments.Asked.{Asked}
use Rattle.tables.specs.declared.band.Band.{Band}

-- `places` are the band places in use, `ranks` the rank places; before the first size there are no states.
-- `verdict` tells whether one is in force.
pub record Left (S : Type 0) : Type 0 where
  pub places : ℕ
  pub ranks : ℕ
  pub states : ℕ
  pub start : ℕ
  pub held : List (Band S)
  pub verdict : Bool

-- what open leaves: at most 4,096 band places are used
abbrev pub opened : {S : Type 0} → ℕ → ℕ → Left S
opened bands ranks = record { places = min bands 4_096; ranks = ranks; states = 0; start = 0; held = []; verdict = false }

-- the answer of a call: the refusal, if one applies
abbrev pub answered : {A : Type 0} → Option Refusal → A → Result A Refusal
answered None a = Ok a
answered (Some refusal) a = Err refusal

-- a refused call leaves what there was
abbrev pub leaves : {X : Type 0} → Option Refusal → X → X → X
leaves None before after = after
leaves (Some refusal) before after = before

-- a number of states that a table cannot have
abbrev pub size_refusal : {S : Type 0} → Left S → ℕ → ℕ → Option Refusal
size_refusal l states start =
    if states == 0 || (nat_lt 256 states || nat_lt l.ranks states)
    then Some (StateCount states)
    else (if nat_le states start then Some (NoSuchState 0) else None)

-- the bands are cleared, and a verdict lapses
abbrev pub sized : {S : Type 0} → Left S → ℕ → ℕ → Left S
sized l states start = record { places = l.places; ranks = l.ranks; states = states; start = start; held = []; verdict = false }

-- the band that a set asks for
abbrev pub band_asked : {S : Type 0} → Asked S → Band S
band_asked asked = record { source = asked.source; target = asked.target; low = asked.low; high = asked.high }

abbrev pub no_states : ℕ → Option Refusal
no_states states = if states == 0 then Some NoStates else None

-- the state argument at a position
abbrev pub no_such_state : ℕ → ℕ → ℕ → Option Refusal
no_such_state states position t = if nat_le states t then Some (NoSuchState position) else None

abbrev pub no_amount : {S : Type 0} → Kind S → Bound → S → Option Refusal
no_amount k bound x = if k.at_most x k.full then None else Some (NoAmount bound)

abbrev pub no_free_place : {S : Type 0} → Kind S → Left S → Band S → Option Refusal
no_free_place k l b = if lacks_place k b l.places l.held then Some NoFreePlace else None

-- the arguments of a set make no band of a table with so many states
abbrev pub no_band : {S : Type 0} → Kind S → ℕ → Band S → Option Refusal
no_band k states b =
    option_or (no_states states)
    (option_or (no_such_state states 0 b.source)
    (option_or (no_such_state states 1 b.target)
    (option_or (no_amount k Low b.low) (no_amount k High b.high))))

abbrev pub set_refusal : {S : Type 0} → Kind S → Left S → Band S → Option Refusal
set_refusal k l b = option_or (no_band k l.states b) (no_free_place k l b)

-- the band takes the place of that of its pair, and a verdict lapses
abbrev pub banded : {S : Type 0} → Kind S → Left S → Band S → Left S
banded k l b = record { places = l.places; ranks = l.ranks; states = l.states; start = l.start; held = with_band k b l.held; verdict = false }

-- a verdict is in force
abbrev pub judged : {S : Type 0} → Left S → Left S
judged l = record { places = l.places; ranks = l.ranks; states = l.states; start = l.start; held = l.held; verdict = true }

abbrev pub no_verdict : Bool → Option Refusal
no_verdict verdict = if verdict then None else Some NoVerdict

-- a question about a state, after check
abbrev pub no_question : ℕ → ℕ → Bool → Option Refusal
no_question states t verdict = option_or (no_states states) (option_or (no_such_state states 0 t) (no_verdict verdict))

abbrev pub question_refusal : {S : Type 0} → Left S → ℕ → Option Refusal
question_refusal l t = no_question l.states t l.verdict

abbrev pub model_in : {S : Type 0} → Kind S → Left S → Model S
model_in k l = model_of k l.states l.held

abbrev pub rank_left : {S : Type 0} → Kind S → Left S → ℕ → ℕ
rank_left k l t = rank_of k (model_in k l) t

-- 0 stands for no rank
abbrev pub as_rank : ℕ → Option ℕ
as_rank r = if r == 0 then None else Some r

-- why t fell, if it did: it is not locally consistent with the states that had not fallen before its round
abbrev pub reason_left : {S : Type 0} → Kind S → Left S → ℕ → Option Reason
reason_left k l t = if rank_left k l t == 0 then None else reason_of k (model_in k l) (not_before (rank_left k l) (rank_left k l t)) t

-- a standing state has none
abbrev pub reason_answer : {S : Type 0} → Kind S → Left S → ℕ → Result Reason Refusal
reason_answer k l t = ok_or (reason_left k l t) Standing

-- what every list of calls leaves
pub record Proper {S : Type 0} (k : Kind S) (l : Left S) : Type 0 where
  pub orderly : Orderly l.states l.held
  pub room : l.states ≤ l.ranks
  pub starts : 0 < l.states → l.start < l.states
  pub fits : length l.held ≤ l.places
  pub lows : AllByRecursion (λ b. AtMost k b.low k.full) l.held
  pub highs : AllByRecursion (λ b. AtMost k b.high k.full) l.held
  pub some : AllByRecursion (λ b. IsFalse (both_nothing k (bounds_of b))) l.held
  pub of_states : IsTrue l.verdict → 0 < l.states
