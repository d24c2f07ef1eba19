-- The number and the place of each refusal, as engineers read them.
use Rattle.std.specs.Prelude.{ℕ}
use Rattle.refusals.specs.declared.Bound.{Bound}
use Rattle.refusals.specs.declared.Bound.TheVariants.{Low, High}
use Rattle.refusals.specs.declared.Refusal.{Refusal}
use Rattle.refusals.specs.declared.Refusal.TheVariants.{StateCount, NoSuchState, NoAmount, PartialRecord, UnknownRecord, WrongByte, ShortList, LongInput, NoStates, NoVerdict, Ranked, Standing, NoFreePlace}

abbrev pub number_of : Refusal → ℕ
number_of (StateCount states) = 1
number_of (NoSuchState position) = 2
number_of (NoAmount bound) = 3
number_of (PartialRecord bytes) = 4
number_of (UnknownRecord byte) = 5
number_of (WrongByte position) = 6
number_of (ShortList need) = 7
number_of LongInput = 8
number_of NoStates = 9
number_of NoVerdict = 10
number_of (Ranked rank) = 11
number_of Standing = 12
number_of NoFreePlace = 13

abbrev pub bound_place : Bound → ℕ
bound_place Low = 0
bound_place High = 1

abbrev pub place_of : Refusal → ℕ
place_of (StateCount states) = states
place_of (NoSuchState position) = position
place_of (NoAmount bound) = bound_place bound
place_of (PartialRecord bytes) = bytes
place_of (UnknownRecord byte) = byte
place_of (WrongByte position) = position
place_of (ShortList need) = need
place_of LongInput = 0
place_of NoStates = 0
place_of NoVerdict = 0
place_of (Ranked rank) = rank
place_of Standing = 0
place_of NoFreePlace = 0
