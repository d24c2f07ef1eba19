-- The bands that a table holds in the caller's places, and what a put makes of them.
use Rattle.std.specs.Prelude.{IsFalse, IsTrue, ◌≡◌, min, List, length, take, Ok, Err, Result, if◌then◌else◌}
use Rattle.amounts.specs.Kinds.{Kind}
use Rattle.refusals.specs.declared.Refusal.{Refusal}
use Rattle.refusals.specs.declared.Refusal.TheVariants.{NoFreePlace}
use Rattle.tables.specs.Held.{with_band, lacks_place}
use Rattle.tables.specs.declared.band.Band.{Band}
use Rattle.tables.specs.declared.table.Table.{Table}

abbrev pub bands_of : {S : Type 0} → Table S → List (Band S)
bands_of t = take t.held t.bands.now

-- what a change of the held bands leaves
pub record KeepsRest {S : Type 0} (before after : Table S) : Type 0 where
  pub lent : after.bands.ghost_name ≡ before.bands.ghost_name
  pub places : length after.bands.now ≡ length before.bands.now
  pub ranks : after.ranks ≡ before.ranks
  pub states : after.states ≡ before.states
  pub start : after.start ≡ before.start
  pub checked : after.checked ≡ before.checked

-- b was put among the held bands, where there is a place for it
pub record Placed {S : Type 0} (k : Kind S) (b : Band S) (before after : Table S) (r : Result (Unit {0}) Refusal) : Type 0 where
  pub answer : r ≡ if lacks_place k b (min (length before.bands.now) 4_096) (bands_of before) then Err NoFreePlace else Ok tt
  pub puts : IsFalse (lacks_place k b (min (length before.bands.now) 4_096) (bands_of before)) → bands_of after ≡ with_band k b (bands_of before)
  pub refused : IsTrue (lacks_place k b (min (length before.bands.now) 4_096) (bands_of before)) → after ≡ before
