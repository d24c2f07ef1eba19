-- A band put among the held ones: cleared, replaced, new, or refused.
use Rattle.std.proofs.Common.{◌≡◌, ℕ, suc, ◌+◌, ◌<◌, ◌≤◌, min, Bool, true, false, List, [], ◌∷◌, ◌++◌, length, take, drop, set, Ok, Err, sym, ap, ◌∙◌, arith}
use Rattle.std.proofs.lemmas.List.{length-take-le, set_split}
use Rattle.std.proofs.lemmas.Bool.{both_ways, le-leb, lt-leb}
use Rattle.std.specs.List.{insert, remove}
use Rattle.amounts.specs.Kinds.{Kind}
use Rattle.refusals.specs.declared.Refusal.TheVariants.{NoFreePlace}
use Rattle.tables.specs.Held.{key_of, bounds_of, Ascending, is_held, before, after, both_nothing, held_for, with_band, lacks_place, Found}
use Rattle.tables.specs.Places.{Placed, bands_of}
use Rattle.tables.specs.declared.table.Table.{Table}
use Rattle.tables.specs.declared.band.Band.{Band}
use Rattle.tables.proofs.Orders.{before_is, after_absent, after_present, held_present, held_absent, cleared_absent}
use Rattle.tables.proofs.Shifts.{take-set_below}

module _ {S : Type 0} (k : Kind S) (b : Band S) (old : Table S) (order : Ascending (bands_of old)) where
  abbrev held : List (Band S)
  held = bands_of old

  abbrev places : ℕ
  places = length old.bands.now

  abbrev lacks : Bool
  lacks = lacks_place k b (min places 4_096) held

  many : length held ≡ old.held
  many = length-take-le old.held old.bands.now old.within

  -- a call that puts b where it belongs
  puts : (new : Table S) → lacks ≡ false → bands_of new ≡ with_band k b held → Placed k b old new (Ok tt)
  puts new room there = record { answer = rw room; puts = λ _. there; refused = λ none. absurd (both_ways lacks room none) }

  -- the parts of the list with b
  parts : (front middle rest : List (Band S)) → before (key_of b) held ≡ front → held_for k b ≡ middle → after (key_of b) held ≡ rest → front ++ (middle ++ rest) ≡ with_band k b held
  parts front middle rest low own high = λ i. sym low i ++ (sym own i ++ sym high i)

  module _ (p : ℕ) (new : Table S) where
    -- b's pair is held
    module _ (found : Found (key_of b) held (Ok p)) where
      known : is_held held (key_of b) ≡ true
      known = held_present (key_of b) held p b found.1 (found.2 b)

      later : after (key_of b) held ≡ drop (suc p) held
      later = let one : p + 1 ≡ suc p = omega arith in after_present found.0 b found.1 (found.2 b) order ∙ ap (λ (n : ℕ). drop n held) one

      pub cleared : both_nothing k (bounds_of b) ≡ true → bands_of new ≡ remove held p → Placed k b old new (Ok tt)
      cleared nothing gone = puts new (rw known) (gone ∙ parts (take p held) [] (drop (suc p) held) (before_is found.0) (rw nothing) later)

      pub replaced : both_nothing k (bounds_of b) ≡ false → bands_of new ≡ take old.held (set old.bands.now p b) → Placed k b old new (Ok tt)
      replaced some is =
          puts new (rw known)
          (is ∙ take-set_below old.held old.bands.now p b ∙ set_split held p b found.1
          ∙ parts (take p held) (b ∷ []) (drop (suc p) held) (before_is found.0) (rw some) later)

    -- b's pair is not held
    module _ (found : Found (key_of b) held (Err p)) where
      unknown : is_held held (key_of b) ≡ false
      unknown = held_absent found.0 found.1 order

      pub nothing_new : both_nothing k (bounds_of b) ≡ true → new ≡ old → Placed k b old new (Ok tt)
      nothing_new nothing is = puts new (rw (unknown, nothing)) (ap bands_of is ∙ sym (cleared_absent k b held unknown nothing order))

      pub added : both_nothing k (bounds_of b) ≡ false → old.held < min places 4_096 → bands_of new ≡ insert held p b → Placed k b old new (Ok tt)
      added some free there =
          puts new (rw (unknown, some) (lt-leb (min places 4_096) (length held) (omega (arith, many))))
          (there ∙ parts (take p held) (b ∷ []) (drop p held) (before_is found.0) (rw some) (after_absent found.0 found.1 order))

      pub refused : both_nothing k (bounds_of b) ≡ false → min places 4_096 ≤ old.held → new ≡ old → Placed k b old new (Err NoFreePlace)
      refused some full is =
          let lacking : lacks ≡ true = rw (unknown, some) (le-leb (min places 4_096) (length held) (omega (arith, many))) in
          record { answer = rw lacking; puts = λ room. absurd (both_ways lacks room lacking); refused = λ _. is }
