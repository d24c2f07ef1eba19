-- The bands that a table holds, in ascending order of source, then target.
use Rattle.std.specs.Prelude.{◌≡◌, ℕ, ◌+◌, ◌*◌, ◌<◌, ◌≤◌, Bool, true, false, not, ◌&&◌, List, [], ◌∷◌, ◌++◌, length, Ok, Err, filter, Result, ◌==◌, ◌≢◌, nat_le, nat_lt, slice_index_or, if◌then◌else◌}
use Rattle.std.specs.List.{AllByRecursion}
use Rattle.amounts.specs.Kinds.{Kind}
use Rattle.amounts.specs.declared.bounds.Bounds.{Bounds}
use Rattle.theory.specs.Models.{Model}
use Rattle.tables.specs.declared.band.Band.{Band}

-- a pair of states as one number, so that pairs are in order as their numbers are
abbrev pub pair_of : ℕ → ℕ → ℕ
pair_of source target = source * 65_536 + target

abbrev pub key_of : {S : Type 0} → Band S → ℕ
key_of b = pair_of b.source b.target

abbrev pub bounds_of : {S : Type 0} → Band S → Bounds S
bounds_of b = record { low = b.low; high = b.high }

-- each band's pair comes before the pairs of all later ones
abbrev pub Ascending : {S : Type 0} → List (Band S) → Type 0
Ascending [] = Unit {0}
Ascending (b ∷ bs) = AllByRecursion (λ c. key_of b < key_of c) bs × Ascending bs

-- a pair stands, or would stand, at p
pub record Position {S : Type 0} (pair : ℕ) (held : List (Band S)) (p : ℕ) : Type 0 where
  pub within : p ≤ length held
  pub below : (i : ℕ) (d : Band S) → i < p → key_of (slice_index_or held i d) < pair
  pub above : (i : ℕ) (d : Band S) → p ≤ i → i < length held → pair ≤ key_of (slice_index_or held i d)

-- the band of a pair: nothing to nothing where none is held
unfoldable pub band_in : {S : Type 0} → Kind S → List (Band S) → ℕ → ℕ → Bounds S
band_in k [] s t = record { low = k.nothing; high = k.nothing }
band_in k (b ∷ bs) s t = if key_of b == pair_of s t then bounds_of b else band_in k bs s t

unfoldable pub is_held : {S : Type 0} → List (Band S) → ℕ → Bool
is_held [] pair = false
is_held (b ∷ bs) pair = if key_of b == pair then true else is_held bs pair

-- the held bands whose pairs come before, or after, a pair
abbrev pub before : {S : Type 0} → ℕ → List (Band S) → List (Band S)
before pair held = filter (λ b. nat_lt (key_of b) pair) held

abbrev pub after : {S : Type 0} → ℕ → List (Band S) → List (Band S)
after pair held = filter (λ b. nat_lt pair (key_of b)) held

abbrev pub both_nothing : {S : Type 0} → Kind S → Bounds S → Bool
both_nothing k b = k.at_most b.low k.nothing && k.at_most b.high k.nothing

-- what is held for a pair that has these bounds
abbrev pub held_for : {S : Type 0} → Kind S → Band S → List (Band S)
held_for k b = if both_nothing k (bounds_of b) then [] else b ∷ []

-- b in place of the band of its pair
abbrev pub with_band : {S : Type 0} → Kind S → Band S → List (Band S) → List (Band S)
with_band k b held = before (key_of b) held ++ (held_for k b ++ after (key_of b) held)

-- a new pair with a bound other than nothing needs a free place
abbrev pub lacks_place : {S : Type 0} → Kind S → Band S → ℕ → List (Band S) → Bool
lacks_place k b places held = not (is_held held (key_of b)) && (not (both_nothing k (bounds_of b)) && nat_le places (length held))

-- the answer of a search: where the pair stands, or would stand
abbrev pub Found : {S : Type 0} → ℕ → List (Band S) → Result ℕ ℕ → Type 0
Found {S} pair held (Ok p) = Position pair held p × (p < length held) × ((d : Band S) → key_of (slice_index_or held p d) ≡ pair)
Found {S} pair held (Err p) = Position pair held p × ((d : Band S) → p < length held → (key_of (slice_index_or held p d) ≢ pair))

-- the table as the definitions see it
abbrev pub model_of : {S : Type 0} → Kind S → ℕ → List (Band S) → Model S
model_of k states held = record { states = states; band = band_in k held }
