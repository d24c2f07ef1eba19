-- A table as the definitions see it, and what is said of all its states together.
use Rattle.std.specs.Prelude.{ℕ, zero, suc, ◌+◌, max, Bool, Some, None, Option, if◌then◌else◌}
use Rattle.std.specs.Option.{option_or}
use Rattle.amounts.specs.Kinds.{Kind}
use Rattle.amounts.specs.declared.bounds.Bounds.{Bounds}

-- the states are the numbers below `states`; each pair of a source and a target has a band
pub record Model (S : Type 0) : Type 0 where
  pub states : ℕ
  pub band : ℕ → ℕ → Bounds S

-- the total of f over the numbers below n
unfoldable pub total_below : {S : Type 0} → Kind S → (ℕ → S) → ℕ → S
total_below k f zero = k.nothing
total_below k f (suc n) = k.total (total_below k f n) (f n)

-- the lowest number below n that passes a test; the record format counts up from a position instead, and no crate lies below both
unfoldable pub lowest_below : (ℕ → Bool) → ℕ → Option ℕ
lowest_below test zero = None
lowest_below test (suc n) = option_or (lowest_below test n) (if test n then Some n else None)

-- how many numbers below n pass a test
unfoldable pub count_below : (ℕ → Bool) → ℕ → ℕ
count_below test zero = 0
count_below test (suc n) = count_below test n + (if test n then 1 else 0)

-- the highest of f over the numbers below n, or 0
unfoldable pub highest_below : (ℕ → ℕ) → ℕ → ℕ
highest_below f zero = 0
highest_below f (suc n) = max (highest_below f n) (f n)
