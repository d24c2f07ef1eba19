-- The format from the other side: the twelve bytes that say an entry, and what each answer of the reader tells of the bytes.
use Rattle.std.specs.Prelude.{◌≡◌, ℕ, zero, suc, ◌+◌, ◌-◌, ◌/◌, ◌%◌, ◌^◌, ◌<◌, ◌≤◌, IsTrue, IsFalse, ◌||◌, List, [], ◌∷◌, ◌++◌, length, take, drop, replicate, Some, None, Ok, Err, Option, Result, ◌≢◌}
use Rattle.records.specs.declared.fault.RecordFault.{RecordFault}
use Rattle.records.specs.declared.fault.RecordFault.TheVariants.{Partial, UnknownKind, WrongByte}
use Rattle.records.specs.Format.{Entry, band, name, byte, is_band, is_name, wrong_at}

-- k bytes of n, least significant first
abbrev pub little_endian : ℕ → ℕ → List ℕ
little_endian zero n = []
little_endian (suc k) n = n % 256 ∷ little_endian k (n / 256)

abbrev pub encoded : Entry → List ℕ
encoded (band source target low high) = 0x42 ∷ source ∷ target ∷ 0 ∷ (little_endian 4 low ++ little_endian 4 high)
encoded (name state place bytes) = 0x4E ∷ state ∷ length bytes ∷ 0 ∷ (bytes ++ replicate (8 - length bytes) 0)

-- what a record that begins at `at` can say
abbrev pub Sayable : Entry → ℕ → Type 0
Sayable (band source target low high) at = (source < 2 ^ 8) × (target < 2 ^ 8) × (low < 2 ^ 32) × (high < 2 ^ 32)
Sayable (name state place bytes) at = (state < 2 ^ 8) × (place ≡ at + 4) × (1 ≤ length bytes) × (length bytes ≤ 8)

-- a record that says e stands at `at`
abbrev pub Says : List ℕ → ℕ → Entry → Type 0
Says bytes at e = Sayable e at × (take 12 (drop at bytes) ≡ encoded e)

-- twelve bytes of a known kind whose lowest wrong position is p
pub record FirstWrong (r : List ℕ) (p : ℕ) : Type 0 where
  pub known : IsTrue (is_band r || is_name r)
  pub within : p < 12
  pub wrong : IsTrue (wrong_at r p)
  pub right : (k : ℕ) → k < p → IsFalse (wrong_at r k)

-- what each answer at `at` tells of the bytes
abbrev pub Told : List ℕ → ℕ → Result (Option Entry) RecordFault → Type 0
Told bytes at (Ok None) = length bytes ≤ at
Told bytes at (Ok (Some e)) = Says bytes at e
Told bytes at (Err (Partial n)) = (0 < n) × (n < 12) × (at + n ≡ length bytes)
Told bytes at (Err (UnknownKind b)) = (at + 12 ≤ length bytes) × (byte bytes at ≡ b) × (b ≢ 0x42) × (b ≢ 0x4E)
Told bytes at (Err (WrongByte p)) = (at + 12 ≤ length bytes) × FirstWrong (take 12 (drop at bytes)) p

-- and wherever a record stands, it is found
pub record Tells (bytes : List ℕ) (at : ℕ) (answer : Result (Option Entry) RecordFault) : Type 0 where
  pub told : Told bytes at answer
  pub finds : (e : Entry) → Says bytes at e → answer ≡ Ok (Some e)
