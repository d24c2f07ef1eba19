-- Where a record is wrong: what the tests of the code tell of the format's lowest wrong position.
use Rattle.std.proofs.Common.{◌≡◌, ℕ, zero, suc, ◌+◌, ◌<◌, ◌≤◌, Bool, true, false, cond, List, Some, None, Option, refl, ap, arith}
use Rattle.std.proofs.lemmas.Bool.Decides.{nat_tests}
use Rattle.records.specs.Format.{byte, name_length, lowest, wrong_at, wrong_position}

-- what the search for the lowest of the n numbers from `from` on that passes a test tells
abbrev Found : (ℕ → Bool) → ℕ → ℕ → Option ℕ → Type 0
Found test from n None = (k : ℕ) → from ≤ k → k < from + n → test k ≡ false
Found test from n (Some p) = (from ≤ p) × (p < from + n) × (test p ≡ true) × ((k : ℕ) → from ≤ k → k < p → test k ≡ false)

module _ (test : ℕ → Bool) where
  found : (from n : ℕ) → Found test from n (lowest test from n)
  unfolding lowest
  found from zero = λ k lo hi. absurd (omega arith)
  found from (suc n) = first (test from) refl (lowest test (suc from) n) (found (suc from) n)
    where
      none_before : test from ≡ false → (end : ℕ) → ((k : ℕ) → suc from ≤ k → k < end → test k ≡ false) → (k : ℕ) → from ≤ k → k < end → test k ≡ false
      none_before fails end later k lo hi = grind (arith, nat_tests)

      first : (b : Bool) → test from ≡ b → (o : Option ℕ) → Found test (suc from) n o → Found test from (suc n) (cond b (Some from) o)
      first true passes o later = (omega arith, omega arith, passes, λ k lo hi. absurd (omega arith))
      first false fails None later = λ k lo hi. none_before fails (suc from + n) later k lo (omega arith)
      first false fails (Some p) later = (omega (arith, later.0), omega (arith, later.1), later.2, none_before fails p later.3)

  -- and nothing else tells that
  found_none : (from n : ℕ) (o : Option ℕ) → Found test from n o → ((k : ℕ) → from ≤ k → k < from + n → test k ≡ false) → o ≡ None
  found_none from n None told none = refl
  found_none from n (Some q) told none = let passes = told.2 in let fails = none q told.0 told.1 in cc

  same_lowest : (q p : ℕ) → test q ≡ true → test p ≡ true → (q < p → test q ≡ false) → (p < q → test p ≡ false) → q ≡ p
  same_lowest q p q_passes p_passes p_lowest q_lowest = grind (arith, nat_tests)

  found_some : (from n : ℕ) (o : Option ℕ) → Found test from n o → (p : ℕ) → Found test from n (Some p) → o ≡ Some p
  found_some from n None told p is = let passes = is.2 in let fails = told p is.0 is.1 in cc
  found_some from n (Some q) told p is = ap Some (same_lowest q p told.2 is.2 (is.3 q told.0) (told.3 p is.0))

-- p is the lowest wrong position of r
wrong_is : (r : List ℕ) (p : ℕ) → p < 12 → wrong_at r p ≡ true → ((k : ℕ) → k < p → wrong_at r k ≡ false) → wrong_position r ≡ Some p
wrong_is r p within is before = found_some (wrong_at r) 0 12 _ (found (wrong_at r) 0 12) p (omega arith, omega arith, is, λ k lo. before k)

pub wrong_tells : (r : List ℕ) (p : ℕ) → wrong_position r ≡ Some p → (p < 12) × (wrong_at r p ≡ true) × ((k : ℕ) → k < p → wrong_at r k ≡ false)
wrong_tells r p is = let told = rw is at (found (wrong_at r) 0 12) in (omega (arith, told.1), told.2, λ k below. told.3 k (omega arith) below)

nowhere : (r : List ℕ) → ((k : ℕ) → k < 12 → wrong_at r k ≡ false) → wrong_position r ≡ None
nowhere r none = found_none (wrong_at r) 0 12 _ (found (wrong_at r) 0 12) (λ k lo hi. none k (omega arith))

right_at : (r : List ℕ) → wrong_position r ≡ None → (k : ℕ) → k < 12 → wrong_at r k ≡ false
right_at r none k below = rw none at (found (wrong_at r) 0 12) k (omega arith) (omega arith)

-- byte 3 of a record that is nowhere wrong is 00
pub third_right : (r : List ℕ) → wrong_position r ≡ None → byte r 3 ≡ 0
third_right r none = let right : wrong_at r 3 ≡ false = right_at r none 3 (omega arith) in grind (arith, nat_tests)

module _ (r : List ℕ) (kind : byte r 0 ≡ 0x42) where
  pub band_wrong : (byte r 3 ≡ 0 → ⊥) → wrong_position r ≡ Some 3
  band_wrong some = wrong_is r 3 (omega arith) (grind (arith, nat_tests)) (λ k below. grind (arith, nat_tests))

  pub band_right : byte r 3 ≡ 0 → wrong_position r ≡ None
  band_right none = nowhere r (λ k below. grind (arith, nat_tests))

module _ (r : List ℕ) (kind : byte r 0 ≡ 0x4E) where
  -- a name that is nowhere wrong has 1 to 8 bytes, and 00 after them
  pub length_right : wrong_position r ≡ None → name_length (byte r 2) ≡ true
  length_right none = let right : wrong_at r 2 ≡ false = right_at r none 2 (omega arith) in grind (arith, nat_tests)

  pub filler_right : wrong_position r ≡ None → (k : ℕ) → 4 + byte r 2 ≤ k → k < 12 → byte r k ≡ 0
  filler_right none k lo hi = let right : wrong_at r k ≡ false = right_at r none k hi in grind (arith, nat_tests)

  pub length_wrong : name_length (byte r 2) ≡ false → wrong_position r ≡ Some 2
  length_wrong out = wrong_is r 2 (omega arith) (grind (arith, nat_tests)) (λ k below. grind (arith, nat_tests))

  module _ (good : name_length (byte r 2) ≡ true) where
    pub third_wrong : (byte r 3 ≡ 0 → ⊥) → wrong_position r ≡ Some 3
    third_wrong wrong = wrong_is r 3 (omega arith) (grind (arith, nat_tests)) (λ k below. grind (arith, nat_tests))

    module _ (third : byte r 3 ≡ 0) where
      -- up to a position below which every filler byte is 00
      right_below : (p : ℕ) → ((k : ℕ) → 4 + byte r 2 ≤ k → k < p → byte r k ≡ 0) → (k : ℕ) → k < p → wrong_at r k ≡ false
      right_below p zeros k below = grind (arith, nat_tests)

      pub filler_wrong : (p : ℕ) → 4 + byte r 2 ≤ p → p < 12 → (byte r p ≡ 0 → ⊥) → ((k : ℕ) → 4 + byte r 2 ≤ k → k < p → byte r k ≡ 0) → wrong_position r ≡ Some p
      filler_wrong p lo hi wrong zeros = wrong_is r p hi (grind (arith, nat_tests)) (right_below p zeros)

      pub name_right : ((k : ℕ) → 4 + byte r 2 ≤ k → k < 12 → byte r k ≡ 0) → wrong_position r ≡ None
      name_right zeros = nowhere r (right_below 12 zeros)
