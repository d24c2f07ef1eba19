-- What is said of the numbers below n together: their total, the lowest that passes a test, how many pass, and the highest value.
use Rattle.std.proofs.Common.{◌≡◌, ℕ, zero, suc, ◌+◌, ◌<◌, ◌≤◌, Bool, true, false, cond, ◌⊎◌, Some, None, Option, refl, ap, ◌∙◌, ap₂, inl, inr, ⊎_elim, arith}
use Rattle.std.proofs.lemmas.Bool.{cases_eq}
use Rattle.std.proofs.lemmas.Bool.Decides.{nat_tests}
use Rattle.std.specs.Option.{option_or}
use Rattle.amounts.specs.Kinds.{Kind}
use Rattle.theory.specs.Models.{total_below, lowest_below, count_below, highest_below}

pub total_same : {S : Type 0} (k : Kind S) (f g : ℕ → S) (n : ℕ) → ((u : ℕ) → u < n → f u ≡ g u) → total_below k f n ≡ total_below k g n
unfolding total_below
total_same k f g zero same = refl
total_same k f g (suc n) same = ap₂ k.total (total_same k f g n (λ u below. same u (omega arith))) (same n (omega arith))

-- what a search has found once n is tried too
abbrev found : ℕ → Option ℕ → Bool → Option ℕ
found n before passes = option_or before (cond passes (Some n) None)

pub lowest_same : (p q : ℕ → Bool) (n : ℕ) → ((u : ℕ) → u < n → p u ≡ q u) → lowest_below p n ≡ lowest_below q n
unfolding lowest_below
lowest_same p q zero same = refl
lowest_same p q (suc n) same = ap₂ (found n) (lowest_same p q n (λ u below. same u (omega arith))) (same n (omega arith))

module _ (test : ℕ → Bool) where
  pub lowest_none : (n : ℕ) → ((u : ℕ) → u < n → test u ≡ false) → lowest_below test n ≡ None
  unfolding lowest_below
  lowest_none zero none = refl
  lowest_none (suc n) none = ap₂ (found n) (lowest_none n (λ u below. none u (omega arith))) (none n (omega arith))

  pub none_passes : (n : ℕ) → lowest_below test n ≡ None → (u : ℕ) → u < n → test u ≡ false
  unfolding lowest_below
  none_passes zero none u below = absurd (omega arith)
  none_passes (suc n) none u below = let before = none_passes n in grind (arith, nat_tests)

  -- what is found below v is found below every n from v on
  pub lowest_kept : (n v u : ℕ) → lowest_below test v ≡ Some u → v ≤ n → lowest_below test n ≡ Some u
  unfolding lowest_below
  lowest_kept zero v u some from = let is : zero ≡ v = omega arith in ap (lowest_below test) is ∙ some
  lowest_kept (suc n) v u some from =
      ⊎_elim
      (λ (is : suc n ≡ v). ap (lowest_below test) is ∙ some)
      (λ (ne : suc n ≡ v → ⊥). ap (λ (before : Option ℕ). found n before (test n)) (lowest_kept n v u some (omega arith)))
      (cases_eq (suc n) v)

-- what one number adds to a count
abbrev one : Bool → ℕ
one passes = cond passes 1 0

pub count_same : (p q : ℕ → Bool) (n : ℕ) → ((u : ℕ) → u < n → p u ≡ q u) → count_below p n ≡ count_below q n
unfolding count_below
count_same p q zero same = refl
count_same p q (suc n) same = ap₂ ◌+◌ (count_same p q n (λ u below. same u (omega arith))) (ap one (same n (omega arith)))

-- where each number that passes p passes exactly one of q and s
pub count_parts : (p q s : ℕ → Bool) (n : ℕ) → ((u : ℕ) → u < n → one (p u) ≡ one (q u) + one (s u)) → count_below p n ≡ count_below q n + count_below s n
unfolding count_below
count_parts p q s zero each = refl
count_parts p q s (suc n) each = omega (arith, count_parts p q s n (λ u below. each u (omega arith)), each n (omega arith))

module _ (test : ℕ → Bool) where
  pub count_at_most : (n : ℕ) → count_below test n ≤ n
  unfolding count_below
  count_at_most zero = omega arith
  count_at_most (suc n) = let before = count_at_most n in grind arith

  pub count_none : (n : ℕ) → ((u : ℕ) → u < n → test u ≡ false) → count_below test n ≡ 0
  unfolding count_below
  count_none zero none = refl
  count_none (suc n) none = ap₂ ◌+◌ (count_none n (λ u below. none u (omega arith))) (ap one (none n (omega arith)))

  -- a number that passes, if any is counted
  pub count_some : (n : ℕ) → 0 < count_below test n → (u : ℕ) × (u < n) × (test u ≡ true)
  unfolding count_below
  count_some zero some = absurd (omega arith)
  count_some (suc n) some = let before = count_some n in grind (arith, nat_tests)

  pub count_zero : (n : ℕ) → count_below test n ≡ 0 → (u : ℕ) → u < n → test u ≡ false
  unfolding count_below
  count_zero zero none u below = absurd (omega arith)
  count_zero (suc n) none u below = let before = count_zero n in grind (arith, nat_tests)

module _ (f : ℕ → ℕ) where
  highest_at_most : (n r : ℕ) → ((t : ℕ) → t < n → f t ≤ r) → highest_below f n ≤ r
  unfolding highest_below
  highest_at_most zero r most = omega arith
  highest_at_most (suc n) r most = let before = highest_at_most n r in grind arith

  highest_above : (n t : ℕ) → t < n → f t ≤ highest_below f n
  unfolding highest_below
  highest_above zero t below = absurd (omega arith)
  highest_above (suc n) t below = let before = highest_above n t in grind arith

  pub highest_is : (n r : ℕ) → ((t : ℕ) → t < n → f t ≤ r) → (r ≡ 0) ⊎ ((t : ℕ) × (t < n) × (f t ≡ r)) → highest_below f n ≡ r
  highest_is n r most (inl none) = omega (arith, highest_at_most n r most)
  highest_is n r most (inr (t, below, is)) = omega (arith, highest_at_most n r most, highest_above n t below)
