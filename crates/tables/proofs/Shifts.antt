-- Bands moved one place up or down, and one put in or taken out.
use Rattle.std.proofs.Common.{◌≡◌, ℕ, zero, suc, ◌+◌, ◌-◌, ◌<◌, ◌≤◌, List, [], ◌∷◌, ◌++◌, length, get_or, take, drop, set, sym, refl, ap, ◌∙◌, ap₂, arith}
use Rattle.std.proofs.lemmas.List.{append_assoc, take_more, set_at, take-take, length-take-le, drop-take, length-drop}
use Rattle.std.proofs.lemmas.List.Edits.{take-paste}
use Rattle.std.specs.List.{copy_within, insert, remove}

module _ {X : Type 0} where
  pub take-set_below : (n : ℕ) (xs : List X) (i : ℕ) (y : X) → take n (set xs i y) ≡ set (take n xs) i y
  take-set_below zero xs i y = refl
  take-set_below (suc n) [] i y = refl
  take-set_below (suc n) (x ∷ xs) zero y = refl
  take-set_below (suc n) (x ∷ xs) (suc i) y = ap (λ (zs : List X). x ∷ zs) (take-set_below n xs i y)

  module _ (xs : List X) (count at : ℕ) where
    -- those from `at` on one place up, and y in their first place
    pub put_in : (y : X) → at ≤ count → count < length xs → take (count + 1) (set (copy_within xs at count (at + 1)) at y) ≡ insert (take count xs) at y
    put_in y within room =
        let n : ℕ = count - at in
        let x : X = get_or xs at y in
        let moved : List X = copy_within xs at count (at + 1) in
        let split : at + 1 + n ≡ count + 1 = omega arith in
        let whole : at + n ≡ count = omega arith in
        let front : take (count + 1) moved ≡ take at xs ++ (x ∷ take n (drop at xs)) =
        ap (λ (m : ℕ). take m moved) (sym split)
        ∙ take-paste xs (at + 1) (drop at xs) n (omega arith) (omega (arith, length-drop_at))
        ∙ ap (λ (zs : List X). zs ++ take n (drop at xs)) (take_more xs at y (omega arith))
        ∙ append_assoc (take at xs) (x ∷ []) (take n (drop at xs)) in
        let rest : take n (drop at xs) ≡ drop at (take count xs) = sym (drop-take at n xs) ∙ ap (λ (m : ℕ). drop at (take m xs)) whole in
        take-set_below (count + 1) moved at y
        ∙ ap (λ (zs : List X). set zs at y) front
        ∙ set_at (take at xs) x (take n (drop at xs)) y at (length-take-le at xs (omega arith))
        ∙ ap₂ (λ (xs ys : List X). xs ++ y ∷ ys) (sym (take-take at count xs within)) rest
      where
        length-drop_at : length (drop at xs) ≡ length xs - at
        length-drop_at = length-drop at xs

    -- those after `at` one place down
    pub take_out : at < count → count ≤ length xs → take (count - 1) (copy_within xs (at + 1) count at) ≡ remove (take count xs) at
    take_out there within =
        let n : ℕ = count - (at + 1) in
        let split : at + n ≡ count - 1 = omega arith in
        let whole : at + 1 + n ≡ count = omega arith in
        let next : at + 1 ≡ suc at = omega arith in
        ap (λ (m : ℕ). take m (copy_within xs (at + 1) count at)) (sym split)
        ∙ take-paste xs at (drop (at + 1) xs) n (omega arith) (omega (arith, length-drop (at + 1) xs))
        ∙ ap₂ (λ (xs ys : List X). xs ++ ys) (sym (take-take at count xs (omega arith)))
        (sym (drop-take (at + 1) n xs) ∙ ap₂ (λ (m l : ℕ). drop l (take m xs)) whole next)
