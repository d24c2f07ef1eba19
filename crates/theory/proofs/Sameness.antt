-- The same amount, up to which the laws hold: totals and tests respect it.
use Rattle.std.proofs.Common.{◌≡◌, true, false, sym, ◌∙◌, ◌⊎◌, inl, inr, ⊎_elim, arith}
use Rattle.std.proofs.lemmas.Bool.{cases_Bool, false≢true}
use Rattle.std.proofs.lemmas.Bool.Decides.{nat_tests}
use Rattle.amounts.specs.Kinds.{Kind, Laws, AtMost, Same, IsNothing}

module _ {S : Type 0} {k : Kind S} (laws : Laws k) where
  pub same_refl : (x : S) → Same k x x
  same_refl x = record { there = laws.at_most_refl x; back = laws.at_most_refl x }

  pub same_sym : {x y : S} → Same k x y → Same k y x
  same_sym p = record { there = p.back; back = p.there }

  pub same_trans : {x y z : S} → Same k x y → Same k y z → Same k x z
  same_trans {x} {y} {z} p q = record { there = laws.at_most_trans x y z p.there q.there; back = laws.at_most_trans z y x q.back p.back }

  pub same_total : {x y : S} (z : S) → Same k x y → Same k (k.total x z) (k.total y z)
  same_total {x} {y} z p = record { there = laws.total_mono x y z p.there; back = laws.total_mono y x z p.back }

  pub total_nothing_right : (x : S) → Same k (k.total x k.nothing) x
  total_nothing_right x = same_trans (laws.total_comm x k.nothing) (laws.total_nothing x)

  -- the same amounts pass the same tests
  tests_same : {x y v w : S} → AtMost k v x → AtMost k x v → AtMost k y w → AtMost k w y → k.at_most x y ≡ k.at_most v w
  tests_same {x} {y} {v} {w} v_x x_v y_w w_y =
      let there = λ (p : k.at_most x y ≡ true). (laws.at_most_trans v x w v_x (laws.at_most_trans x y w (record { holds = p }) y_w)).holds in
      let back = λ (p : k.at_most v w ≡ true). (laws.at_most_trans x v y x_v (laws.at_most_trans v w y (record { holds = p }) w_y)).holds in
      grind (arith, nat_tests)

  pub test_same_left : {x v : S} (y : S) → Same k x v → k.at_most x y ≡ k.at_most v y
  test_same_left y p = tests_same p.back p.there (laws.at_most_refl y) (laws.at_most_refl y)

  pub test_same_right : {y w : S} (x : S) → Same k y w → k.at_most x y ≡ k.at_most x w
  test_same_right x p = tests_same (laws.at_most_refl x) (laws.at_most_refl x) p.there p.back

  -- whether an amount is nothing can be tested
  pub nothing_or_some : (x : S) → IsNothing k x ⊎ ¬ IsNothing k x
  nothing_or_some x = ⊎_elim
      (λ (none : k.at_most x k.nothing ≡ true). inl (record { there = record { holds = none }; back = laws.nothing_least x }))
      (λ (some : k.at_most x k.nothing ≡ false). inr (λ (none : IsNothing k x). false≢true (sym some ∙ none.there.holds)))
      (cases_Bool (k.at_most x k.nothing))
