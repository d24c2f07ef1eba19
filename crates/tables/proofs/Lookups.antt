-- What is read of a pair: from a part of the held bands, and after a band is put in place.
use Rattle.std.proofs.Common.{◌≡◌, ℕ, ◌<◌, ◌≤◌, Bool, true, false, cond, eqb, ltb, List, [], ◌∷◌, ◌++◌, take, drop, filter, sym, refl, ap, ◌∙◌, ⊎_elim, arith}
use Rattle.std.proofs.ByRecursion.{All-append, all_from_every, All-weaker}
use Rattle.std.proofs.lemmas.List.{get_or-take, length-take-le, take-append-drop}
use Rattle.std.proofs.lemmas.Bool.{both_ways, cases_Bool, cases_lt, cond_both, eq-eqb, lt-ltb, ne_eqb}
use Rattle.std.specs.List.{AllByRecursion}
use Rattle.amounts.specs.Kinds.{Kind}
use Rattle.tables.specs.Held.{pair_of, key_of, bounds_of, band_in, before, after, both_nothing, held_for, with_band, Position}
use Rattle.tables.specs.declared.band.Band.{Band}
use Rattle.tables.proofs.Orders.{all_before, all_after}

-- targets are below 65,536, so a pair's number tells its source and its target
pub pairs_same : (s t s' t' : ℕ) → t < 65_536 → t' < 65_536 → pair_of s t ≡ pair_of s' t' → (s ≡ s') × (t ≡ t')
pairs_same s t s' t' fits fits' same = (omega arith, omega arith)

-- a band of another pair
abbrev Other : {S : Type 0} → ℕ → Band S → Type 0
Other pair c = key_of c ≡ pair → ⊥

module _ {S : Type 0} (k : Kind S) (s t : ℕ) where
  reads_none : (others : List (Band S)) → AllByRecursion (Other (pair_of s t)) others → band_in k others s t ≡ record { low = k.nothing; high = k.nothing }
  unfolding band_in
  reads_none [] apart = refl
  reads_none (c ∷ cs) apart = rw (ne_eqb (key_of c) (pair_of s t) apart.0) (reads_none cs apart.1)

  -- bands of other pairs before and after do not tell
  past_others : (others held : List (Band S)) → AllByRecursion (Other (pair_of s t)) others → band_in k (others ++ held) s t ≡ band_in k held s t
  unfolding band_in
  past_others [] held apart = refl
  past_others (c ∷ cs) held apart = rw (ne_eqb (key_of c) (pair_of s t) apart.0) (past_others cs held apart.1)

  before_others : (held others : List (Band S)) → AllByRecursion (Other (pair_of s t)) others → band_in k (held ++ others) s t ≡ band_in k held s t
  unfolding band_in
  before_others [] others apart = reads_none others apart
  before_others (c ∷ cs) others apart = ap (cond (eqb (key_of c) (pair_of s t)) (bounds_of c)) (before_others cs others apart)

  -- nor do those that a filter leaves out
  reads_kept : (test : Band S → Bool) → ((c : Band S) → key_of c ≡ pair_of s t → test c ≡ true) → (held : List (Band S)) → band_in k (filter test held) s t ≡ band_in k held s t
  unfolding band_in
  reads_kept test passes [] = refl
  reads_kept test passes (c ∷ cs) =
      ⊎_elim
      (λ (kept : test c ≡ true). rw kept (ap (cond (eqb (key_of c) (pair_of s t)) (bounds_of c)) (reads_kept test passes cs)))
      (λ (left : test c ≡ false).
      let other = ne_eqb (key_of c) (pair_of s t) (λ same. both_ways (test c) left (passes c same)) in
      rw (left, other) (reads_kept test passes cs))
      (cases_Bool (test c))

  pub reads_past : (held : List (Band S)) → AllByRecursion (λ c. pair_of s t < key_of c) held → band_in k held s t ≡ record { low = k.nothing; high = k.nothing }
  reads_past held past = reads_none held (All-weaker (λ c. pair_of s t < key_of c) (Other (pair_of s t)) (λ c less same. omega arith) held past)

  -- the bands from the place of the source on tell all of it
  pub reads_part : {p : ℕ} {held : List (Band S)} → Position (pair_of s 0) held p → band_in k held s t ≡ band_in k (drop p held) s t
  reads_part {p} {held} place =
      ap (λ (cs : List (Band S)). band_in k cs s t) (sym (take-append-drop p held)) ∙ past_others (take p held) (drop p held) lower
    where
      lower : AllByRecursion (Other (pair_of s t)) (take p held)
      lower = all_from_every (Other (pair_of s t)) (take p held) (λ i d from less.
          let within : i < p = omega (arith, length-take-le p held place.within) in
          rw (get_or-take p held i d within) (λ same. omega (arith, place.below i d within)))

module _ {S : Type 0} (k : Kind S) (b : Band S) (held : List (Band S)) where
  abbrev lower : List (Band S)
  lower = before (key_of b) held

  abbrev upper : List (Band S)
  upper = after (key_of b) held

  pub reads_own : band_in k (with_band k b held) b.source b.target ≡ cond (both_nothing k (bounds_of b)) (record { low = k.nothing; high = k.nothing }) (bounds_of b)
  unfolding band_in
  reads_own =
      past_others k b.source b.target lower (held_for k b ++ upper) (All-weaker (λ c. key_of c < key_of b) (Other (key_of b)) (λ c less same. omega arith) lower (all_before (key_of b) held))
      ∙ own (both_nothing k (bounds_of b))
    where
      own : (nothing : Bool) → band_in k (cond nothing [] (b ∷ []) ++ upper) b.source b.target ≡ cond nothing (record { low = k.nothing; high = k.nothing }) (bounds_of b)
      own true = reads_past k b.source b.target upper (all_after (key_of b) held)
      own false = rw (eq-eqb (key_of b) (key_of b) refl)

  pub reads_other : (s t : ℕ) → (pair_of s t ≡ key_of b → ⊥) → band_in k (with_band k b held) s t ≡ band_in k held s t
  reads_other s t apart =
      ⊎_elim
      (λ (less : pair_of s t < key_of b).
      let past = All-weaker (λ c. key_of b < key_of c) (Other (pair_of s t)) (λ c above same. omega arith) upper (all_after (key_of b) held) in
      before_others k s t lower (held_for k b ++ upper) (All-append (Other (pair_of s t)) (held_for k b) upper own past)
      ∙ reads_kept k s t (λ c. ltb (key_of c) (key_of b)) (λ c same. lt-ltb (key_of c) (key_of b) (omega arith)) held)
      (λ (from : key_of b ≤ pair_of s t).
      let past = All-weaker (λ c. key_of c < key_of b) (Other (pair_of s t)) (λ c below same. omega arith) lower (all_before (key_of b) held) in
      past_others k s t lower (held_for k b ++ upper) past
      ∙ past_others k s t (held_for k b) upper own
      ∙ reads_kept k s t (λ c. ltb (key_of b) (key_of c)) (λ c same. lt-ltb (key_of b) (key_of c) (omega arith)) held)
      (cases_lt (pair_of s t) (key_of b))
    where
      own : AllByRecursion (Other (pair_of s t)) (held_for k b)
      own = cond_both (both_nothing k (bounds_of b)) [] (b ∷ []) (AllByRecursion (Other (pair_of s t))) (λ _. tt) (λ _. (λ same. apart (sym same), tt))
