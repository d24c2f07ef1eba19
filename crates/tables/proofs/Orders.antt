-- Where a pair stands among the held bands, and the order and number of the bands after one is put in place.
use Rattle.std.proofs.Common.{◌≡◌, ℕ, zero, suc, ◌+◌, ◌<◌, ◌≤◌, Bool, true, false, eqb, ltb, List, [], ◌∷◌, ◌++◌, length, get_or, take, drop, filter, refl, ap, ◌∙◌, ap₂, ⊎_elim, arith}
use Rattle.std.proofs.ByRecursion.{All-append, all_from_every, All-get_or, all_kept_by, All-weaker, kept_by_passes}
use Rattle.std.proofs.lemmas.List.{get_or_default, length-append, length-drop, length-take-le, take-append-drop}
use Rattle.std.proofs.lemmas.Bool.{both_ways, cases_Bool, cases_eq, cases_lt, cond_both, cond-false, cond-true, eq-eqb, le-ltb, lt-ltb, ltb-true, ne_eqb}
use Rattle.std.specs.List.{AllWithin, AllByRecursion}
use Rattle.amounts.specs.Kinds.{Kind}
use Rattle.tables.specs.Held.{key_of, bounds_of, Ascending, is_held, before, after, both_nothing, held_for, with_band, Position}
use Rattle.tables.specs.declared.band.Band.{Band}

-- a filter that passes the first q and no more, and one that passes all but those
module _ {X : Type 0} (test : X → Bool) where
  kept_front : (q : ℕ) (xs : List X) → AllWithin (λ x. test x ≡ true) xs 0 q → AllWithin (λ x. test x ≡ false) xs q (length xs) → filter test xs ≡ take q xs
  kept_front zero [] front back = refl
  kept_front zero (x ∷ xs) front back =
      rw (back zero x (omega arith) (omega arith)) (kept_front zero xs (λ i d from less. absurd (omega arith)) (λ i d from less. back (suc i) d (omega arith) (omega arith)))
  kept_front (suc q) [] front back = refl
  kept_front (suc q) (x ∷ xs) front back =
      let rest = kept_front q xs (λ i d from less. front (suc i) d (omega arith) (omega arith)) (λ i d from less. back (suc i) d (omega arith) (omega arith)) in
      rw (front zero x (omega arith) (omega arith)) (ap (λ (ys : List X). x ∷ ys) rest)

  kept_back : (q : ℕ) (xs : List X) → AllWithin (λ x. test x ≡ false) xs 0 q → AllWithin (λ x. test x ≡ true) xs q (length xs) → filter test xs ≡ drop q xs
  kept_back zero [] front back = refl
  kept_back zero (x ∷ xs) front back =
      let rest = kept_back zero xs (λ i d from less. absurd (omega arith)) (λ i d from less. back (suc i) d (omega arith) (omega arith)) in
      rw (back zero x (omega arith) (omega arith)) (ap (λ (ys : List X). x ∷ ys) rest)
  kept_back (suc q) [] front back = refl
  kept_back (suc q) (x ∷ xs) front back =
      rw (front zero x (omega arith) (omega arith)) (kept_back q xs (λ i d from less. front (suc i) d (omega arith) (omega arith)) (λ i d from less. back (suc i) d (omega arith) (omega arith)))

module _ {S : Type 0} where
  pub ascending_places : (held : List (Band S)) → Ascending held → (i j : ℕ) (d : Band S) → i < j → j < length held → key_of (get_or held i d) < key_of (get_or held j d)
  ascending_places [] order i j d less within = absurd (omega arith)
  ascending_places (b ∷ bs) order i zero d less within = absurd (omega arith)
  ascending_places (b ∷ bs) order zero (suc j) d less within = All-get_or (λ c. key_of b < key_of c) bs j d (omega arith) order.0
  ascending_places (b ∷ bs) order (suc i) (suc j) d less within = ascending_places bs order.1 i j d (omega arith) (omega arith)

  pub ascending_drop : (n : ℕ) (held : List (Band S)) → Ascending held → Ascending (drop n held)
  ascending_drop zero held order = order
  ascending_drop (suc n) [] order = tt
  ascending_drop (suc n) (b ∷ bs) order = ascending_drop n bs order.1

  -- none of the bands is of the pair
  held_none : (pair : ℕ) (held : List (Band S)) → AllByRecursion (λ c. key_of c ≡ pair → ⊥) held → is_held held pair ≡ false
  unfolding is_held
  held_none pair [] others = refl
  held_none pair (b ∷ bs) others = rw (ne_eqb (key_of b) pair others.0) (held_none pair bs others.1)

  pub held_present : (pair : ℕ) (held : List (Band S)) (p : ℕ) (d : Band S) → p < length held → key_of (get_or held p d) ≡ pair → is_held held pair ≡ true
  unfolding is_held
  held_present pair [] p d within is = absurd (omega arith)
  held_present pair (b ∷ bs) zero d within is = rw (eq-eqb (key_of b) pair is)
  held_present pair (b ∷ bs) (suc p) d within is =
      ⊎_elim
      (λ (here : eqb (key_of b) pair ≡ true). rw here)
      (λ (not_here : eqb (key_of b) pair ≡ false). rw not_here (held_present pair bs p d (omega arith) is))
      (cases_Bool (eqb (key_of b) pair))

  -- no band at p is of the pair
  abbrev pub Absent : ℕ → List (Band S) → ℕ → Type 0
  Absent pair held p = (d : Band S) → p < length held → (key_of (get_or held p d) ≡ pair → ⊥)

  module _ {pair p : ℕ} {held : List (Band S)} (place : Position pair held p) where
    pub before_is : before pair held ≡ take p held
    before_is =
        kept_front (λ c. ltb (key_of c) pair) p held
        (λ i d from less. lt-ltb (key_of (get_or held i d)) pair (place.below i d less))
        (λ i d from less. le-ltb (key_of (get_or held i d)) pair (place.above i d from less))

    past_absent : Absent pair held p → Ascending held → (i : ℕ) (d : Band S) → p ≤ i → i < length held → pair < key_of (get_or held i d)
    past_absent absent order i d from less =
        ⊎_elim
        (λ (here : p ≡ i). let ne : key_of (get_or held i d) ≡ pair → ⊥ = rw here at (absent d) less in omega (arith, place.above i d from less))
        (λ (later : p ≡ i → ⊥). omega (arith, place.above p d (omega arith) (omega arith), ascending_places held order p i d (omega arith) less))
        (cases_eq p i)

    pub after_absent : Absent pair held p → Ascending held → after pair held ≡ drop p held
    after_absent absent order =
        kept_back (λ c. ltb pair (key_of c)) p held
        (λ i d from less. le-ltb pair (key_of (get_or held i d)) (omega (arith, place.below i d less)))
        (λ i d from less. lt-ltb pair (key_of (get_or held i d)) (past_absent absent order i d from less))

    pub after_present : (d : Band S) → p < length held → key_of (get_or held p d) ≡ pair → Ascending held → after pair held ≡ drop (p + 1) held
    after_present d within is order =
        kept_back (λ c. ltb pair (key_of c)) (p + 1) held
        (λ i e from less. le-ltb pair (key_of (get_or held i e)) (not_past i e (omega arith)))
        (λ i e from less. lt-ltb pair (key_of (get_or held i e)) (omega (arith, here e, ascending_places held order p i e (omega arith) less)))
      where
        here : (e : Band S) → key_of (get_or held p e) ≡ pair
        here e = ap key_of (get_or_default held p e d within) ∙ is

        not_past : (i : ℕ) (e : Band S) → i ≤ p → key_of (get_or held i e) ≤ pair
        not_past i e upto =
            ⊎_elim (λ (less : i < p). omega (arith, place.below i e less))
            (λ (from : p ≤ i). let same : p ≡ i = omega arith in omega (arith, rw same at (here e)))
            (cases_lt i p)

    pub held_absent : Absent pair held p → Ascending held → is_held held pair ≡ false
    held_absent absent order =
        held_none pair held (all_from_every (λ c. key_of c ≡ pair → ⊥) held (λ i d from less.
        ⊎_elim (λ (lower : i < p). λ is. omega (arith, place.below i d lower))
        (λ (upper : p ≤ i). λ is. omega (arith, past_absent absent order i d upper less))
        (cases_lt i p)))

    -- a pair that is held stands at its place
    there : (d : Band S) → is_held held pair ≡ true → Ascending held → (p < length held) × (key_of (get_or held p d) ≡ pair)
    there d has order =
        ⊎_elim
        (λ (within : p < length held).
        ⊎_elim
        (λ (is : key_of (get_or held p d) ≡ pair). (within, is))
        (λ (not : key_of (get_or held p d) ≡ pair → ⊥). absurd (missed (λ e _ is. not (ap key_of (get_or_default held p d e within) ∙ is))))
        (cases_eq (key_of (get_or held p d)) pair))
        (λ (past : length held ≤ p). absurd (missed (λ e within. absurd (omega arith))))
        (cases_lt p (length held))
      where
        missed : Absent pair held p → ⊥
        missed absent = both_ways (is_held held pair) (held_absent absent order) has

  -- every pair has a place
  position : (pair : ℕ) (held : List (Band S)) → Ascending held → (p : ℕ) × Position pair held p
  position pair [] order = (zero, record { within = omega arith; below = λ i d less. absurd (omega arith); above = λ i d from less. absurd (omega arith) })
  position pair (b ∷ bs) order =
      let rest = position pair bs order.1 in
      ⊎_elim
      (λ (lower : key_of b < pair). (suc rest.0, one_on rest.0 rest.1 lower))
      (λ (upper : pair ≤ key_of b). (zero, record { within = omega arith; below = λ i d less. absurd (omega arith); above = λ i d from. first upper i d }))
      (cases_lt (key_of b) pair)
    where
      one_on : (p : ℕ) → Position pair bs p → key_of b < pair → Position pair (b ∷ bs) (suc p)
      one_on p place lower = record { within = omega arith; below = below; above = above }
        where
          below : (i : ℕ) (d : Band S) → i < suc p → key_of (get_or (b ∷ bs) i d) < pair
          below zero d less = lower
          below (suc i) d less = place.below i d (omega arith)

          above : (i : ℕ) (d : Band S) → suc p ≤ i → i < length (b ∷ bs) → pair ≤ key_of (get_or (b ∷ bs) i d)
          above zero d from less = absurd (omega arith)
          above (suc i) d from less = place.above i d (omega arith) (omega arith)

      first : pair ≤ key_of b → (i : ℕ) (d : Band S) → i < length (b ∷ bs) → pair ≤ key_of (get_or (b ∷ bs) i d)
      first upper zero d less = upper
      first upper (suc i) d less = omega (arith, ascending_places (b ∷ bs) order zero (suc i) d (omega arith) less)

  -- a pair that is not held parts the bands, and one that is held parts the others
  parts_absent : (pair : ℕ) (held : List (Band S)) → is_held held pair ≡ false → Ascending held → before pair held ++ after pair held ≡ held
  parts_absent pair held out order =
      let at = position pair held order in
      let absent : Absent pair held at.0 = λ d within is. both_ways (is_held held pair) out (held_present pair held at.0 d within is) in
      ap₂ ◌++◌ (before_is at.1) (after_absent at.1 absent order) ∙ take-append-drop at.0 held

  parts_present : (b : Band S) (held : List (Band S)) → is_held held (key_of b) ≡ true → Ascending held → (length (before (key_of b) held) + length (after (key_of b) held)) + 1 ≡ length held
  parts_present b held has order =
      let at = position (key_of b) held order in
      let here = there at.1 b has order in
      let lower = ap length (before_is at.1) ∙ length-take-le at.0 held at.1.within in
      let upper = ap length (after_present at.1 b here.0 here.1 order) ∙ length-drop (at.0 + 1) held in
      omega (arith, lower, upper, here.0)

  -- bands whose pairs come before a pair, and then bands whose pairs do not
  ascending_append : (pair : ℕ) (lower upper : List (Band S)) → Ascending lower → AllByRecursion (λ c. key_of c < pair) lower → Ascending upper → AllByRecursion (λ c. pair ≤ key_of c) upper → Ascending (lower ++ upper)
  ascending_append pair [] upper order below order' above = order'
  ascending_append pair (b ∷ bs) upper order below order' above =
      let past = All-weaker (λ c. pair ≤ key_of c) (λ c. key_of b < key_of c) (λ c from. omega (arith, below.0)) upper above in
      (All-append (λ c. key_of b < key_of c) bs upper order.0 past, ascending_append pair bs upper order.1 below.1 order' above)

  ascending_kept : (test : Band S → Bool) (held : List (Band S)) → Ascending held → Ascending (filter test held)
  ascending_kept test [] order = tt
  ascending_kept test (b ∷ bs) order =
      cond_both (test b) (b ∷ filter test bs) (filter test bs) Ascending
      (λ passes. (all_kept_by test (λ c. key_of b < key_of c) bs order.0, ascending_kept test bs order.1))
      (λ fails. ascending_kept test bs order.1)

  pub all_before : (pair : ℕ) (held : List (Band S)) → AllByRecursion (λ c. key_of c < pair) (before pair held)
  all_before pair held =
      let test : Band S → Bool = λ c. ltb (key_of c) pair in
      All-weaker (λ c. test c ≡ true) (λ c. key_of c < pair) (λ c. ltb-true (key_of c) pair) (before pair held) (kept_by_passes test held)

  pub all_after : (pair : ℕ) (held : List (Band S)) → AllByRecursion (λ c. pair < key_of c) (after pair held)
  all_after pair held =
      let test : Band S → Bool = λ c. ltb pair (key_of c) in
      All-weaker (λ c. test c ≡ true) (λ c. pair < key_of c) (λ c. ltb-true pair (key_of c)) (after pair held) (kept_by_passes test held)

  module _ (k : Kind S) (b : Band S) (held : List (Band S)) where
    pub with_ascending : Ascending held → Ascending (with_band k b held)
    with_ascending order =
        ascending_append (key_of b) (before (key_of b) held) (held_for k b ++ upper) (ascending_kept (λ c. ltb (key_of c) (key_of b)) held order) (all_before (key_of b) held) rest.0 rest.1
      where
        upper : List (Band S)
        upper = after (key_of b) held

        past : AllByRecursion (λ c. key_of b < key_of c) upper
        past = all_after (key_of b) held

        rest : Ascending (held_for k b ++ upper) × AllByRecursion (λ c. key_of b ≤ key_of c) (held_for k b ++ upper)
        rest =
            let ascending = ascending_kept (λ c. ltb (key_of b) (key_of c)) held order in
            let above = All-weaker (λ c. key_of b < key_of c) (λ c. key_of b ≤ key_of c) (λ c less. omega arith) upper past in
            cond_both (both_nothing k (bounds_of b)) [] (b ∷ []) (λ own. Ascending (own ++ upper) × AllByRecursion (λ c. key_of b ≤ key_of c) (own ++ upper))
            (λ _. (ascending, above)) (λ _. ((past, ascending), (omega arith, above)))

    pub all_with : (P : Band S → Type 0) → AllByRecursion P held → (both_nothing k (bounds_of b) ≡ false → P b) → AllByRecursion P (with_band k b held)
    all_with P all own =
        All-append P (before (key_of b) held) (held_for k b ++ after (key_of b) held) (all_kept_by (λ c. ltb (key_of c) (key_of b)) P held all)
        (All-append P (held_for k b) (after (key_of b) held) (cond_both (both_nothing k (bounds_of b)) [] (b ∷ []) (AllByRecursion P) (λ _. tt) (λ some. (own some, tt)))
        (all_kept_by (λ c. ltb (key_of b) (key_of c)) P held all))

    length_with : length (with_band k b held) ≡ length (before (key_of b) held) + (length (held_for k b) + length (after (key_of b) held))
    length_with = length-append (before (key_of b) held) (held_for k b ++ after (key_of b) held) ∙ ap (λ (n : ℕ). length (before (key_of b) held) + n) (length-append (held_for k b) (after (key_of b) held))

    held_for_some : both_nothing k (bounds_of b) ≡ false → held_for k b ≡ b ∷ []
    held_for_some some = cond-false (both_nothing k (bounds_of b)) [] (b ∷ []) some

    held_for_nothing : both_nothing k (bounds_of b) ≡ true → held_for k b ≡ []
    held_for_nothing none = cond-true (both_nothing k (bounds_of b)) [] (b ∷ []) none

    pub length_with_new : is_held held (key_of b) ≡ false → both_nothing k (bounds_of b) ≡ false → Ascending held → length (with_band k b held) ≡ length held + 1
    length_with_new out some order =
        let parts = ap length (parts_absent (key_of b) held out order) in
        omega (arith, length_with, ap length (held_for_some some), parts, length-append (before (key_of b) held) (after (key_of b) held))

    pub length_with_held : is_held held (key_of b) ≡ true → both_nothing k (bounds_of b) ≡ false → Ascending held → length (with_band k b held) ≡ length held
    length_with_held has some order = omega (arith, length_with, ap length (held_for_some some), parts_present b held has order)

    pub length_cleared_held : is_held held (key_of b) ≡ true → both_nothing k (bounds_of b) ≡ true → Ascending held → length (with_band k b held) + 1 ≡ length held
    length_cleared_held has none order = omega (arith, length_with, ap length (held_for_nothing none), parts_present b held has order)

    pub cleared_absent : is_held held (key_of b) ≡ false → both_nothing k (bounds_of b) ≡ true → Ascending held → with_band k b held ≡ held
    cleared_absent out none order =
        ap (λ (own : List (Band S)). before (key_of b) held ++ (own ++ after (key_of b) held)) (held_for_nothing none) ∙ parts_absent (key_of b) held out order
