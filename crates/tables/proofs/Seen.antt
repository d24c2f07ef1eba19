-- The pass over the held bands of a source gives the reason that the definition asks for over all states.
use Rattle.std.proofs.Common.{◌≡◌, ℕ, zero, suc, ◌+◌, ◌-◌, ◌<◌, ◌≤◌, Bool, true, false, cond, not, List, [], ◌∷◌, drop, Some, None, Option, sym, refl, ap, ◌∙◌, subst, ⊎_elim, arith}
use Rattle.std.proofs.ByRecursion.{All-drop, all_from_every, All-weaker}
use Rattle.std.proofs.lemmas.List.{get_or-drop, length-drop}
use Rattle.std.proofs.lemmas.Bool.{and_right, cases_Bool, cases_eq, cond_both, eq-eqb, ne_eqb}
use Rattle.std.specs.Option.{option_or}
use Rattle.std.specs.List.{AllByRecursion}
use Rattle.amounts.specs.Kinds.{Kind, Laws, Same}
use Rattle.amounts.specs.declared.bounds.Bounds.{Bounds}
use Rattle.theory.proofs.Below.{lowest_kept}
use Rattle.theory.proofs.Sameness.{same_refl, same_sym, same_trans, same_total, total_nothing_right, test_same_left, test_same_right}
use Rattle.theory.specs.Consistency.{low_inside, high_inside, is_lost, is_crossed, first_reason, reason_of}
use Rattle.theory.specs.Models.{Model, total_below, lowest_below}
use Rattle.theory.specs.declared.reason.Reason.TheVariants.{Lost}
use Rattle.tables.specs.Held.{pair_of, key_of, bounds_of, Ascending, Position, band_in, model_of}
use Rattle.tables.specs.Passes.{crossing, ended, passed}
use Rattle.tables.specs.declared.band.Band.{Band}
use Rattle.tables.proofs.Lookups.{reads_part, reads_past}
use Rattle.tables.proofs.Orders.{ascending_drop}
use Rattle.tables.proofs.Turns as turns

module _ {S : Type 0} {k : Kind S} (laws : Laws k) (m : Model S) (x : ℕ → Bool) (s : ℕ) where
  -- what the pass knows once it has seen the states below v, none of which is lost
  record Seen (v : ℕ) (crossed : Option ℕ) (low high : S) : Type 0 where
    pub kept : lowest_below (is_lost k m x s) v ≡ None
    pub crossing : lowest_below (is_crossed k m x s) v ≡ crossed
    pub lows : Same k low (total_below k (low_inside k m x s) v)
    pub highs : Same k high (total_below k (high_inside k m x s) v)

  seen_none : Seen 0 None k.nothing k.nothing
  unfolding total_below lowest_below
  seen_none = record { kept = refl; crossing = refl; lows = same_refl laws k.nothing; highs = same_refl laws k.nothing }

  -- one state more, by what it adds
  seen_one : {v : ℕ} {crossed : Option ℕ} {low high : S} → Seen v crossed low high → is_lost k m x s v ≡ false → (crossed' : Option ℕ) → option_or crossed (cond (is_crossed k m x s v) (Some v) None) ≡ crossed' → (low' high' : S) → Same k low' (k.total low (low_inside k m x s v)) → Same k high' (k.total high (high_inside k m x s v)) → Seen (suc v) crossed' low' high'
  unfolding total_below lowest_below
  seen_one {v} seen kept crossed' crossing low' high' lows highs = record {
    kept = rw (seen.kept, kept);
    crossing = rw seen.crossing crossing;
    lows = same_trans laws lows (same_total laws (low_inside k m x s v) seen.lows);
    highs = same_trans laws highs (same_total laws (high_inside k m x s v) seen.highs);
  }

  -- the band of a pair that is not held
  abbrev unheld : Bounds S
  unheld = record { low = k.nothing; high = k.nothing }

  module _ {v : ℕ} {crossed : Option ℕ} {low high : S} (seen : Seen v crossed low high) where
    -- the state v adds nothing to either total
    adds_none : low_inside k m x s v ≡ k.nothing → high_inside k m x s v ≡ k.nothing → is_lost k m x s v ≡ false → is_crossed k m x s v ≡ false → Seen (suc v) crossed low high
    adds_none no_low no_high kept ordered =
        seen_one seen kept crossed (rw ordered (same_other crossed)) low high
        (rw no_low (same_sym laws (total_nothing_right laws low)))
        (rw no_high (same_sym laws (total_nothing_right laws high)))
      where
        same_other : (o : Option ℕ) → option_or o None ≡ o
        same_other None = refl
        same_other (Some u) = refl

    skip_one : m.band s v ≡ unheld → Seen (suc v) crossed low high
    skip_one none =
        let least : k.at_most k.nothing k.nothing ≡ true = (laws.at_most_refl k.nothing).holds in
        adds_none
        (cond_both (x v) (m.band s v).low k.nothing (λ (a : S). a ≡ k.nothing) (λ _. ap (λ (b : Bounds S). b.low) none) (λ _. refl))
        (cond_both (x v) (m.band s v).high k.nothing (λ (a : S). a ≡ k.nothing) (λ _. ap (λ (b : Bounds S). b.high) none) (λ _. refl))
        (rw (none, least) (and_right (not (x v)) false refl))
        (rw (none, least) (and_right (x v) false refl))

    inside : x v ≡ true → Seen (suc v) (option_or crossed (cond (k.at_most (m.band s v).low (m.band s v).high) None (Some v))) (k.total low (m.band s v).low) (k.total high (m.band s v).high)
    inside is =
        seen_one seen (rw is) _ (ap (option_or crossed) (rw is (turned (k.at_most (m.band s v).low (m.band s v).high)))) _ _ (rw is (same_refl laws _)) (rw is (same_refl laws _))
      where
        turned : (b : Bool) → cond (not b) (Some v) None ≡ cond b None (Some v)
        turned true = refl
        turned false = refl

    outside : x v ≡ false → k.at_most (m.band s v).low k.nothing ≡ true → Seen (suc v) crossed low high
    outside out none = adds_none (rw out) (rw out) (rw (out, none)) (rw out)

    first_lost : x v ≡ false → k.at_most (m.band s v).low k.nothing ≡ false → lowest_below (is_lost k m x s) (suc v) ≡ Some v
    unfolding lowest_below
    first_lost out some = rw (seen.kept, out, some)

    lost : v < m.states → x v ≡ false → k.at_most (m.band s v).low k.nothing ≡ false → Some (Lost v) ≡ reason_of k m x s
    lost below out some =
        let here : lowest_below (is_lost k m x s) m.states ≡ Some v = lowest_kept (is_lost k m x s) m.states (suc v) v (first_lost out some) (omega arith) in
        rw here

  seen_all : {crossed : Option ℕ} {low high : S} → Seen m.states crossed low high → ended k crossed low high ≡ reason_of k m x s
  seen_all {crossed} {low} {high} seen =
      let lows = test_same_left laws k.full seen.lows in
      let highs = test_same_right laws k.full seen.highs in
      λ i. first_reason (sym seen.kept i) (sym seen.crossing i) (not (lows i)) (not (highs i))

  skip : (count v w : ℕ) {crossed : Option ℕ} {low high : S} → v + count ≡ w → ((u : ℕ) → v ≤ u → u < w → m.band s u ≡ unheld) → Seen v crossed low high → Seen w crossed low high
  skip zero v w {crossed} {low} {high} end none seen = subst (λ (u : ℕ). Seen u crossed low high) (omega arith) seen
  skip (suc count) v w end none seen = skip count (suc v) w (omega arith) (λ u from below. none u (omega arith) below) (skip_one seen (none v (omega arith) (omega arith)))

  -- from state v on, the model is what these bands tell
  record Tell (v : ℕ) (bands : List (Band S)) : Type 0 where
    pub order : Ascending bands
    pub from : AllByRecursion (λ b. pair_of s v ≤ key_of b) bands
    pub targets : AllByRecursion (λ b. b.target < m.states) bands
    pub reads : (u : ℕ) → v ≤ u → u < m.states → m.band s u ≡ band_in k bands s u

  module _ (few : m.states ≤ 65_536) where
    -- the bands have none of s up to its target w
    unheld_below : (v w : ℕ) (bands : List (Band S)) → Tell v bands → w ≤ m.states → AllByRecursion (λ b. pair_of s w ≤ key_of b) bands → (u : ℕ) → v ≤ u → u < w → m.band s u ≡ unheld
    unheld_below v w bands tell within past u from below =
        tell.reads u from (omega arith) ∙ reads_past k s u bands (All-weaker (λ b. pair_of s w ≤ key_of b) (λ b. pair_of s u < key_of b) (λ b h. omega arith) bands past)

    -- no band of s is left
    none_left : (v : ℕ) (bands : List (Band S)) {crossed : Option ℕ} {low high : S} → v ≤ m.states → Tell v bands → AllByRecursion (λ b. pair_of s m.states ≤ key_of b) bands → Seen v crossed low high → ended k crossed low high ≡ reason_of k m x s
    none_left v bands within tell past seen = seen_all (skip (m.states - v) v m.states (omega arith) (unheld_below v m.states bands tell (omega arith) past) seen)

    module _ (v : ℕ) (b : Band S) (bs : List (Band S)) (tell : Tell v (b ∷ bs)) (own : b.source ≡ s) where
      reads_first : m.band s b.target ≡ bounds_of b
      unfolding band_in
      reads_first = tell.reads b.target (omega (arith, own, tell.from.0)) tell.targets.0 ∙ rw (eq-eqb (key_of b) (pair_of s b.target) (omega (arith, own)))

      reads_later : (u : ℕ) → suc b.target ≤ u → u < m.states → m.band s u ≡ band_in k bs s u
      unfolding band_in
      reads_later u past below = tell.reads u (omega (arith, own, tell.from.0)) below ∙ rw (ne_eqb (key_of b) (pair_of s u) (λ same. omega (arith, own)))

      later : Tell (suc b.target) bs
      later = record {
        order = tell.order.1;
        from = All-weaker (λ c. key_of b < key_of c) (λ c. pair_of s (suc b.target) ≤ key_of c) (λ c less. omega (arith, own)) bs tell.order.0;
        targets = tell.targets.1;
        reads = reads_later;
      }

      -- the pass comes to the first band
      reached : {crossed : Option ℕ} {low high : S} → Seen v crossed low high → Seen b.target crossed low high
      reached seen =
          let from : v ≤ b.target = omega (arith, own, tell.from.0) in
          let past : AllByRecursion (λ c. pair_of s b.target ≤ key_of c) (b ∷ bs) = (omega (arith, own), All-weaker (λ c. key_of b < key_of c) (λ c. pair_of s b.target ≤ key_of c) (λ c less. omega (arith, own)) bs tell.order.0) in
          skip (b.target - v) v b.target (omega arith) (unheld_below v b.target (b ∷ bs) tell (omega (arith, tell.targets.0)) past) seen

      own_band : {crossed : Option ℕ} {low high : S} → Seen v crossed low high → ((c : Option ℕ) (l h : S) → Seen (suc b.target) c l h → passed k x s c l h bs ≡ reason_of k m x s) → passed k x s crossed low high (b ∷ bs) ≡ reason_of k m x s
      own_band {crossed} {low} {high} seen rest =
          ⊎_elim
          (λ (is : x b.target ≡ true).
          let next = subst (λ (r : Bounds S). Seen (suc b.target) (option_or crossed (cond (k.at_most r.low r.high) None (Some b.target))) (k.total low r.low) (k.total high r.high)) reads_first (inside (reached seen) is) in
          turns.inside k x s crossed low high b bs own is ∙ rest _ _ _ next)
          (λ (out : x b.target ≡ false).
          ⊎_elim
          (λ (none : k.at_most b.low k.nothing ≡ true).
          turns.outside k x s crossed low high b bs own out none ∙ rest crossed low high (outside (reached seen) out (rw reads_first none)))
          (λ (some : k.at_most b.low k.nothing ≡ false).
          turns.lost k x s crossed low high b bs own out some ∙ lost (reached seen) tell.targets.0 out (rw reads_first some))
          (cases_Bool (k.at_most b.low k.nothing)))
          (cases_Bool (x b.target))

    other_band : (v : ℕ) (b : Band S) (bs : List (Band S)) {crossed : Option ℕ} {low high : S} → v ≤ m.states → Tell v (b ∷ bs) → (b.source ≡ s → ⊥) → Seen v crossed low high → passed k x s crossed low high (b ∷ bs) ≡ reason_of k m x s
    other_band v b bs {crossed} {low} {high} within tell other seen =
        let above : pair_of s m.states ≤ key_of b = omega (arith, tell.from.0, tell.targets.0) in
        let past : AllByRecursion (λ c. pair_of s m.states ≤ key_of c) (b ∷ bs) = (above, All-weaker (λ c. key_of b < key_of c) (λ c. pair_of s m.states ≤ key_of c) (λ c less. omega arith) bs tell.order.0) in
        turns.other_source k x s crossed low high b bs other ∙ none_left v (b ∷ bs) within tell past seen

    passed_from : (bands : List (Band S)) (v : ℕ) {crossed : Option ℕ} {low high : S} → v ≤ m.states → Tell v bands → Seen v crossed low high → passed k x s crossed low high bands ≡ reason_of k m x s
    passed_from [] v {crossed} {low} {high} within tell seen = turns.last k x s crossed low high [] 0 (omega arith) ∙ none_left v [] within tell tt seen
    passed_from (b ∷ bs) v within tell seen =
        ⊎_elim
        (λ (own : b.source ≡ s).
        own_band v b bs tell own seen (λ c l h next. passed_from bs (suc b.target) (omega (arith, tell.targets.0)) (later v b bs tell own) next))
        (λ (other : b.source ≡ s → ⊥). other_band v b bs within tell other seen)
        (cases_eq b.source s)

module _ {S : Type 0} {k : Kind S} (laws : Laws k) (states : ℕ) (few : states ≤ 65_536) (held : List (Band S)) (x : ℕ → Bool) (s : ℕ) where
  -- the pass begins at the place of the source among the held bands
  pub passed_is : (p : ℕ) → Position (pair_of s 0) held p → Ascending held → AllByRecursion (λ b. b.target < states) held → passed k x s None k.nothing k.nothing (drop p held) ≡ reason_of k (model_of k states held) x s
  passed_is p place order targets =
      passed_from laws (model_of k states held) x s few (drop p held) 0 (omega arith) tell (seen_none laws (model_of k states held) x s)
    where
      tell : Tell laws (model_of k states held) x s 0 (drop p held)
      tell = record {
        order = ascending_drop p held order;
        from = all_from_every (λ b. pair_of s 0 ≤ key_of b) (drop p held) (λ i d from less.
            rw (get_or-drop p held i d) (place.above (p + i) d (omega arith) (omega (arith, length-drop p held))));
        targets = All-drop (λ b. b.target < states) p held targets;
        reads = λ u from below. reads_part k s u place;
      }
