-- Round by round: what the ranks so far say, when the rounds come to an end, and how many there can be.
use Rattle.std.proofs.Common.{◌≡◌, ℕ, zero, suc, ◌+◌, ◌<◌, ◌≤◌, Bool, true, false, cond, not, ◌&&◌, ◌||◌, eqb, leb, ◌⊎◌, is_some, sym, refl, ap, ◌∙◌, inl, inr, arith}
use Rattle.std.proofs.lemmas.Bool.{and_parts, cond-false, cond-true}
use Rattle.std.proofs.lemmas.Bool.Decides.{nat_tests}
use Rattle.amounts.specs.Kinds.{Kind}
use Rattle.theory.specs.Consistency.{Consistent, reason_of}
use Rattle.theory.specs.Models.{Model, count_below}
use Rattle.theory.specs.Rounds.{everyone, standing, falls_after, not_before, rank_within, rank_from, rank_of, removed_of, rounds_of}
use Rattle.theory.proofs.Below.{count_at_most, count_none, count_parts, count_same, count_some, count_zero, highest_is}
use Rattle.theory.proofs.Consistency.{reason_same, none_from_consistent}

module _ {S : Type 0} (k : Kind S) (m : Model S) (first : ℕ → Bool) where
  -- who stands after a round stood before it
  pub stood_before : (r t : ℕ) → standing k m first (suc r) t ≡ true → standing k m first r t ≡ true
  unfolding standing
  stood_before r t stands = (and_parts (standing k m first r t) (not (is_some (reason_of k m (standing k m first r) t))) stands).0

  -- who is consistent with those that stand stands one round more
  pub next_stands : (r t : ℕ) → standing k m first r t ≡ true → Consistent k m (standing k m first r) t → standing k m first (suc r) t ≡ true
  unfolding standing
  next_stands r t stood fits = let none = none_from_consistent k m (standing k m first r) t fits in grind (arith, nat_tests)

  pub rank_at_most : (r t : ℕ) → rank_within k m first r t ≤ r
  unfolding rank_within
  rank_at_most zero t = omega arith
  rank_at_most (suc r) t = let before = rank_at_most r t in grind (arith, nat_tests)

  stood_since : (n r t : ℕ) → r ≤ n → standing k m first n t ≡ true → standing k m first r t ≡ true
  stood_since zero r t upto stands = let is : r ≡ zero = omega arith in rw is stands
  stood_since (suc n) r t upto stands = let before = stood_since n r t in let stood = stood_before n t stands in grind (arith, nat_tests)

  -- the states of rank 0 stand
  pub rank_zero : (r t : ℕ) → first t ≡ true → eqb (rank_within k m first r t) 0 ≡ standing k m first r t
  unfolding rank_within standing
  rank_zero zero t stood = sym stood
  rank_zero (suc r) t stood = let earlier = stood_before r t in let before = rank_zero r t stood in grind (arith, nat_tests)

  falls_ranked : (r t : ℕ) → falls_after k m first r t ≡ true → rank_within k m first (suc r) t ≡ suc r
  unfolding rank_within
  falls_ranked r t falls = cond-true (falls_after k m first r t) (suc r) (rank_within k m first r t) falls

  stays_ranked : (r t : ℕ) → falls_after k m first r t ≡ false → rank_within k m first (suc r) t ≡ rank_within k m first r t
  unfolding rank_within
  stays_ranked r t stays = cond-false (falls_after k m first r t) (suc r) (rank_within k m first r t) stays

  -- the ranks tell who stands: those of rank 0, since none is above the number of rounds
  tells_now : (r t : ℕ) → first t ≡ true → not_before (rank_within k m first r) (suc r) t ≡ standing k m first r t
  tells_now r t stood = let most = rank_at_most r t in let zero_is = rank_zero r t stood in grind (arith, nat_tests)

  -- after n rounds the ranks still tell who stood after each earlier number of rounds
  pub ranks_tell : (n r t : ℕ) → r ≤ n → first t ≡ true → not_before (rank_within k m first n) (suc r) t ≡ standing k m first r t
  ranks_tell zero r t upto stood = let is : r ≡ zero = omega arith in rw is (tells_now zero t stood)
  ranks_tell (suc n) r t upto stood =
      let now = tells_now (suc n) t stood in
      let before = ranks_tell n r t in
      let stands = stood_since n r t in
      let falls = falls_ranked n t in
      let stays = stays_ranked n t in
      grind (arith, nat_tests)

  -- a rank written in round r + 1 itself still counts as not fallen before it
  pub not_before_lem : (r u v : ℕ) → first u ≡ true → (v ≡ rank_within k m first r u) ⊎ (v ≡ rank_within k m first (suc r) u) → (eqb v 0 || leb (suc r) v) ≡ standing k m first r u
  not_before_lem r u v stood (inl is) = rw is (ranks_tell r r u (omega arith) stood)
  not_before_lem r u v stood (inr is) = rw is (ranks_tell (suc r) r u (omega arith) stood)

  module _ (r t : ℕ) (stood : first t ≡ true) where
    pub rank_falls : rank_within k m first r t ≡ 0 → is_some (reason_of k m (standing k m first r) t) ≡ true → (rank_within k m first (suc r) t ≡ suc r) × (falls_after k m first r t ≡ true)
    unfolding standing
    rank_falls none why =
        let stands = rank_zero r t stood in
        let ranked = falls_ranked r t in
        grind (arith, nat_tests)

    pub rank_stays : (is_some (reason_of k m (standing k m first r) t) ≡ false) ⊎ (rank_within k m first r t ≡ 0 → ⊥) → (rank_within k m first (suc r) t ≡ rank_within k m first r t) × (falls_after k m first r t ≡ false)
    unfolding standing
    rank_stays why =
        let stands = rank_zero r t stood in
        let ranked = stays_ranked r t in
        grind (arith, nat_tests)

  -- r rounds are done, in each of which a state fell, and `removed` states have fallen
  pub record Progress (r removed : ℕ) : Type 0 where
    pub counted : removed ≡ count_below (λ t. not (standing k m first r t)) m.states
    pub few : r ≤ removed
    pub last : (r ≡ 0) ⊎ ((t : ℕ) × (t < m.states) × (rank_within k m first r t ≡ r))

  pub progress_start : ((t : ℕ) → t < m.states → first t ≡ true) → Progress 0 0
  unfolding standing
  progress_start all = record {
    counted = sym (count_none (λ t. not (first t)) m.states (λ t below. ap not (all t below)));
    few = omega arith;
    last = inl refl;
  }

  -- a state that does not stand after a round had fallen before it, or falls in it
  falls_once : (r t : ℕ) → cond (not (standing k m first (suc r) t)) 1 0 ≡ cond (not (standing k m first r t)) 1 0 + cond (falls_after k m first r t) 1 0
  falls_once r t = let earlier = stood_before r t in grind (arith, nat_tests)

  pub progress_more : {r removed : ℕ} → Progress r removed → 0 < count_below (falls_after k m first r) m.states → Progress (suc r) (removed + count_below (falls_after k m first r) m.states)
  progress_more {r} {removed} before some =
      let parts = count_parts (λ t. not (standing k m first (suc r) t)) (λ t. not (standing k m first r t)) (falls_after k m first r) m.states (λ t below. falls_once r t) in
      let one = count_some (falls_after k m first r) m.states some in
      record {
        counted = omega (arith, before.counted, parts);
        few = omega (arith, before.few);
        last = inr (one.0, one.1, falls_ranked r one.0 one.2);
      }

  pub progress_bound : {r removed : ℕ} → Progress r removed → (r ≤ m.states) × (removed ≤ m.states)
  progress_bound {r} {removed} sofar =
      let most = count_at_most (λ t. not (standing k m first r t)) m.states in
      (omega (arith, sofar.few, sofar.counted, most), omega (arith, sofar.counted, most))

  -- those that stand decide who stands after one round more
  same_next : (n r : ℕ) → ((u : ℕ) → u < m.states → standing k m first n u ≡ standing k m first r u) → (t : ℕ) → t < m.states → standing k m first (suc n) t ≡ standing k m first (suc r) t
  unfolding standing
  same_next n r same t below i = same t below i && not (is_some (reason_same k m (standing k m first n) (standing k m first r) t same i))

  -- no state falls after r rounds
  module _ (r : ℕ) (quiet : count_below (falls_after k m first r) m.states ≡ 0) where
    stands_on : (t : ℕ) → t < m.states → standing k m first (suc r) t ≡ standing k m first r t
    stands_on t below = let earlier = stood_before r t in let stays = count_zero (falls_after k m first r) m.states quiet t below in grind (arith, nat_tests)

    -- so none falls later
    standing_kept : (n : ℕ) → r ≤ n → (t : ℕ) → t < m.states → standing k m first n t ≡ standing k m first r t
    standing_kept zero upto t below = let is : zero ≡ r = omega arith in ap (λ (n : ℕ). standing k m first n t) is
    standing_kept (suc n) upto t below =
        let before = standing_kept n in
        let next = λ (same : (u : ℕ) → u < m.states → standing k m first n u ≡ standing k m first r u). same_next n r same t below in
        let stays = stands_on t below in
        grind (arith, nat_tests)

    pub rank_kept : (n t : ℕ) → r ≤ n → t < m.states → rank_within k m first n t ≡ rank_within k m first r t
    rank_kept zero t upto below = let is : zero ≡ r = omega arith in ap (λ (n : ℕ). rank_within k m first n t) is
    rank_kept (suc n) t upto below =
        let now = standing_kept n in
        let next = standing_kept (suc n) upto t below in
        let stays = stays_ranked n t in
        let before = rank_kept n t in
        grind (arith, nat_tests)

  -- after the last round the ranks are the final ones
  pub settled : {r removed : ℕ} → Progress r removed → count_below (falls_after k m first r) m.states ≡ 0 → (t : ℕ) → t < m.states → rank_within k m first r t ≡ rank_from k m first t
  settled {r} sofar quiet t below = sym (rank_kept r quiet m.states t (progress_bound sofar).0 below)

-- after the last round the counts are the final ones too
module _ {S : Type 0} (k : Kind S) (m : Model S) {r removed : ℕ} (sofar : Progress k m everyone r removed) (quiet : count_below (falls_after k m everyone r) m.states ≡ 0) where
  pub removed_is : removed_of k m ≡ removed
  removed_is =
      let same : (t : ℕ) → t < m.states → not (eqb (rank_of k m t) 0) ≡ not (standing k m everyone r t) = λ t below. ap (λ (rank : ℕ). not (eqb rank 0)) (sym (settled k m everyone sofar quiet t below)) ∙ ap not (rank_zero k m everyone r t refl) in
      count_same (λ t. not (eqb (rank_of k m t) 0)) (λ t. not (standing k m everyone r t)) m.states same ∙ sym sofar.counted

  pub rounds_is : rounds_of k m ≡ r
  rounds_is = highest_is (rank_of k m) m.states r (λ t below. rw (← settled k m everyone sofar quiet t below) (rank_at_most k m everyone r t)) (last sofar.last)
    where
      last : (r ≡ 0) ⊎ ((t : ℕ) × (t < m.states) × (rank_within k m everyone r t ≡ r)) → (r ≡ 0) ⊎ ((t : ℕ) × (t < m.states) × (rank_of k m t ≡ r))
      last (inl none) = inl none
      last (inr (t, below, is)) = inr (t, below, sym (settled k m everyone sofar quiet t below) ∙ is)
