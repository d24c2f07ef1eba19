-- The ranks by recursion fit the relation `Ranks`, no others do, and there are no more rounds, nor removed states, than states.
use Rattle.std.proofs.Common.{◌≡◌, ℕ, zero, suc, ◌+◌, ◌<◌, ◌≤◌, Bool, true, false, not, ◌&&◌, ◌||◌, eqb, leb, ◌⊎◌, is_some, None, Option, sym, refl, ap, ◌∙◌, ⊎_elim, arith}
use Rattle.std.proofs.lemmas.Bool.{both_ways, cases_eq}
use Rattle.std.proofs.lemmas.Bool.Decides.{nat_tests}
use Rattle.amounts.specs.Kinds.{Kind, Laws}
use Rattle.theory.specs.Consistency.{reason_of}
use Rattle.theory.specs.Models.{Model, count_below}
use Rattle.theory.specs.Rounds.{everyone, standing, falls_after, not_before, rank_within, rank_of, Ranks, removed_of, rounds_of}
use Rattle.theory.proofs.Consistency.{reason_same, consistent_from_none, none_from_consistent}
use Rattle.theory.proofs.Rounds.{Progress, progress_start, progress_more, progress_bound, rank_at_most, rank_kept, ranks_tell, settled, removed_is, rounds_is}

module _ {S : Type 0} (k : Kind S) (m : Model S) where
  -- the rounds that are done when no state falls any more
  record Finished : Type 0 where
    rounds : ℕ
    removed : ℕ
    progress : Progress k m everyone rounds removed
    quiet : count_below (falls_after k m everyone rounds) m.states ≡ 0

  -- each round before removes a state, so that they come to an end
  finish_from : (left r removed : ℕ) → m.states < r + left → Progress k m everyone r removed → Finished
  finish_from zero r removed past sofar = absurd (omega (arith, (progress_bound k m everyone sofar).0))
  finish_from (suc left) r removed past sofar =
      ⊎_elim
      (λ (quiet : count_below (falls_after k m everyone r) m.states ≡ 0). record { rounds = r; removed = removed; progress = sofar; quiet = quiet })
      (λ (some : count_below (falls_after k m everyone r) m.states ≡ 0 → ⊥). finish_from left (suc r) _ (omega arith) (progress_more k m everyone sofar (omega arith)))
      (cases_eq (count_below (falls_after k m everyone r) m.states) 0)

  finish : Finished
  finish = finish_from (suc m.states) 0 0 (omega arith) (progress_start k m everyone (λ t below. refl))

  pub bounded : (rounds_of k m ≤ removed_of k m) × (removed_of k m ≤ m.states)
  bounded =
      let rounds = rounds_is k m finish.progress finish.quiet in
      let removed = removed_is k m finish.progress finish.quiet in
      (omega (arith, finish.progress.few), omega (arith, (progress_bound k m everyone finish.progress).1))

  pub rank_bounded : (t : ℕ) → rank_of k m t ≤ m.states
  rank_bounded t = rank_at_most k m everyone m.states t

  -- these ranks tell who stands after each number of rounds
  abbrev pub Tells : (ℕ → ℕ) → Type 0
  Tells rank = (r t : ℕ) → t < m.states → not_before rank (suc r) t ≡ standing k m everyone r t

  pub rank_tells : Tells (rank_of k m)
  rank_tells r t below =
      let n : ℕ = m.states + r in
      let last : finish.rounds ≤ n = omega (arith, (progress_bound k m everyone finish.progress).0) in
      let same : rank_of k m t ≡ rank_within k m everyone n t = sym (settled k m everyone finish.progress finish.quiet t below) ∙ sym (rank_kept k m everyone finish.rounds finish.quiet n t last below) in
      rw same (ranks_tell k m everyone n r t (omega arith) refl)

-- a state of rank v stands after round r + 1 if it stood before it and has no reason to fall in it
abbrev Next : ℕ → ℕ → Bool → Type 0
Next v r reason = (eqb v 0 || leb (suc (suc r)) v) ≡ ((eqb v 0 || leb (suc r) v) && not reason)

-- so it has a reason in the round of its rank, and none in an earlier one
next_falls : (v r : ℕ) (reason : Bool) → Next v r reason → v ≡ suc r → reason ≡ true
next_falls v r reason next is = grind (arith, nat_tests)

next_stays : (v r : ℕ) (reason : Bool) → Next v r reason → (v ≡ 0) ⊎ (suc r < v) → reason ≡ false
next_stays v r reason next stays = grind (arith, nat_tests)

next_from : (v r : ℕ) (reason : Bool) → (v ≡ suc r → reason ≡ true) → ((v ≡ 0) ⊎ (suc r < v) → reason ≡ false) → Next v r reason
next_from v r reason falls stays = grind (arith, nat_tests)

no_reason : {X : Type 0} (reason : Option X) → is_some reason ≡ false → reason ≡ None
no_reason reason none = grind (arith, nat_tests)

module _ {S : Type 0} (k : Kind S) (m : Model S) where
  -- by their ranks, t has a reason to fall in round r + 1
  abbrev has_reason : (ℕ → ℕ) → ℕ → ℕ → Bool
  has_reason rank r t = is_some (reason_of k m (not_before rank (suc r)) t)

  -- where the ranks tell who stands after r rounds, the reasons tell who stands after one more
  stands_next : (rank : ℕ → ℕ) (r t : ℕ) → ((u : ℕ) → u < m.states → not_before rank (suc r) u ≡ standing k m everyone r u) → t < m.states → (not_before rank (suc r) t && not (has_reason rank r t)) ≡ standing k m everyone (suc r) t
  unfolding standing
  stands_next rank r t same below i = same t below i && not (is_some (reason_same k m (not_before rank (suc r)) (standing k m everyone r) t same i))

  next_rank : (t r : ℕ) → t < m.states → Next (rank_of k m t) r (has_reason (rank_of k m) r t)
  next_rank t r below = rank_tells k m (suc r) t below ∙ sym (stands_next (rank_of k m) r t (rank_tells k m r) below)

  module _ (laws : Laws k) where
    pub ranks : Ranks k m (rank_of k m)
    ranks = record {
      fell = λ t r below is fits.
          both_ways (has_reason (rank_of k m) r t)
          (ap is_some (none_from_consistent k m (not_before (rank_of k m) (suc r)) t fits))
          (next_falls (rank_of k m t) r (has_reason (rank_of k m) r t) (next_rank t r below) is);
      stood = λ t r below stays.
          consistent_from_none k m (not_before (rank_of k m) (suc r)) t laws
          (no_reason (reason_of k m (not_before (rank_of k m) (suc r)) t)
          (next_stays (rank_of k m t) r (has_reason (rank_of k m) r t) (next_rank t r below) stays));
    }

    module _ (rank : ℕ → ℕ) (given : Ranks k m rank) where
      fell_reason : (t r : ℕ) → t < m.states → rank t ≡ suc r → has_reason rank r t ≡ true
      fell_reason t r below is =
          let fell = given.fell t r below is in
          let fits = consistent_from_none k m (not_before rank (suc r)) t laws in
          let none = no_reason (reason_of k m (not_before rank (suc r)) t) in
          grind (arith, nat_tests)

      stood_reason : (t r : ℕ) → t < m.states → (rank t ≡ 0) ⊎ (suc r < rank t) → has_reason rank r t ≡ false
      stood_reason t r below stays = ap is_some (none_from_consistent k m (not_before rank (suc r)) t (given.stood t r below stays))

      given_tells : Tells k m rank
      unfolding standing
      given_tells zero t below = grind (arith, nat_tests)
      given_tells (suc r) t below = next_from (rank t) r (has_reason rank r t) (fell_reason t r below) (stood_reason t r below) ∙ stands_next rank r t (given_tells r) below

      -- ranks that tell the same after each number of rounds are the same
      pub only : (t : ℕ) → t < m.states → rank t ≡ rank_of k m t
      only t below =
          let at_rank = given_tells (rank t) t below ∙ sym (rank_tells k m (rank t) t below) in
          let at_other = given_tells (rank_of k m t) t below ∙ sym (rank_tells k m (rank_of k m t) t below) in
          grind (arith, nat_tests)
