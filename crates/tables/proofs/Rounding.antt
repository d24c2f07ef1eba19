-- A round, state by state, and all rounds, one by one.
use Rattle.std.proofs.Common.{◌≡◌, ℕ, suc, ◌+◌, ◌<◌, ◌≤◌, Bool, true, false, cond, ◌&&◌, eqb, ◌==◌, ◌⊎◌, List, length, replicate, set, is_some, sym, refl, ◌∙◌, subst, ap₂, inl, inr, ⊎_elim, arith}
use Rattle.std.proofs.lemmas.List.{get_or-replicate, get_or-set_same, get_or-set_other}
use Rattle.std.proofs.lemmas.List.Sums.{sum_by-set}
use Rattle.std.proofs.lemmas.Bool.{and_cases, and_parts, cases_eq, cases_lt, eqb-false, eqb-true, ne_eqb}
use Rattle.amounts.specs.Kinds.{Kind}
use Rattle.theory.proofs.Consistency.{reason_same}
use Rattle.theory.proofs.Rounds.{Progress, not_before_lem, progress_bound, progress_more, progress_start, rank_falls, rank_kept, rank_stays, removed_is, rounds_is, settled}
use Rattle.theory.specs.Consistency.{reason_of}
use Rattle.theory.specs.Models.{Model, count_below}
use Rattle.theory.specs.Rounds.{everyone, standing, falls_after, rank_within, not_before}
use Rattle.tables.specs.Judging.{RanksAfter, Ranked, Round}
use Rattle.tables.specs.Passes.{rank_in, standing_count}
use Rattle.tables.specs.declared.tally.Tally.{Tally}

-- one more rank leaves one state fewer that stands
pub standing_less : (ranks : List ℕ) (t r : ℕ) → t < length ranks → rank_in ranks t ≡ 0 → 0 < r → standing_count (set ranks t r) + 1 ≡ standing_count ranks
standing_less ranks t r below none some =
    let sums = sum_by-set (λ (x : ℕ). cond (x == 0) 1 0) ranks t r 0 below in
    let stood = rw (none, ne_eqb r 0 (λ zero_rank. omega arith)) at sums in
    omega (arith, stood)

-- before the first round all ranks are 0
pub none_yet : {S : Type 0} (k : Kind S) (m : Model S) (ranks : List ℕ) → ranks ≡ replicate m.states 0 → RanksAfter k m 0 ranks
unfolding rank_within
none_yet k m ranks all t below = rw all (get_or-replicate m.states t 0 0 below)

module _ {S : Type 0} (k : Kind S) (m : Model S) (r : ℕ) where
  -- the states below t have the ranks of one round more
  pub record Midway (t : ℕ) (ranks : List ℕ) (fallen : ℕ) : Type 0 where
    pub done : (u : ℕ) → u < t → u < m.states → rank_in ranks u ≡ rank_within k m everyone (suc r) u
    pub left : (u : ℕ) → t ≤ u → u < m.states → rank_in ranks u ≡ rank_within k m everyone r u
    pub counted : fallen ≡ count_below (falls_after k m everyone r) t

  pub midway_none : (ranks : List ℕ) → RanksAfter k m r ranks → Midway 0 ranks 0
  unfolding count_below
  midway_none ranks after = record { done = λ u below. absurd (omega arith); left = λ u from within. after u within; counted = refl }

  pub midway_all : {ranks : List ℕ} {fallen : ℕ} (t : ℕ) → t ≡ m.states → Midway t ranks fallen → Round k m r ranks fallen
  midway_all {ranks} {fallen} t end midway = record {
    ranks = λ u within. midway.done u (omega arith) within;
    counted = subst (λ (n : ℕ). fallen ≡ count_below (falls_after k m everyone r) n) end midway.counted;
  }

  module _ {t : ℕ} {ranks : List ℕ} {fallen : ℕ} (midway : Midway t ranks fallen) (within : t < m.states) where
    -- the round is judged by the states that had not fallen before it
    judged : reason_of k m (not_before (rank_in ranks) (suc r)) t ≡ reason_of k m (standing k m everyone r) t
    judged = reason_same k m (not_before (rank_in ranks) (suc r)) (standing k m everyone r) t (λ u inside. not_before_lem k m everyone r u (rank_in ranks u) refl (whose u inside))
      where
        whose : (u : ℕ) → u < m.states → (rank_in ranks u ≡ rank_within k m everyone r u) ⊎ (rank_in ranks u ≡ rank_within k m everyone (suc r) u)
        whose u inside = ⊎_elim (λ (below : u < t). inr (midway.done u below inside)) (λ (from : t ≤ u). inl (midway.left u from inside)) (cases_lt u t)

    -- the count of one state more
    counted_more : (one : ℕ) → cond (falls_after k m everyone r t) 1 0 ≡ one → fallen + one ≡ count_below (falls_after k m everyone r) (t + 1)
    unfolding count_below
    counted_more one is =
        let next : suc t ≡ t + 1 = omega arith in
        subst (λ (n : ℕ). fallen + one ≡ count_below (falls_after k m everyone r) n) next (ap₂ (λ (a b : ℕ). a + b) midway.counted (sym is))

    falls : rank_in ranks t ≡ 0 → is_some (reason_of k m (not_before (rank_in ranks) (suc r)) t) ≡ true → t < length ranks → Midway (t + 1) (set ranks t (suc r)) (fallen + 1)
    falls none some room =
        let fell = rank_falls k m everyone r t refl (sym (midway.left t (omega arith) within) ∙ none) (rw judged at some) in
        record {
          done = λ u below inside.
              ⊎_elim
              (λ (here : u ≡ t). rw here (get_or-set_same ranks t (suc r) 0 room ∙ sym fell.0))
              (λ (other : u ≡ t → ⊥). get_or-set_other ranks t u (suc r) 0 other ∙ midway.done u (omega arith) inside)
              (cases_eq u t);
          left = λ u from inside. get_or-set_other ranks t u (suc r) 0 (λ same. omega arith) ∙ midway.left u (omega arith) inside;
          counted = counted_more 1 (rw fell.1);
        }

    stays : (is_some (reason_of k m (not_before (rank_in ranks) (suc r)) t) ≡ false) ⊎ (rank_in ranks t ≡ 0 → ⊥) → Midway (t + 1) ranks fallen
    stays why =
        let same = midway.left t (omega arith) within in
        let stood = rank_stays k m everyone r t refl (⊎_elim (λ (none : is_some (reason_of k m (not_before (rank_in ranks) (suc r)) t) ≡ false). inl (rw judged at none)) (λ (fell : rank_in ranks t ≡ 0 → ⊥). inr (λ zero_rank. fell (same ∙ zero_rank))) why) in
        let more : fallen + 0 ≡ count_below (falls_after k m everyone r) (t + 1) = counted_more 0 (rw stood.1) in
        record {
          done = λ u below inside.
              ⊎_elim
              (λ (here : u ≡ t). rw here (same ∙ sym stood.0))
              (λ (other : u ≡ t → ⊥). midway.done u (omega arith) inside)
              (cases_eq u t);
          left = λ u from inside. midway.left u (omega arith) inside;
          counted = omega (arith, more);
        }

    -- what the test of the state tells
    module _ (fell : Bool) (is : fell ≡ (eqb (rank_in ranks t) 0 && is_some (reason_of k m (not_before (rank_in ranks) (suc r)) t))) where
      pub fallen_more : fell ≡ true → t < length ranks → Midway (t + 1) (set ranks t (suc r)) (fallen + 1)
      fallen_more passed room =
          let both = and_parts (eqb (rank_in ranks t) 0) (is_some (reason_of k m (not_before (rank_in ranks) (suc r)) t)) (sym is ∙ passed) in
          falls (eqb-true (rank_in ranks t) 0 both.0) both.1 room

      pub fallen_same : fell ≡ false → Midway (t + 1) ranks fallen
      fallen_same failed =
          ⊎_elim
          (λ (some : eqb (rank_in ranks t) 0 ≡ false). stays (inr (eqb-false (rank_in ranks t) 0 some)))
          (λ (none : is_some (reason_of k m (not_before (rank_in ranks) (suc r)) t) ≡ false). stays (inl none))
          (and_cases (eqb (rank_in ranks t) 0) (is_some (reason_of k m (not_before (rank_in ranks) (suc r)) t)) (sym is ∙ failed))

-- the rounds so far
pub record Sofar {S : Type 0} (k : Kind S) (m : Model S) (r : ℕ) (ranks : List ℕ) (removed : ℕ) : Type 0 where
  pub after : RanksAfter k m r ranks
  pub progress : Progress k m everyone r removed

module _ {S : Type 0} (k : Kind S) (m : Model S) where
  pub sofar_none : {ranks : List ℕ} → RanksAfter k m 0 ranks → Sofar k m 0 ranks 0
  sofar_none after = record { after = after; progress = progress_start k m everyone (λ t inside. refl) }

  pub sofar_more : {r : ℕ} {ranks : List ℕ} {removed : ℕ} (next : List ℕ) (fallen : ℕ) → Sofar k m r ranks removed → Round k m r next fallen → (fallen ≡ 0 → ⊥) → Sofar k m (r + 1) next (removed + fallen)
  sofar_more {r} {ranks} {removed} next fallen sofar round some =
      let one : suc r ≡ r + 1 = omega arith in
      let more = progress_more k m everyone sofar.progress (omega (arith, round.counted)) in
      record {
        after = subst (λ (n : ℕ). RanksAfter k m n next) one round.ranks;
        progress = subst (λ (n : ℕ). Progress k m everyone n (removed + fallen)) one (subst (λ (n : ℕ). Progress k m everyone (suc r) (removed + n)) (sym round.counted) more);
      }

  -- a round in which none falls is not counted
  pub sofar_all : {r : ℕ} {ranks : List ℕ} {removed : ℕ} → Sofar k m r ranks removed → count_below (falls_after k m everyone r) m.states ≡ 0 → (after : List ℕ) → ((t : ℕ) → t < m.states → rank_in after t ≡ rank_within k m everyone r t) → (tally : Tally) → tally.removed ≡ removed → tally.rounds ≡ r → Ranked k m after tally
  sofar_all sofar quiet after same tally removed rounds = record {
    ranks = λ t inside. same t inside ∙ settled k m everyone sofar.progress quiet t inside;
    removed = removed ∙ sym (removed_is k m sofar.progress quiet);
    rounds = rounds ∙ sym (rounds_is k m sofar.progress quiet);
  }

  -- where there have been as many rounds as states, no state is left to fall
  spent : {r removed : ℕ} → Progress k m everyone r removed → r ≡ m.states → count_below (falls_after k m everyone r) m.states ≡ 0
  spent {r} progress end =
      ⊎_elim
      (λ (some : 0 < count_below (falls_after k m everyone r) m.states). absurd (omega (arith, (progress_bound k m everyone (progress_more k m everyone progress some)).0)))
      (λ (none : count_below (falls_after k m everyone r) m.states ≤ 0). omega arith)
      (cases_lt 0 (count_below (falls_after k m everyone r) m.states))

  pub sofar_spent : {r : ℕ} {ranks : List ℕ} {removed : ℕ} → Sofar k m r ranks removed → r ≡ m.states → (tally : Tally) → tally.removed ≡ removed → tally.rounds ≡ m.states → Ranked k m ranks tally
  sofar_spent {r} {ranks} {removed} sofar end tally all_removed all_rounds =
      sofar_all sofar (spent sofar.progress end) ranks sofar.after tally all_removed (all_rounds ∙ sym end)

  -- nor does it change a rank
  pub quiet_round : {r : ℕ} {next : List ℕ} {fallen : ℕ} → Round k m r next fallen → fallen ≡ 0 → (t : ℕ) → t < m.states → rank_in next t ≡ rank_within k m everyone r t
  quiet_round {r} round none t inside = round.ranks t inside ∙ rank_kept k m everyone r (sym round.counted ∙ none) (suc r) t (omega arith) inside
