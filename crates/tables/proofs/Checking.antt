-- What a check leaves: the ranks of all rounds in the rank places, and a verdict on them.
use Rattle.std.proofs.Common.{◌≡◌, ℕ, ◌<◌, min, true, leb, length, None, Ok, sym, ap, ◌∙◌, subst, arith}
use Rattle.std.proofs.lemmas.Bool.{leb-false, ne_eqb}
use Rattle.amounts.specs.Kinds.{Kind, Laws}
use Rattle.theory.proofs.Plans.{rank_tells_plans}
use Rattle.theory.proofs.Ranks as theory
use Rattle.theory.proofs.Usable.{rank_tells_chains}
use Rattle.tables.specs.Calls.{left_of, Sound, Checked}
use Rattle.tables.specs.Judging.{Ranked}
use Rattle.tables.specs.Left.{Left, Proper, judged, no_states, no_such_state, no_question, model_in, rank_left, as_rank}
use Rattle.tables.specs.Passes.{rank_in}
use Rattle.tables.specs.Places.{bands_of}
use Rattle.tables.specs.declared.tally.Tally.{Tally}
use Rattle.tables.specs.declared.table.Table.{Table}
use Rattle.tables.specs.declared.verdict.Verdict.{Verdict}
use Rattle.tables.proofs.Refusing.{both_none, not_refused, not_refused_else}

module _ {S : Type 0} {k : Kind S} (laws : Laws k) (t : Table S) (sound : Sound k t) where
  module _ (some : 0 < t.states) (after : Table S) (held : bands_of after ≡ bands_of t) (band_places : length after.bands.now ≡ length t.bands.now) (places : length after.ranks.now ≡ length t.ranks.now) (same_states : after.states ≡ t.states) (same_start : after.start ≡ t.start) (checked : after.checked ≡ true) (tally : Tally) (ranked : Ranked k (model_in k (left_of t)) after.ranks.now tally) where
    left_after : left_of after ≡ judged (left_of t)
    left_after = λ i. record { places = min (band_places i) 4_096; ranks = places i; states = same_states i; start = same_start i; held = held i; verdict = checked i }

    proper_after : Proper k (judged (left_of t))
    proper_after = record {
      orderly = sound.proper.orderly;
      room = sound.proper.room;
      starts = sound.proper.starts;
      fits = sound.proper.fits;
      lows = sound.proper.lows;
      highs = sound.proper.highs;
      some = sound.proper.some;
      of_states = λ _. some;
    }

    pub all_checked : (v : Verdict) → v.states ≡ t.states → v.removed ≡ tally.removed → v.rounds ≡ tally.rounds → v.start ≡ as_rank (rank_in after.ranks.now t.start) → Checked k t after (Ok v)
    all_checked v states removed rounds start = record {
      answer = (
        some,
        record {
          states = states;
          removed = removed ∙ ranked.removed;
          rounds = rounds ∙ ranked.rounds;
          start = start ∙ ap as_rank (ranked.ranks t.start (sound.proper.starts some));
        },
      );
      left = rw (ne_eqb t.states 0 (λ none. omega arith)) left_after;
      ranks = theory.ranks k (model_in k (left_of t)) laws;
      only = λ rank given u below. theory.only k (model_in k (left_of t)) laws rank given u below;
      plans = λ u below. rank_tells_plans laws (model_in k (left_of t)) u below;
      chains = λ u below. rank_tells_chains laws (model_in k (left_of t)) u below;
      refused = λ none. absurd (omega arith);
      sound = record {
        proper = subst (Proper k) (sym left_after) proper_after;
        ranked = λ _ u below.
            let inside : u < t.states = omega (arith, same_states) in
            subst (λ (l : Left S). rank_in after.ranks.now u ≡ rank_left k l u) (sym left_after) (ranked.ranks u inside);
      };
    }

module _ {S : Type 0} (t : Table S) (u : ℕ) (no_refusal : no_question t.states u t.checked ≡ None) where
  -- a question that is not refused is about a state, and a verdict is in force
  pub in_states : u < t.states
  in_states =
      let after_states = both_none (no_states t.states) _ no_refusal in
      let after_state = both_none (no_such_state t.states 0 u) _ after_states.1 in
      leb-false t.states u (not_refused (leb t.states u) _ after_state.0)

  pub in_force : t.checked ≡ true
  in_force =
      let after_states = both_none (no_states t.states) _ no_refusal in
      let after_state = both_none (no_such_state t.states 0 u) _ after_states.1 in
      not_refused_else t.checked _ after_state.1
