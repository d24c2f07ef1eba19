-- What a set leaves: a sound table, read as its user expects, or the table as it was.
use Rattle.std.proofs.Common.{◌≡◌, ℕ, ◌+◌, ◌-◌, ◌<◌, ◌≤◌, min, Bool, true, false, cond, not, ◌&&◌, leb, List, length, is_some, Some, None, Ok, Err, Result, sym, refl, ap, ◌∙◌, subst, ⊎_elim, arith}
use Rattle.std.proofs.lemmas.Bool.{cases_Bool, leb-false, false≢true, true≢false}
use Rattle.amounts.specs.Kinds.{Kind, AtMost}
use Rattle.refusals.specs.declared.Bound.TheVariants.{Low, High}
use Rattle.refusals.specs.declared.Refusal.{Refusal}
use Rattle.refusals.specs.declared.Refusal.TheVariants.{NoFreePlace}
use Rattle.tables.specs.Calls.{left_of, Sound, count_after, Reads, BandSet}
use Rattle.tables.specs.Held.{key_of, bounds_of, is_held, both_nothing, with_band, lacks_place}
use Rattle.tables.specs.Left.{Left, Proper, answered, no_states, no_such_state, no_amount, no_band, set_refusal, banded}
use Rattle.tables.specs.Places.{Placed, bands_of}
use Rattle.tables.specs.declared.band.Band.{Band}
use Rattle.tables.specs.declared.table.Table.{Table}
use Rattle.tables.proofs.Lookups.{pairs_same, reads_own, reads_other}
use Rattle.tables.proofs.Refusing.{answered_ok, answered_err, both_none, not_refused, not_refused_else}
use Rattle.tables.proofs.Orders.{with_ascending, all_with, length_with_new, length_with_held, length_cleared_held, cleared_absent}

-- arguments that are not refused make a band of the table
record Makes {S : Type 0} (k : Kind S) (states : ℕ) (b : Band S) : Type 0 where
  pub source : b.source < states
  pub target : b.target < states
  pub low : AtMost k b.low k.full
  pub high : AtMost k b.high k.full

makes : {S : Type 0} (k : Kind S) (states : ℕ) (b : Band S) → no_band k states b ≡ None → Makes k states b
makes k states b none =
    let after_states = both_none (no_states states) _ none in
    let after_source = both_none (no_such_state states 0 b.source) _ after_states.1 in
    let after_target = both_none (no_such_state states 1 b.target) _ after_source.1 in
    let bounds = both_none (no_amount k Low b.low) (no_amount k High b.high) after_target.1 in
    record {
      source = leb-false states b.source (not_refused (leb states b.source) _ after_source.0);
      target = leb-false states b.target (not_refused (leb states b.target) _ after_target.0);
      low = record { holds = not_refused_else (k.at_most b.low k.full) _ bounds.0 };
      high = record { holds = not_refused_else (k.at_most b.high k.full) _ bounds.1 };
    }

module _ {S : Type 0} (k : Kind S) (l : Left S) (b : Band S) (proper : Proper k l) (made : Makes k l.states b) (room : lacks_place k b l.places l.held ≡ false) where
  abbrev held : List (Band S)
  held = l.held

  -- as many bands as are counted
  count : length (with_band k b held) ≡ count_after k held b
  count =
      ⊎_elim
      (λ (known : is_held held (key_of b) ≡ true).
      ⊎_elim
      (λ (nothing : both_nothing k (bounds_of b) ≡ true).
      let less : length (with_band k b held) ≡ length held - 1 = omega (arith, length_cleared_held k b held known nothing proper.orderly.order) in
      less ∙ rw (known, nothing))
      (λ (some : both_nothing k (bounds_of b) ≡ false). length_with_held k b held known some proper.orderly.order ∙ rw (known, some))
      (cases_Bool (both_nothing k (bounds_of b))))
      (λ (unknown : is_held held (key_of b) ≡ false).
      ⊎_elim
      (λ (nothing : both_nothing k (bounds_of b) ≡ true). ap length (cleared_absent k b held unknown nothing proper.orderly.order) ∙ rw (unknown, nothing))
      (λ (some : both_nothing k (bounds_of b) ≡ false). length_with_new k b held unknown some proper.orderly.order ∙ rw (unknown, some))
      (cases_Bool (both_nothing k (bounds_of b))))
      (cases_Bool (is_held held (key_of b)))

  -- and no more than there are places
  fits : length (with_band k b held) ≤ l.places
  fits = subst (λ (n : ℕ). n ≤ l.places) (sym count) (by (is_held held (key_of b)) (both_nothing k (bounds_of b)) (leb l.places (length held)) refl room)
    where
      by : (known nothing full : Bool) → leb l.places (length held) ≡ full → (not known && (not nothing && full)) ≡ false → cond known (cond nothing (length held - 1) (length held)) (cond nothing (length held) (length held + 1)) ≤ l.places
      by true true full is free = omega (arith, proper.fits)
      by true false full is free = proper.fits
      by false true full is free = proper.fits
      by false false full is free = omega (arith, leb-false l.places (length held) (is ∙ free))

  reads : Reads k held (with_band k b held) b
  reads = record {
    own = reads_own k b held;
    others = λ s t small apart. reads_other k b held s t (λ same. apart (pairs_same s t b.source b.target small (omega (arith, made.target, proper.orderly.few)) same));
    count = count;
  }

  proper_after : Proper k (banded k l b)
  proper_after = record {
    orderly = record {
      few = proper.orderly.few;
      order = with_ascending k b held proper.orderly.order;
      sources = all_with k b held (λ c. c.source < l.states) proper.orderly.sources (λ _. made.source);
      targets = all_with k b held (λ c. c.target < l.states) proper.orderly.targets (λ _. made.target);
    };
    room = proper.room;
    starts = proper.starts;
    fits = fits;
    lows = all_with k b held (λ c. AtMost k c.low k.full) proper.lows (λ _. made.low);
    highs = all_with k b held (λ c. AtMost k c.high k.full) proper.highs (λ _. made.high);
    some = all_with k b held (λ c. both_nothing k (bounds_of c) ≡ false) proper.some (λ some. some);
    of_states = λ is. absurd (false≢true is);
  }

module _ {S : Type 0} (k : Kind S) (t : Table S) (b : Band S) (sound : Sound k t) where
  refuses : (f : Refusal) → set_refusal k (left_of t) b ≡ Some f → BandSet k t t b (Err f)
  refuses f first = record {
    answer = rw first;
    left = rw first;
    reads = λ none. absurd (true≢false (ap is_some (sym first ∙ none)));
    refused = λ _. refl;
    sound = sound;
  }

  -- the arguments are refused
  pub not_made : (f : Refusal) → Err f ≡ answered (no_band k t.states b) b → BandSet k t t b (Err f)
  not_made f is =
      let refusal : no_band k t.states b ≡ Some f = answered_err _ b f is in
      let first : set_refusal k (left_of t) b ≡ Some f = rw refusal in
      refuses f first

  module _ (band : Band S) (is : Ok band ≡ answered (no_band k t.states b) b) where
    accepted : no_band k t.states b ≡ None
    accepted = (answered_ok _ b band is).0

    abbrev lacks : Bool
    lacks = lacks_place k b (min (length t.bands.now) 4_096) (bands_of t)

    module _ (new : Table S) (r : Result (Unit {0}) Refusal) (placed : Placed k band t new r) where
      own : Placed k b t new r
      own = subst (λ (c : Band S). Placed k c t new r) (answered_ok _ b band is).1 placed

    -- no place is free
    pub not_placed : (new : Table S) (f : Refusal) → Placed k band t new (Err f) → BandSet k t new b (Err f)
    not_placed new f placed = ⊎_elim full free (cases_Bool lacks)
      where
        full : lacks ≡ true → BandSet k t new b (Err f)
        full lacking =
            let is_full : ◌≡◌ {A = Result (Unit {0}) Refusal} (Err f) (Err NoFreePlace) = rw lacking at (own new (Err f) placed).answer in
            let same : f ≡ NoFreePlace = cc in
            rw ((own new (Err f) placed).refused lacking) (refuses f (rw (accepted, lacking, same)))

        free : lacks ≡ false → BandSet k t new b (Err f)
        free some =
            let not_full : ◌≡◌ {A = Result (Unit {0}) Refusal} (Err f) (Ok tt) = rw some at (own new (Err f) placed).answer in
            let z : ◌≡◌ {A = ℕ} 0 1 = cc in
            absurd (omega arith)

    module _ (new : Table S) (placed : Placed k band t new (Ok tt)) where
      room : lacks ≡ false
      room = ⊎_elim
          (λ (lacking : lacks ≡ true).
          let is_full : ◌≡◌ {A = Result (Unit {0}) Refusal} (Ok tt) (Err NoFreePlace) = rw lacking at (own new (Ok tt) placed).answer in
          let z : ◌≡◌ {A = ℕ} 0 1 = cc in
          absurd (omega arith))
          (λ (free : lacks ≡ false). free)
          (cases_Bool lacks)

      -- the band is in its place, and nothing else has changed but that a verdict lapsed
      module _ (after : Table S) (held : bands_of after ≡ bands_of new) (places : length after.bands.now ≡ length t.bands.now) (ranks : after.ranks.now ≡ t.ranks.now) (states : after.states ≡ t.states) (start : after.start ≡ t.start) (checked : after.checked ≡ false) where
        left_after : left_of after ≡ banded k (left_of t) b
        left_after =
            let all : bands_of after ≡ with_band k b (bands_of t) = held ∙ (own new (Ok tt) placed).puts room in
            λ i. record { places = min (places i) 4_096; ranks = length (ranks i); states = states i; start = start i; held = all i; verdict = checked i }

        pub placed_in : BandSet k t after b (Ok tt)
        placed_in =
            let none : set_refusal k (left_of t) b ≡ None = rw (accepted, room) in
            let made = makes k t.states b accepted in
            record {
              answer = rw none;
              left = rw none left_after;
              reads = λ _. subst (λ (l : Left S). Reads k (left_of t).held l.held b) (sym left_after) (reads k (left_of t) b sound.proper made room);
              refused = λ some. absurd (true≢false (sym some ∙ ap is_some none));
              sound = record {
                proper = subst (Proper k) (sym left_after) (proper_after k (left_of t) b sound.proper made room);
                ranked = λ is. absurd (false≢true (sym checked ∙ is));
              };
            }
