-- A load so far: one record more, and the ways it ends.
use Rattle.std.proofs.Common.{◌≡◌, ℕ, ◌+◌, ◌-◌, ◌^◌, ◌<◌, eqb, List, [], ◌∷◌, ◌++◌, length, Some, None, Ok, Err, Option, Result, sym, refl, ap, ◌∙◌, ap₂, arith}
use Rattle.std.specs.Prelude.{IsErrAnd, MatchResult}
use Rattle.std.proofs.lemmas.List.{length_push}
use Rattle.std.proofs.lemmas.Bool.{cond_both, ne_eqb}
use Rattle.amounts.specs.Kinds.{Kind}
use Rattle.records.proofs.Seen.{Seen, at_cursor, index, seen_all, seen_more, seen_none}
use Rattle.records.specs.Contents.{Contents, contents, contents_from}
use Rattle.records.specs.Counts.{none_yet, with_one}
use Rattle.records.specs.Encoding.{Says}
use Rattle.records.specs.Format.{Entry, band, name, record_at}
use Rattle.records.specs.declared.counts.Counts.{Counts}
use Rattle.records.specs.declared.fault.RecordFault.{RecordFault}
use Rattle.records.specs.declared.reader.Reader.{Reader}
use Rattle.refusals.specs.declared.Refusal.{Refusal}
use Rattle.tables.specs.Calls.{left_of, Lent, Sound}
use Rattle.tables.specs.Left.{Left}
use Rattle.tables.specs.Loading.{Accepts, Loaded, Loads, and_one, end_answer, entry_left, entry_refusal, load_answer, loaded, load_of}
use Rattle.tables.specs.declared.load.LoadFault.{LoadFault}
use Rattle.tables.specs.declared.load.LoadFault.TheVariants.{Records, Table as OfTable}
use Rattle.tables.specs.declared.load.Numbered.{Numbered}
use Rattle.tables.specs.declared.table.Table.{Table}
use Rattle.tables.proofs.Refusing.{answered_ok, answered_err}

-- what a result tells whose fault was given the index of its record
module _ {T F : Type 0} (P : F → Numbered F → Type 0) where
  pub read_ok : (r : Result T F) (s : Result T (Numbered F)) (x : T) → MatchResult r (λ y. s ≡ Ok y) (λ f. IsErrAnd s (P f)) → s ≡ Ok x → r ≡ Ok x
  read_ok r s x cases is = grind arith

  pub read_err : (at : ℕ) (r : Result T F) (s : Result T (Numbered F)) (n : Numbered F) → MatchResult r (λ y. s ≡ Ok y) (λ f. IsErrAnd s (P f)) → ((f : F) (m : Numbered F) → P f m → m ≡ record { index = at; fault = f }) → s ≡ Err n → (r ≡ Err n.fault) × (n.index ≡ at)
  read_err at (Ok y) s n cases gives is = let same : ◌≡◌ {A = Result T (Numbered F)} (Ok y) (Err n) = sym cases ∙ is in let z : ◌≡◌ {A = ℕ} 0 1 = cc in absurd (omega arith)
  read_err at (Err f) (Ok y) n cases gives is = absurd cases
  read_err at (Err f) (Err m) n cases gives is =
      let same : m ≡ n = cc in
      let given : n ≡ record { index = at; fault = f } = sym same ∙ gives f m cases in
      (ap (λ (o : Numbered F). Err o.fault) (sym given), ap (λ (o : Numbered F). o.index) given)

-- so many more were accepted before
abbrev later : {S : Type 0} → ℕ → Loaded S → Loaded S
later n load = record { left = load.left; accepted = n + load.accepted; refusal = load.refusal }

-- the records before `at` are accepted, and what is left of the load gives what the whole gives
pub record Accepted {S : Type 0} (k : Kind S) (amount_of : ℕ → Option S) (before now : Table S) (bytes : List ℕ) (at n : ℕ) : Type 0 where
  pub sound : Sound k now
  pub rest : load_of k amount_of (left_of before) bytes ≡ later n (loaded k amount_of (left_of now) (contents_from bytes at).entries)

pub record Loading {S : Type 0} (k : Kind S) (amount_of : ℕ → Option S) (before now : Table S) (bytes : List ℕ) (reader : Reader) (counts : Counts) : Type 0 where
  pub seen : List Entry
  pub read : Seen bytes reader counts seen
  pub lent : Lent before now
  pub accepted : Sound k before → Accepted k amount_of before now bytes reader.cursor (length seen)

module _ {S : Type 0} (k : Kind S) (amount_of : ℕ → Option S) (before : Table S) (bytes : List ℕ) where
  pub loading_none : (reader : Reader) (counts : Counts) → length bytes < 2 ^ 64 - 1 → reader.bytes.now ≡ bytes → reader.cursor ≡ 0 → counts ≡ none_yet → Loading k amount_of before before bytes reader counts
  loading_none reader counts short input start none = record {
    seen = [];
    read = seen_none bytes reader counts short input start none;
    lent = record { bands = refl; ranks = refl };
    accepted = λ sound. record { sound = sound; rest = whole (sym start) };
  }
    where
      whole : {at : ℕ} → 0 ≡ at → load_of k amount_of (left_of before) bytes ≡ later 0 (loaded k amount_of (left_of before) (contents_from bytes at).entries)
      whole from =
          let load : Loaded S = load_of k amount_of (left_of before) bytes in
          let none_more : load.accepted ≡ 0 + load.accepted = omega arith in
          (λ i. record { left = load.left; accepted = none_more i; refusal = load.refusal })
          ∙ ap (λ (at : ℕ). later 0 (loaded k amount_of (left_of before) (contents_from bytes at).entries)) from

  module _ {now : Table S} {reader : Reader} {counts : Counts} (loading : Loading k amount_of before now bytes reader counts) where
    -- once the whole load is known
    closes : 0 < before.states → (r : Result Counts LoadFault) (after : Table S) (load : Loaded S) → Sound k after → load_of k amount_of (left_of before) bytes ≡ load → r ≡ load_answer (contents bytes) load.accepted load.refusal → left_of after ≡ load.left → Loads k amount_of before after bytes r
    closes some r after load sound whole answer left = record {
      answer = rw (ne_eqb before.states 0 (λ none. omega arith)) (answer ∙ ap (λ (x : Loaded S). load_answer (contents bytes) x.accepted x.refusal) (sym whole));
      left = rw (ne_eqb before.states 0 (λ none. omega arith)) (left ∙ ap (λ (x : Loaded S). x.left) (sym whole));
      refused = λ none. absurd (omega arith);
      sound = sound;
    }

    -- no record stands at the cursor
    closed : (ending : Option RecordFault) → contents_from bytes reader.cursor ≡ record { entries = []; ending = ending } → (r : Result Counts LoadFault) → r ≡ end_answer loading.seen ending → Sound k before → 0 < before.states → Loads k amount_of before now bytes r
    unfolding loaded
    closed ending last r is sound some =
        let all = seen_all loading.read ending last in
        let accepted = loading.accepted sound in
        closes some r now _ accepted.sound (accepted.rest ∙ ap (λ (c : Contents). later (length loading.seen) (loaded k amount_of (left_of now) c.entries)) last)
        (is ∙ ap₂ (λ (es : List Entry) (o : Option RecordFault). end_answer es o) (sym all.0) (sym all.1)) refl

    pub closed_at_end : Ok None ≡ record_at reader.bytes.now reader.cursor → Sound k before → 0 < before.states → Loads k amount_of before now bytes (Ok counts)
    closed_at_end here = closed None (at_cursor reader loading.read.input (Ok None) here) (Ok counts) (ap (λ (c : Counts). Ok c) loading.read.counted)

    pub closed_at_fault : (f : RecordFault) → Err f ≡ record_at reader.bytes.now reader.cursor → Sound k before → 0 < before.states → Loads k amount_of before now bytes (Err (Records (counts.bands + counts.names) f))
    closed_at_fault f here = closed (Some f) (at_cursor reader loading.read.input (Err f) here) _ (ap (λ (i : ℕ). Err (Records i f)) (index loading.read))

    module _ (e : Entry) (here : Ok (Some e) ≡ record_at reader.bytes.now reader.cursor) where
      -- the load of what follows the record at the cursor
      abbrev rest_of : Loaded S
      rest_of = loaded k amount_of (entry_left k amount_of (left_of now) e) (contents_from bytes (reader.cursor + 12)).entries

      whole_with : Sound k before → load_of k amount_of (left_of before) bytes ≡ later (length loading.seen) (and_one (entry_refusal k amount_of (left_of now) e) (left_of now) rest_of)
      unfolding loaded
      whole_with sound = (loading.accepted sound).rest ∙ ap (λ (c : Contents). later (length loading.seen) (loaded k amount_of (left_of now) c.entries)) (at_cursor reader loading.read.input (Ok (Some e)) here)

      pub closed_at_refusal : (after : Table S) (refusal : Refusal) → (Sound k now → Accepts k amount_of now after e (Err refusal)) → Sound k before → 0 < before.states → Loads k amount_of before after bytes (Err (OfTable (counts.bands + counts.names) refusal))
      closed_at_refusal after refusal accepts sound some =
          let accepted = accepts (loading.accepted sound).sound in
          let refused : entry_refusal k amount_of (left_of now) e ≡ Some refusal = answered_err _ _ refusal accepted.answer in
          let counted : counts.bands + counts.names ≡ length loading.seen + 0 = omega (arith, index loading.read) in
          closes some _ after (later (length loading.seen) (record { left = left_of now; accepted = 0; refusal = Some refusal })) accepted.sound
          (whole_with sound ∙ ap (λ (o : Option Refusal). later (length loading.seen) (and_one o (left_of now) rest_of)) refused)
          (ap (λ (i : ℕ). Err (OfTable i refusal)) counted) (rw refused at accepted.left)

      pub loading_more : (says : Says reader.bytes.now reader.cursor e) (after : Table S) (reader_after : Reader) (more : Counts) → Lent now after → (Sound k now → Accepts k amount_of now after e (Ok tt)) → reader_after.bytes ≡ reader.bytes → reader_after.cursor ≡ reader.cursor + 12 → more ≡ with_one counts e → Loading k amount_of before after bytes reader_after more
      loading_more says after reader_after more lent accepts same moved counted = record {
        seen = loading.seen ++ (e ∷ []);
        read = seen_more loading.read e here says reader_after more same moved counted;
        lent = record { bands = lent.bands ∙ loading.lent.bands; ranks = lent.ranks ∙ loading.lent.ranks };
        accepted = λ sound.
            let accepted = accepts (loading.accepted sound).sound in
            let none : entry_refusal k amount_of (left_of now) e ≡ None = (answered_ok _ _ _ accepted.answer).0 in
            let left : left_of after ≡ entry_left k amount_of (left_of now) e = rw none at accepted.left in
            let one : length loading.seen + (1 + rest_of.accepted) ≡ length (loading.seen ++ (e ∷ [])) + rest_of.accepted = omega (arith, length_push loading.seen e) in
            record {
              sound = accepted.sound;
              rest =
                  whole_with sound
                  ∙ ap (λ (o : Option Refusal). later (length loading.seen) (and_one o (left_of now) rest_of)) none
                  ∙ (λ i. record { left = rest_of.left; accepted = one i; refusal = rest_of.refusal })
                  ∙ ap₂ (λ (l : Left S) (at : ℕ). later (length (loading.seen ++ (e ∷ []))) (loaded k amount_of l (contents_from bytes at).entries)) (sym left) (sym moved);
            };
      }

-- a load leaves the number of states
states_kept : {S : Type 0} (k : Kind S) (amount_of : ℕ → Option S) (l : Left S) (es : List Entry) → (loaded k amount_of l es).left.states ≡ l.states
unfolding loaded
states_kept k amount_of l [] = refl
states_kept k amount_of l (e ∷ es) = one (entry_refusal k amount_of l e) (states_kept k amount_of (entry_left k amount_of l e) es ∙ same e)
  where
    same : (x : Entry) → (entry_left k amount_of l x).states ≡ l.states
    same (band source target low high) = refl
    same (name state place bytes) = refl

    one : (o : Option Refusal) → (loaded k amount_of (entry_left k amount_of l e) es).left.states ≡ l.states → (and_one o l (loaded k amount_of (entry_left k amount_of l e) es)).left.states ≡ l.states
    one None rest = rest
    one (Some refusal) rest = refl

pub load_states : {S : Type 0} {k : Kind S} {amount_of : ℕ → Option S} {before after : Table S} {bytes : List ℕ} {r : Result Counts LoadFault} → Loads k amount_of before after bytes r → after.states ≡ before.states
load_states {S} {k} {amount_of} {before} {after} {bytes} loads =
    ap (λ (l : Left S). l.states) loads.left
    ∙ cond_both (eqb before.states 0) (left_of before) (load_of k amount_of (left_of before) bytes).left (λ (l : Left S). l.states ≡ before.states) (λ _. refl) (λ _. states_kept k amount_of (left_of before) (contents bytes).entries)
