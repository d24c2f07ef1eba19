-- A listing so far: one turn of the loop, and its two ways out.
use Rattle.std.proofs.Common.{◌≡◌, ℕ, ◌+◌, ◌*◌, ◌≤◌, List, [], ◌∷◌, ◌++◌, length, Some, None, Ok, Err, Option, Result, sym, ap, ◌∙◌, subst, ap₂, arith}
use Rattle.std.proofs.lemmas.List.{flat_map_more, length-append, length_push}
use Rattle.std.specs.List.{flat_map}
use Rattle.records.proofs.Seen.{Seen, index, index_fits, at_cursor, seen_all, seen_more, whole_record}
use Rattle.records.specs.Contents.{contents, contents_from}
use Rattle.records.specs.Counts.{with_one}
use Rattle.records.specs.Encoding.{Says}
use Rattle.records.specs.Faults.{refusal_of}
use Rattle.records.specs.Format.{Entry, record_at}
use Rattle.records.specs.declared.counts.Counts.{Counts}
use Rattle.records.specs.declared.fault.RecordFault.{RecordFault}
use Rattle.records.specs.declared.reader.Reader.{Reader}
use Rattle.text.proofs.Writes as writes
use Rattle.text.specs.Pages.{PutOn}
use Rattle.text.specs.Refused.{refused_line}
use Rattle.text.specs.declared.page.Page.{Page}
use Rattle.text.specs.declared.room.TooShort.{TooShort}
use Rattle.listings.specs.Listing.{line, counts_line, closing, lines_of}
use Rattle.listings.proofs.LineLengths.{line_short, counts_short}

-- the records that were seen are told on the page, which has room for all
pub record Sofar (bytes : List ℕ) (first : Page) (reader : Reader) (page : Page) (counts : Counts) : Type 0 where
  pub few : length bytes ≤ 61_440
  pub room : first.at + 180_000 ≤ length first.bytes.now
  pub seen : List Entry
  pub read : Seen bytes reader counts seen
  pub put : PutOn first (flat_map line seen) page (Ok tt)
  pub short : length (flat_map line seen) ≤ 35 * length seen

module _ {bytes : List ℕ} {first : Page} {reader : Reader} {page : Page} {counts : Counts} (sofar : Sofar bytes first reader page counts) where
  abbrev told : List ℕ
  told = flat_map line sofar.seen

  few_seen : length sofar.seen ≤ 5_120
  few_seen = omega (arith, sofar.read.at, sofar.read.within, sofar.few)

  -- where no record stands at the cursor, all records are told
  told_all : (o : Option RecordFault) → contents_from bytes reader.cursor ≡ record { entries = []; ending = o } → lines_of (contents bytes) ≡ told ++ closing sofar.seen o
  told_all o last = let all = seen_all sofar.read o last in ap₂ (λ (es : List Entry) (f : Option RecordFault). flat_map line es ++ closing es f) all.0 all.1

  -- what `put_records` ensures, once the closing line is put
  abbrev Closed : Page → Result (Unit {0}) TooShort → Type 0
  Closed after r = PutOn first (lines_of (contents bytes)) after r × (length (lines_of (contents bytes)) ≤ 180_000)

  closed : (last : List ℕ) → lines_of (contents bytes) ≡ told ++ last → length last ≤ 67 → {after : Page} {r : Result (Unit {0}) TooShort} → PutOn page last after r → Closed after r
  closed last whole short {after} {r} p =
      let ys : List ℕ = told ++ last in
      let fits : length ys ≤ 180_000 = omega (arith, length-append told last, sofar.short, few_seen) in
      subst (λ (t : List ℕ). PutOn first t after r × (length t ≤ 180_000)) (sym whole) (writes.last_put sofar.put last (omega (arith, fits, sofar.room)) r p, fits)

  pub closed_at_end : Ok None ≡ record_at reader.bytes.now reader.cursor → {after : Page} {r : Result (Unit {0}) TooShort} → PutOn page (counts_line counts) after r → Closed after r
  closed_at_end here =
      let whole = told_all None (at_cursor reader sofar.read.input (Ok None) here) ∙ ap (λ (c : Counts). told ++ counts_line c) (sym sofar.read.counted) in
      let fits = index_fits sofar.read in
      let short : length (counts_line counts) ≤ 67 = omega (arith, counts_short counts (omega (arith, fits)) (omega (arith, fits))) in
      closed (counts_line counts) whole short

  pub closed_at_fault : (f : RecordFault) → Err f ≡ record_at reader.bytes.now reader.cursor → length (refused_line (refusal_of f) (counts.bands + counts.names)) ≤ 67 → {after : Page} {r : Result (Unit {0}) TooShort} → PutOn page (refused_line (refusal_of f) (counts.bands + counts.names)) after r → Closed after r
  closed_at_fault f here =
      closed (refused_line (refusal_of f) (counts.bands + counts.names)) (told_all (Some f) (at_cursor reader sofar.read.input (Err f) here) ∙ ap (λ (i : ℕ). told ++ refused_line (refusal_of f) i) (sym (index sofar.read)))

  module _ (e : Entry) (here : Ok (Some e) ≡ record_at reader.bytes.now reader.cursor) (says : Says reader.bytes.now reader.cursor e) where
    line_fits : length (line e) ≤ 35
    line_fits = line_short e reader.cursor says.0

    pub not_refused : {after : Page} {x : TooShort} → PutOn page (line e) after (Err x) → ⊥
    not_refused = writes.not_refused sofar.put (line e) (omega (arith, length-append told (line e), line_fits, whole_record reader sofar.read.input e says, sofar.read.at, sofar.short, sofar.few, sofar.room))

    pub next : (reader_after : Reader) (after : Page) (next_counts : Counts) → reader_after.bytes ≡ reader.bytes → reader_after.cursor ≡ reader.cursor + 12 → PutOn page (line e) after (Ok tt) → next_counts ≡ with_one counts e → Sofar bytes first reader_after after next_counts
    next reader_after after next_counts same moved p counted =
        let more : flat_map line (sofar.seen ++ (e ∷ [])) ≡ told ++ line e = sym (flat_map_more line [] sofar.seen e) in
        record {
          few = sofar.few;
          room = sofar.room;
          seen = sofar.seen ++ (e ∷ []);
          read = seen_more sofar.read e here says reader_after next_counts same moved counted;
          put = rw more (writes.then_put sofar.put p);
          short = omega (arith, ap length more ∙ length-append told (line e), length_push sofar.seen e, line_fits, sofar.short);
        }
