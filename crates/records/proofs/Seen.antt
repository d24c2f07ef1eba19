-- What a loop over a reader has seen of its input: one record more, and the ways it ends.
use Rattle.std.proofs.Common.{◌≡◌, ℕ, ◌+◌, ◌-◌, ◌*◌, ◌^◌, ◌<◌, ◌≤◌, List, [], ◌∷◌, ◌++◌, length, Some, Ok, Option, Result, sym, ap, ◌∙◌, arith}
use Rattle.std.proofs.lemmas.List.{append_assoc, append-nil, length_push}
use Rattle.records.specs.declared.counts.Counts.{Counts}
use Rattle.records.specs.declared.fault.RecordFault.{RecordFault}
use Rattle.records.specs.declared.reader.Reader.{Reader}
use Rattle.records.specs.Contents.{Contents, and_then, contents, contents_from}
use Rattle.records.specs.Counts.{none_yet, with_one, counts_of}
use Rattle.records.specs.Encoding.{Says}
use Rattle.records.specs.Format.{Entry, record_at}
use Rattle.records.proofs.Contents.{step}
use Rattle.records.proofs.Counting.{all_counted, counts_push}
use Rattle.records.proofs.Encoding.{says_whole}

-- what a reader of the bytes has at its cursor
module _ {bytes : List ℕ} (reader : Reader) (input : reader.bytes.now ≡ bytes) where
  pub at_cursor : (a : Result (Option Entry) RecordFault) → a ≡ record_at reader.bytes.now reader.cursor → contents_from bytes reader.cursor ≡ and_then a (contents_from bytes (reader.cursor + 12))
  at_cursor a here =
      let same = here ∙ ap (λ (bs : List ℕ). record_at bs reader.cursor) input in
      step bytes reader.cursor ∙ ap (λ (b : Result (Option Entry) RecordFault). and_then b (contents_from bytes (reader.cursor + 12))) (sym same)

  pub whole_record : (e : Entry) → Says reader.bytes.now reader.cursor e → reader.cursor + 12 ≤ length bytes
  whole_record e says = rw input at (says_whole reader.bytes.now reader.cursor e says)

-- the records before the cursor, in order
pub record Seen (bytes : List ℕ) (reader : Reader) (counts : Counts) (seen : List Entry) : Type 0 where
  pub short : length bytes < 2 ^ 64 - 1
  pub input : reader.bytes.now ≡ bytes
  pub entries : (contents bytes).entries ≡ seen ++ (contents_from bytes reader.cursor).entries
  pub ending : (contents bytes).ending ≡ (contents_from bytes reader.cursor).ending
  pub at : reader.cursor ≡ 12 * length seen
  pub within : reader.cursor ≤ length bytes
  pub counted : counts ≡ counts_of seen

pub seen_none : (bytes : List ℕ) (reader : Reader) (counts : Counts) → length bytes < 2 ^ 64 - 1 → reader.bytes.now ≡ bytes → reader.cursor ≡ 0 → counts ≡ none_yet → Seen bytes reader counts []
seen_none bytes reader counts short input start none = record {
  short = short;
  input = input;
  entries = ap (λ (at : ℕ). (contents_from bytes at).entries) (sym start);
  ending = ap (λ (at : ℕ). (contents_from bytes at).ending) (sym start);
  at = start;
  within = omega (arith, start);
  counted = none;
}

module _ {bytes : List ℕ} {reader : Reader} {counts : Counts} {seen : List Entry} (sofar : Seen bytes reader counts seen) where
  -- the counts give the index of the record at the cursor
  pub index : counts.bands + counts.names ≡ length seen
  index = ap (λ (c : Counts). c.bands + c.names) sofar.counted ∙ all_counted seen

  pub index_fits : counts.bands + counts.names < 2 ^ 64
  index_fits = omega (arith, index, sofar.at, sofar.within, sofar.short)

  -- where no record stands at the cursor, all records are seen
  pub seen_all : (ending : Option RecordFault) → contents_from bytes reader.cursor ≡ record { entries = []; ending = ending } → ((contents bytes).entries ≡ seen) × ((contents bytes).ending ≡ ending)
  seen_all ending last = (sofar.entries ∙ ap (λ (c : Contents). seen ++ c.entries) last ∙ append-nil seen, sofar.ending ∙ ap (λ (c : Contents). c.ending) last)

  module _ (e : Entry) (here : Ok (Some e) ≡ record_at reader.bytes.now reader.cursor) (says : Says reader.bytes.now reader.cursor e) where
    pub seen_more : (after : Reader) (more : Counts) → after.bytes ≡ reader.bytes → after.cursor ≡ reader.cursor + 12 → more ≡ with_one counts e → Seen bytes after more (seen ++ (e ∷ []))
    seen_more after more same moved counted =
        let rest = at_cursor reader sofar.input (Ok (Some e)) here ∙ ap (λ (k : ℕ). and_then (Ok (Some e)) (contents_from bytes k)) (sym moved) in
        record {
          short = sofar.short;
          input = ap (λ b. b.now) same ∙ sofar.input;
          entries = sofar.entries ∙ ap (λ (c : Contents). seen ++ c.entries) rest ∙ sym (append_assoc seen (e ∷ []) _);
          ending = sofar.ending ∙ ap (λ (c : Contents). c.ending) rest;
          at = omega (arith, moved, sofar.at, length_push seen e);
          within = omega (arith, moved, whole_record reader sofar.input e says);
          counted = counted ∙ ap (λ (c : Counts). with_one c e) sofar.counted ∙ counts_push seen e (omega (arith, sofar.at, sofar.within, sofar.short));
        }
