-- The largest state number so far: one record more, and the end.
use Rattle.std.proofs.Common.{◌≡◌, ℕ, ◌+◌, ◌<◌, List, [], Some, None, Ok, Err, sym, ap, ◌∙◌, arith}
use Rattle.records.proofs.Seen.{at_cursor}
use Rattle.records.specs.Contents.{Contents, contents, contents_from}
use Rattle.records.specs.Format.{Entry, record_at}
use Rattle.records.specs.declared.fault.RecordFault.{RecordFault}
use Rattle.records.specs.declared.reader.Reader.{Reader}
use Rattle.reports.specs.Reporting.{larger_state, largest_state, state_count}

-- what is left of the records gives the largest number of all
pub record Sofar (bytes : List ℕ) (reader : Reader) (largest : ℕ) : Type 0 where
  pub small : largest < 256
  pub input : reader.bytes.now ≡ bytes
  pub rest : largest_state 0 (contents bytes).entries ≡ largest_state largest (contents_from bytes reader.cursor).entries

pub sofar_none : (bytes : List ℕ) (reader : Reader) → reader.bytes.now ≡ bytes → reader.cursor ≡ 0 → Sofar bytes reader 0
sofar_none bytes reader input start = record { small = omega arith; input = input; rest = ap (λ (at : ℕ). largest_state 0 (contents_from bytes at).entries) (sym start) }

module _ {bytes : List ℕ} {reader : Reader} {largest : ℕ} (sofar : Sofar bytes reader largest) where
  counted : (contents_from bytes reader.cursor).entries ≡ [] → largest + 1 ≡ state_count bytes
  unfolding largest_state
  counted none = ap (λ (n : ℕ). n + 1) (sym (sofar.rest ∙ ap (largest_state largest) none))

  pub counted_at_end : Ok None ≡ record_at reader.bytes.now reader.cursor → largest + 1 ≡ state_count bytes
  counted_at_end here = counted (ap (λ (c : Contents). c.entries) (at_cursor reader sofar.input (Ok None) here))

  pub counted_at_fault : (f : RecordFault) → Err f ≡ record_at reader.bytes.now reader.cursor → largest + 1 ≡ state_count bytes
  counted_at_fault f here = counted (ap (λ (c : Contents). c.entries) (at_cursor reader sofar.input (Err f) here))

  pub sofar_more : (e : Entry) → Ok (Some e) ≡ record_at reader.bytes.now reader.cursor → (after : Reader) (larger : ℕ) → larger < 256 → after.bytes ≡ reader.bytes → after.cursor ≡ reader.cursor + 12 → larger ≡ larger_state largest e → Sofar bytes after larger
  unfolding largest_state
  sofar_more e here after larger small same moved is = record {
    small = small;
    input = ap (λ b. b.now) same ∙ sofar.input;
    rest = sofar.rest ∙ ap (λ (c : Contents). largest_state largest c.entries) (at_cursor reader sofar.input (Ok (Some e)) here) ∙ (λ i. largest_state (sym is i) (contents_from bytes (sym moved i)).entries);
  }
