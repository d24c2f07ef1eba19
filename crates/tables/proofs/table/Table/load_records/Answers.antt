-- `load_records`: a record, its refusal, the end and a fault each lead on as the load has it.
use Rattle.std.proofs.Common.{rules, ◌+◌, ap, ◌∙◌, arith}
use Rattle.records.proofs.Seen.{index_fits, whole_record}
use Rattle.records.specs.Reading.{said}
use Rattle.std.proofs.lemmas.Result.{err_from_is_err_and}
use Rattle.tables.proofs.Loads.{read_ok, read_err, loading_none, loading_more, closed_at_end, closed_at_fault, closed_at_refusal}
use Rattle.tables.proofs.table.Table.load_records.Goals as goal

pub records-init : goal.records-init
records-init g c = loading_none g.K.Amount.kind g.K.RecordNumber.amount_of c.args.self.now c.args.records.now c.new-reader.result c.none-counts.result (omega arith) (ap (λ b. b.now) c.new-reader.ensures.input) c.new-reader.ensures.start c.none-counts.ensures

pub overflow_add-index : goal.overflow_add-index
overflow_add-index g c = record { fits = index_fits c.records.invariant.read }

pub returns-in_err-entry : goal.returns-in_err-entry
returns-in_err-entry g c =
    let fault = read_err _ (c.records.counts.bands + c.records.counts.names) c.next.result _ c.in_err-entry.field-0.0 c.map_err.ensures.cases (λ f n h. search rules) c.in_err-entry.was in
    let answer = err_from_is_err_and c.from_residual.result c.from_residual.ensures.1 in
    let here = rw fault.0 at c.next.ensures.stands.answer in
    record { loads = λ sound some. rw (answer.1, answer.2, fault.1) (closed_at_fault _ _ _ _ c.records.invariant _ here sound some); lent = c.records.invariant.lent }

pub returns-in_default : goal.returns-in_default
returns-in_default g c =
    let read = read_ok _ c.next.result _ c.in_ok-entry.field-0 c.map_err.ensures.cases c.in_ok-entry.was in
    let here = rw (read, c.in_default.is) at c.next.ensures.stands.answer in
    record { loads = λ sound some. closed_at_end _ _ _ _ c.records.invariant here sound some; lent = c.records.invariant.lent }

pub returns-in_err-map_err : goal.returns-in_err-map_err
returns-in_err-map_err g c =
    let read = read_ok _ c.next.result _ c.in_ok-entry.field-0 c.map_err.ensures.cases c.in_ok-entry.was in
    let here = rw (read, c.in-Some.is) at c.next.ensures.stands.answer in
    let refused = read_err _ (c.records.counts.bands + c.records.counts.names) c.accept.result _ c.in_err-map_err.field-0.0 c.map_err-in-records.ensures.cases (λ f n h. search rules) c.in_err-map_err.was in
    let answer = err_from_is_err_and c.from_residual-in_err-map_err.result c.from_residual-in_err-map_err.ensures.1 in
    record {
      loads = λ sound some. rw (answer.1, answer.2, refused.1) (closed_at_refusal _ _ _ _ c.records.invariant (said c.in-Some.entry) here c.accept.new.self _ (λ now_sound. rw refused.0 at (c.accept.ensures.accepts now_sound)) sound some);
      lent = record { bands = c.accept.ensures.lent.bands ∙ c.records.invariant.lent.bands; ranks = c.accept.ensures.lent.ranks ∙ c.records.invariant.lent.ranks };
    }

pub records-smaller : goal.records-smaller
records-smaller g c =
    let read = read_ok _ c.next.result _ c.in_ok-entry.field-0 c.map_err.ensures.cases c.in_ok-entry.was in
    let next = rw (read, c.in-Some.is) at c.next.ensures in
    omega (arith, next.cursor, whole_record c.records.reader c.records.invariant.read.input (said c.in-Some.entry) next.stands.tells.told)

pub records-preserved : goal.records-preserved
records-preserved g c =
    let read = read_ok _ c.next.result _ c.in_ok-entry.field-0 c.map_err.ensures.cases c.in_ok-entry.was in
    let next = rw (read, c.in-Some.is) at c.next.ensures in
    let accepted = read_ok _ c.accept.result _ tt c.map_err-in-records.ensures.cases c.in_ok-map_err.was in
    loading_more _ _ _ _ c.records.invariant (said c.in-Some.entry) next.stands.answer next.stands.tells.told c.accept.new.self c.next.new.self c.with-counts.result
    c.accept.ensures.lent (λ now_sound. rw accepted at (c.accept.ensures.accepts now_sound)) next.input next.cursor c.with-counts.ensures
