-- `record_at`: each way out is a case of what stands at the cursor.
use Rattle.std.proofs.Common.{Ok, Err, sym, refl, arith}
use Rattle.std.proofs.lemmas.Result.{err_from_is_err_and}
use Rattle.records.specs.Reading.{said}
use Rattle.records.proofs.Cursor.{at_partial, at_part, in_place}
use Rattle.records.proofs.Encoding.{stands}
use Rattle.records.proofs.format.record_at.Goals as goal

pub returns-then-left-lt-RECORD_BYTES : goal.returns-then-left-lt-RECORD_BYTES
returns-then-left-lt-RECORD_BYTES c = stands c.args.bytes c.args.at (λ i. (c.type_inv.bytes i).fits) _ (sym (at_partial c.args.bytes.now c.args.at (omega arith) (omega arith))) tt (omega arith)

pub returns-in_err-found : goal.returns-in_err-found
returns-in_err-found c =
    let p = err_from_is_err_and c.from_residual.result c.from_residual.ensures.1 in
    rw (p.1, p.2) (stands c.args.bytes c.args.at (λ i. (c.type_inv.bytes i).fits) _ (at_part c.args.bytes.now c.args.at (omega arith) (Err c.in_err-found.field-0.0) c.in_err-found.ensures.answer) tt (omega arith))

pub returns : goal.returns
returns c =
    let found = c.in_ok-found.found in
    let held = c.in_ok-found.ensures in
    stands c.args.bytes c.args.at (λ i. (c.type_inv.bytes i).fits) _ (at_part c.args.bytes.now c.args.at (omega arith) (Ok (said found)) held.answer) (in_place c.args.bytes.ref_ptr c.args.at _ refl found held) (omega arith)
