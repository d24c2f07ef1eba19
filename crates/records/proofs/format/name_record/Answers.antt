-- `name_record`: each way out tells the record's lowest wrong position, or that there is none.
use Rattle.std.proofs.Common.{◌≡◌, ◌+◌, ◌-◌, true, false, sym, ◌∙◌, arith}
use Rattle.records.specs.Format.{byte, name_length}
use Rattle.records.proofs.Positions.{length_wrong, third_wrong, filler_wrong, name_right}
use Rattle.records.proofs.format.name_record.Goals as goal

pub returns-then-not-is_name_length : goal.returns-then-not-is_name_length
returns-then-not-is_name_length c =
    let bad : name_length (byte c.args.bytes.now 2) ≡ false = sym c.is_name_length.ensures ∙ c.if-not-is_name_length.true in
    record { answer = rw (length_wrong c.args.bytes.now c.requires.name bad); in_record = tt }

pub returns-then-bytes-ne0 : goal.returns-then-bytes-ne0
returns-then-bytes-ne0 c =
    let good : name_length (byte c.args.bytes.now 2) ≡ true = sym c.is_name_length.ensures ∙ c.if-not-is_name_length.false in
    record { answer = rw (third_wrong c.args.bytes.now c.requires.name good c.if-bytes-ne0.true); in_record = tt }

pub returns-in-Some : goal.returns-in-Some
returns-in-Some c =
    let r = c.args.bytes.now in
    let good : name_length (byte r 2) ≡ true = sym c.is_name_length.ensures ∙ c.if-not-is_name_length.false in
    let wrong = rw c.from-end.ensures at c.in-Some.ensures in
    record { answer = rw (filler_wrong r c.requires.name good c.if-bytes-ne0.false c.in-Some.position wrong.0 (omega arith) wrong.2 wrong.3); in_record = tt }

pub returns : goal.returns
returns c =
    let r = c.args.bytes.now in
    let good : name_length (byte r 2) ≡ true = sym c.is_name_length.ensures ∙ c.if-not-is_name_length.false in
    let zeros = rw (c.from-end.ensures, c.requires.whole) at c.in_default.ensures in
    let right = name_right r c.requires.name good c.if-bytes-ne0.false zeros in
    let count : (4 + c.from-end.result) - 4 ≡ byte r 2 = omega arith in
    let offset : 4 + c.args.bytes.ref_ptr.1 ≡ c.args.bytes.ref_ptr.1 + 4 = omega arith in
    record { answer = rw (right, count); in_record = rw offset }
