-- `band_record`: byte 3 alone can be wrong.
use Rattle.std.proofs.Common.{Ok, ap}
use Rattle.records.proofs.Positions.{band_wrong, band_right}
use Rattle.records.proofs.format.band_record.Goals as goal

pub returns-then-bytes-ne0 : goal.returns-then-bytes-ne0
returns-then-bytes-ne0 c = record { answer = rw (band_wrong c.args.bytes.now c.requires.band c.if-bytes-ne0.true); in_record = tt }

pub returns : goal.returns
returns c = record {
  answer = rw (band_right c.args.bytes.now c.requires.band c.if-bytes-ne0.false) (ap Ok c.band_in.ensures.says);
  in_record = c.band_in.ensures.in_record;
}
