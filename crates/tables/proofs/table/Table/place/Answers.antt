-- `place`: each of the five ways.
use Rattle.std.proofs.Common.{sym, refl, ◌∙◌}
use Rattle.std.proofs.lemmas.Bool.{leb-true, leb-false}
use Rattle.tables.proofs.Placing as placing
use Rattle.tables.proofs.table.Table.place.Goals as goal

pub returns-then-is_full-clause-placed : goal.returns-then-is_full-clause-placed
returns-then-is_full-clause-placed g c order =
    placing.refused g.K.Amount.kind c.args.band c.args.self.now order c.in-Err-false.at _
    (c.in-Err-false.ensures.found order) (sym c.in-Err-false.ensures') (leb-true _ _ (sym c.is_full.ensures ∙ c.if-is_full.true)) refl

pub returns-in-Ok-true-clause-placed : goal.returns-in-Ok-true-clause-placed
returns-in-Ok-true-clause-placed g c order =
    placing.cleared g.K.Amount.kind c.args.band c.args.self.now order c.in-Ok-true.at _
    (c.in-Ok-true.ensures.found order) (sym c.in-Ok-true.ensures') c.take_out.ensures.taken

pub returns-in-Ok-false-clause-placed : goal.returns-in-Ok-false-clause-placed
returns-in-Ok-false-clause-placed g c order =
    placing.replaced g.K.Amount.kind c.args.band c.args.self.now order c.in-Ok-false.at _
    (c.in-Ok-false.ensures.found order) (sym c.in-Ok-false.ensures') refl

pub returns-in-Err-true-clause-placed : goal.returns-in-Err-true-clause-placed
returns-in-Err-true-clause-placed g c order =
    placing.nothing_new g.K.Amount.kind c.args.band c.args.self.now order c.in-Err-true.field-0-0 _
    (c.in-Err-true.ensures.found order) (sym c.in-Err-true.ensures') refl

pub returns-else-is_full-clause-placed : goal.returns-else-is_full-clause-placed
returns-else-is_full-clause-placed g c order =
    placing.added g.K.Amount.kind c.args.band c.args.self.now order c.in-Err-false.at _
    (c.in-Err-false.ensures.found order) (sym c.in-Err-false.ensures') (leb-false _ _ (sym c.is_full.ensures ∙ c.if-is_full.false)) c.put_in.ensures.put
