-- `put_each`: one piece more, and with room for all, none is refused.
use Rattle.text.proofs.Pieces.{printed_more, next_room}
use Rattle.text.proofs.Writes.{then_put, not_refused}
use Rattle.text.proofs.page.Page.put_each.Goals as goal

pub returns-in_err-put_piece : goal.returns-in_err-put_piece
returns-in_err-put_piece c =
    let room = next_room c.args.pieces.now c.loop-piece.piece-index c.loop-piece-test.true _ _ c.requires in
    absurd (not_refused c.loop-piece.invariant _ room c.in_err-put_piece.ensures)

pub loop-piece-preserved : goal.loop-piece-preserved
loop-piece-preserved c = rw (printed_more c.args.pieces.now c.loop-piece.piece-index c.loop-piece-test.true) (then_put c.loop-piece.invariant c.in_ok-put_piece.ensures)
