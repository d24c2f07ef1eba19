-- `put_each`: the pieces so far are put.
use Rattle.std.proofs.Common.{take, Ok}
use Rattle.text.specs.Pages.{PutOn}
use Rattle.text.specs.Pieces.{printed}
use Rattle.text.proofs.page.Page.put_each.Given as goal

abbrev pub invariant-loop-piece : goal.invariant-loop-piece
invariant-loop-piece l = PutOn l.initial.self (printed (take l.piece-index l.pieces)) l.self (Ok tt)
