-- `pieces_len`: a sum that is capped at each step is the whole sum, capped.
use Rattle.std.proofs.Common.{◌≡◌, rules, fold, arith}
use Rattle.std.proofs.iter.runs.Made.{chains}
use Rattle.text.proofs.Pieces.{capped_sum, lens, capped_lens}
use Rattle.text.proofs.piece.pieces_len.Goals as goal

pub returns : goal.returns
returns c =
    let folded : c.fold.result ≡ fold capped_sum 0 (lens c.args.pieces.now) = search (rules, chains) in
    omega (arith, folded, capped_lens 0 c.args.pieces.now (omega arith))
