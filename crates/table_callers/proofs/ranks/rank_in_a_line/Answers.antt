-- `rank_in_a_line`: what each call leaves, and the rank, which is computed.
use Rattle.std.proofs.Common.{◌≡◌, Ok, ap, ◌∙◌}
use Rattle.amounts.specs.Shares.{shares}
use Rattle.tables.specs.Calls.{left_of}
use Rattle.tables.specs.Held.{is_held}
use Rattle.tables.specs.Left.{as_rank, opened, sized, judged}
use Rattle.table_callers.proofs.Computed.{line, line_falls}
use Rattle.table_callers.proofs.Steps.{size_leaves, set_leaves, check_leaves, rank_answers}
use Rattle.table_callers.proofs.ranks.rank_in_a_line.Goals as goal

pub returns : goal.returns
unfolding is_held
returns c =
    let size = c.in_ok-size.ensures.sized c.open-table.ensures.sound in
    let at_size : left_of c.size.new.self ≡ sized (opened 1 2) 2 0 = size_leaves c.open-table.ensures.left size in
    let set = rw (c.full.ensures, c.full-2.ensures) at (c.in_ok-set.ensures.set size.sound) in
    let at_set : left_of c.set.new.self ≡ line = set_leaves at_size set in
    let check = c.in_ok-check.ensures.checked set.sound in
    let at_check : left_of c.check.new.self ≡ judged line = check_leaves at_set check in
    rank_answers shares at_check 0 (c.rank.ensures check.sound) ∙ ap (λ r. Ok (as_rank r)) line_falls
