-- `second_pair`: what each set leaves, and what the two answer.
use Rattle.std.proofs.Common.{◌≡◌, Ok, Err}
use Rattle.refusals.specs.declared.Refusal.TheVariants.{NoFreePlace}
use Rattle.amounts.specs.Shares.{shares}
use Rattle.tables.specs.Calls.{left_of}
use Rattle.tables.specs.Held.{is_held}
use Rattle.tables.specs.Left.{opened, sized, banded}
use Rattle.table_callers.proofs.Computed.{all}
use Rattle.table_callers.proofs.Steps.{size_leaves, set_leaves, set_answers}
use Rattle.table_callers.proofs.places.second_pair.Goals as goal

pub returns : goal.returns
unfolding is_held
returns c =
    let size = c.in_ok-size.ensures.sized c.open-table.ensures.sound in
    let at_size : left_of c.size.new.self ≡ sized (opened 1 2) 2 0 = size_leaves c.open-table.ensures.left size in
    let first = rw (c.full.ensures, c.full-2.ensures) at (c.in_ok-set.ensures.set size.sound) in
    let at_first : left_of c.set.new.self ≡ banded shares (sized (opened 1 2) 2 0) (all 0 0) = set_leaves at_size first in
    let refused = rw (c.full-3.ensures, c.full-4.ensures) at (c.set-at_full.ensures.set first.sound) in
    let at_full : left_of c.set-at_full.new.self ≡ banded shares (sized (opened 1 2) 2 0) (all 0 0) = set_leaves at_first refused in
    let cleared = rw (c.nothing-3.ensures, c.nothing-4.ensures) at (c.in_ok-set-2.ensures.set refused.sound) in
    let at_cleared : left_of c.set-2.new.self ≡ sized (opened 1 2) 2 0 = set_leaves at_full cleared in
    let second = rw (c.full-5.ensures, c.full-6.ensures) at (c.set-cleared.ensures.set cleared.sound) in
    let full : c.set-at_full.result ≡ Err NoFreePlace = set_answers at_first refused in
    let free : c.set-cleared.result ≡ Ok tt = set_answers at_cleared second in
    λ i. Ok (full i, free i)
