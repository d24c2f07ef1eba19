-- `reason_of`: the part that begins at the place of the source.
use Rattle.std.proofs.Common.{rules, ltb, ◌<◌, None, ap, ◌∙◌, arith}
use Rattle.std.proofs.ByRecursion.{All-weaker}
use Rattle.std.proofs.lemmas.List.{take_rest}
use Rattle.std.proofs.lemmas.List.Sorted.{IsPartitionPoint-from_clause}
use Rattle.tables.specs.Passes.{remaining, passed}
use Rattle.tables.proofs.Searches.{partitioned, position_from_partition}
use Rattle.tables.proofs.Seen.{passed_is}
use Rattle.tables.proofs.reasons.reason_of.Goals as goal

pub returns : goal.returns
returns g c states orderly =
    let k = g.K.Amount.kind in
    let held = c.args.held.now in
    let x = remaining c.args.set.now in
    let source = c.args.source in
    let first = c.partition_point-first.result in
    let small = All-weaker (λ b. b.target < states) (λ b. b.target < 65_536) (λ b less. omega (arith, orderly.few)) held orderly.targets in
    let parts = IsPartitionPoint-from_clause (λ b. ltb b.source source) held first c.partition_point-first.ensures.partitioned (partitioned held orderly.order small source) (λ a r f' h. search rules) in
    let place = position_from_partition held orderly.order small source first c.partition_point-first.ensures.bound parts in
    c.reason_in.ensures
    ∙ ap (passed k x source None k.nothing k.nothing) (take_rest held first)
    ∙ passed_is g.met.K.Amount.laws states (omega (arith, orderly.few)) held x source first place orderly.order orderly.targets
