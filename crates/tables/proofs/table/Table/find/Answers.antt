-- `find`: what the library's search tells of bands in order.
use Rattle.std.proofs.Common.{rules}
use Rattle.std.proofs.lemmas.List.Sorted.{answers_always}
use Rattle.tables.specs.Held.{key_of}
use Rattle.tables.specs.Places.{bands_of}
use Rattle.tables.proofs.Searches.{found}
use Rattle.tables.proofs.table.Table.find.Goals as goal

pub returns-clause-found : goal.returns-clause-found
returns-clause-found g c order =
    let search_ends = rw c.pair.ensures at (c.binary_search_by_key.ensures.position (λ b. key_of b) (answers_always _ _ _ (λ f a r f' h. search rules))) in
    found (bands_of c.args.self.now) order c.args.band.now c.binary_search_by_key.result (rw c.held_bands.ensures at c.binary_search_by_key.ensures.bound) (rw c.held_bands.ensures at search_ends)
