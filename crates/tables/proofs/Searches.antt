-- What the library's searches tell of bands in ascending order.
use Rattle.std.proofs.Common.{◌≡◌, ℕ, ◌+◌, ◌<◌, ◌≤◌, true, false, ltb, List, length, get_or, Ok, Err, Result, Ordering, Less, Equal, Greater, sym, ⊎_elim, arith}
use Rattle.std.proofs.ByRecursion.{All-get_or}
use Rattle.std.proofs.lemmas.Bool.{cases_eq, ltb-true, ltb-false}
use Rattle.std.proofs.lemmas.Cmp.{nat_cmp_total, ranked}
use Rattle.std.proofs.lemmas.List.Sorted.{IsPartitionedBy-ltb, searchable_from_sorted}
use Rattle.std.specs.Cmp.{nat_cmp_is}
use Rattle.std.specs.List.{AllByRecursion}
use Rattle.std.specs.List.Sorted.{IsBinarySearchResult, IsNonDecreasingBy, IsPartitionPoint, IsPartitionedBy, IsSearchInRange}
use Rattle.std.specs.Ordering.{nat_cmp, ordering_index}
use Rattle.tables.specs.Held.{Ascending, Found, Position, key_of, pair_of}
use Rattle.tables.specs.declared.band.Band.{Band}
use Rattle.tables.proofs.Orders.{ascending_places}

-- with targets of 16 bits, the bands of one source lie together
module _ {S : Type 0} (held : List (Band S)) (order : Ascending held) (small : AllByRecursion (λ b. b.target < 65_536) held) where
  fits : (i : ℕ) (d : Band S) → i < length held → (get_or held i d).target < 65_536
  fits i d within = All-get_or (λ b. b.target < 65_536) held i d within small

  -- sources do not fall from one held band to a later one
  upward : IsNonDecreasingBy (λ b. b.source) held
  upward i j d upto within =
      ⊎_elim
      (λ (same : i ≡ j). rw same (omega arith))
      (λ (other : i ≡ j → ⊥). omega (arith, ascending_places held order i j d (omega arith) within, fits i d (omega arith), fits j d within))
      (cases_eq i j)

  module _ (s : ℕ) where
    pub partitioned : IsPartitionedBy (λ (b : Band S). ltb b.source s) held
    partitioned = IsPartitionedBy-ltb (λ b. b.source) held s upward

    -- where the bands of lower sources end, the first of s stands or would stand
    pub position_from_partition : (p : ℕ) → p ≤ length held → IsPartitionPoint (λ (b : Band S). ltb b.source s ≡ true) (λ b. ltb b.source s ≡ false) held p → Position (pair_of s 0) held p
    position_from_partition p within parts = record {
      within = within;
      below = λ i d less. omega (arith, ltb-true (get_or held i d).source s (parts.0 i d (omega arith) less), fits i d (omega arith));
      above = λ i d from less. omega (arith, ltb-false (get_or held i d).source s (parts.1 i d from less));
    }

-- and the pair of b is found by its number
module _ {S : Type 0} (held : List (Band S)) (order : Ascending held) (b : Band S) where
  abbrev order_of : Band S → Ordering
  order_of c = nat_cmp (key_of c) (key_of b)

  searchable : IsNonDecreasingBy (λ c. ordering_index (order_of c)) held
  searchable =
      searchable_from_sorted nat_cmp_total (λ (c : Band S). key_of c) held (key_of b) (λ i d from less.
      let above : Greater ≡ nat_cmp (key_of (get_or held (i + 1) d)) (key_of (get_or held i d)) = nat_cmp_is _ _ Greater (ascending_places held order i (i + 1) d (omega arith) less) in
      rw (← above))

  pub found : (r : Result ℕ ℕ) → IsSearchInRange r (length held) → IsBinarySearchResult order_of held r → Found (key_of b) held r
  found (Ok p) within equal =
      let here : (d : Band S) → key_of (get_or held p d) ≡ key_of b = λ d. ranked (key_of (get_or held p d)) (key_of b) Equal (sym (equal d)) in (
        record {
          within = omega arith;
          below = λ i d less. omega (arith, here d, ascending_places held order i p d less within);
          above = λ i d from less.
              ⊎_elim
              (λ (same : i ≡ p). rw same (omega (arith, here d)))
              (λ (other : i ≡ p → ⊥). omega (arith, here d, ascending_places held order p i d (omega arith) less))
              (cases_eq i p);
        },
        within,
        here,
      )
  found (Err p) within none =
      let parts = none searchable in
      let above : (i : ℕ) (d : Band S) → p ≤ i → i < length held → key_of b < key_of (get_or held i d) = λ i d from less. ranked (key_of (get_or held i d)) (key_of b) Greater (sym (parts.1 i d from less)) in (
        record {
          within = within;
          below = λ i d less. ranked (key_of (get_or held i d)) (key_of b) Less (sym (parts.0 i d (omega arith) less));
          above = λ i d from less. omega (arith, above i d from less);
        },
        λ d less same. omega (arith, above p d (omega arith) less),
      )
