-- One turn of the pass over a source's bands, and the ways it ends.
use Rattle.std.proofs.Common.{◌≡◌, ℕ, ◌+◌, ◌<◌, ◌≤◌, Bool, true, false, List, ◌∷◌, length, get_or, drop, Some, Option, sym, ap, ◌∙◌}
use Rattle.std.proofs.lemmas.List.{drop_more, drop_all}
use Rattle.std.proofs.lemmas.Bool.{eq-eqb, ne_eqb}
use Rattle.std.specs.Option.{option_or}
use Rattle.amounts.specs.Kinds.{Kind}
use Rattle.theory.specs.declared.reason.Reason.TheVariants.{Lost}
use Rattle.tables.specs.Passes.{crossing, ended, passed}
use Rattle.tables.specs.declared.band.Band.{Band}

module _ {S : Type 0} (k : Kind S) (x : ℕ → Bool) (s : ℕ) (crossed : Option ℕ) (low high : S) where
  module _ (b : Band S) (bs : List (Band S)) where
    pub other_source : (b.source ≡ s → ⊥) → passed k x s crossed low high (b ∷ bs) ≡ ended k crossed low high
    unfolding passed
    other_source other = rw (ne_eqb b.source s other)

    module _ (own : b.source ≡ s) where
      pub inside : x b.target ≡ true → passed k x s crossed low high (b ∷ bs) ≡ passed k x s (option_or crossed (crossing k b)) (k.total low b.low) (k.total high b.high) bs
      unfolding passed
      inside is = rw (eq-eqb b.source s own, is)

      module _ (out : x b.target ≡ false) where
        pub outside : k.at_most b.low k.nothing ≡ true → passed k x s crossed low high (b ∷ bs) ≡ passed k x s crossed low high bs
        unfolding passed
        outside none = rw (eq-eqb b.source s own, out, none)

        pub lost : k.at_most b.low k.nothing ≡ false → passed k x s crossed low high (b ∷ bs) ≡ Some (Lost b.target)
        unfolding passed
        lost some = rw (eq-eqb b.source s own, out, some)

  module _ (part : List (Band S)) (i : ℕ) where
    -- the band at i comes next
    pub next : (b : Band S) → i < length part → b ≡ get_or part i b → passed k x s crossed low high (drop i part) ≡ passed k x s crossed low high (b ∷ drop (i + 1) part)
    next b within is = ap (passed k x s crossed low high) (drop_more part i b within ∙ ap (λ (c : Band S). c ∷ drop (i + 1) part) (sym is))

    pub last : length part ≤ i → passed k x s crossed low high (drop i part) ≡ ended k crossed low high
    unfolding passed
    last end = rw (drop_all i part end)
