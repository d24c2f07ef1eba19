-- The states of rank 0 are those from which some chain keeps the bands.
use Rattle.std.proofs.Common.{◌≡◌, ℕ, suc, ◌<◌, ◌≤◌, Bool, true, ◌||◌, eqb, leb, refl, sym, ap, ◌∙◌, inl, arith}
use Rattle.std.proofs.lemmas.Bool.Decides.{nat_tests}
use Rattle.amounts.specs.Kinds.{Kind, Laws}
use Rattle.theory.specs.Chains.{Chain, Implements, TellsChains}
use Rattle.theory.specs.Models.{Model}
use Rattle.theory.specs.Rounds.{everyone, standing, not_before, rank_of}
use Rattle.theory.specs.Rows.{RowInside}
use Rattle.theory.proofs.Chains.{members_stand}
use Rattle.theory.proofs.Ranks.{ranks, rank_bounded, rank_tells}
use Rattle.theory.proofs.Rows.{row_inside, consistent_has_row}
use Rattle.theory.proofs.Standing.{member_chain, member_chain_implements}

-- of a rank v up to n, not fallen before round n + 1 means standing
stands_last : (v n : ℕ) → v ≡ 0 → (eqb v 0 || leb (suc n) v) ≡ true
stands_last v n is = grind (arith, nat_tests)

last_stands : (v n : ℕ) → v ≤ n → (eqb v 0 || leb (suc n) v) ≡ true → v ≡ 0
last_stands v n most is = grind (arith, nat_tests)

module _ {S : Type 0} {k : Kind S} (laws : Laws k) (m : Model S) where
  -- the states that stand: there are no more rounds than states
  abbrev stands : ℕ → Bool
  stands = not_before (rank_of k m) (suc m.states)

  rows : (u : ℕ) → u < m.states → stands u ≡ true → RowInside k m stands u (row_inside laws m stands u)
  rows u below is = consistent_has_row laws m stands u ((ranks k m laws).stood u m.states below (inl (last_stands (rank_of k m u) m.states (rank_bounded k m u) is)))

  module _ (t : ℕ) (below : t < m.states) where
    kept : rank_of k m t ≡ 0 → (chain : Chain k) × Implements k m t chain
    kept is =
        let is_member = stands_last (rank_of k m t) m.states is in
        (member_chain laws m stands (row_inside laws m stands) rows t below is_member, member_chain_implements laws m stands (row_inside laws m stands) rows t below is_member)

    used : (chain : Chain k) → Implements k m t chain → rank_of k m t ≡ 0
    used chain keeps =
        let rank = rank_of k m t in
        let stood = members_stand laws m chain keeps.keeps keeps.states (λ c. Unit {0}) (λ c d less is_member less_d some. tt) everyone (λ c less is_member. refl) rank chain.start chain.starts tt in
        last_stands rank rank (omega arith) (rank_tells k m rank t below ∙ ap (standing k m everyone rank) (sym keeps.from) ∙ stood)

    pub rank_tells_chains : TellsChains k m t (rank_of k m t)
    rank_tells_chains = record { stood = kept; stood_only = used }
