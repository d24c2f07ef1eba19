-- Markov chains over a kind of amount, and which of them keep the bands of a table.
use Rattle.std.specs.Prelude.{IsTrue, ◌≡◌, ℕ, zero, suc, ◌<◌, Bool, ◌==◌, if◌then◌else◌}
use Rattle.amounts.specs.Kinds.{Kind, Same, Within, IsNothing}
use Rattle.theory.specs.Models.{Model, total_below}

-- a chain has states of its own, as many as it wants; each gives its states amounts that come to full, and stands for one state of a table
pub record Chain {S : Type 0} (k : Kind S) : Type 0 where
  pub states : ℕ
  pub start : ℕ
  pub starts : start < states
  pub row : ℕ → ℕ → S
  pub whole : (c : ℕ) → c < states → Same k (total_below k (row c) states) k.full
  pub stands_for : ℕ → ℕ

-- what c gives to the chain states that stand for u, in all
abbrev pub given_to : {S : Type 0} (k : Kind S) → Chain k → ℕ → ℕ → S
given_to k chain c u = total_below k (λ d. if chain.stands_for d == u then chain.row c d else k.nothing) chain.states

-- the chain keeps the bands of the table, and its start stands for t
pub record Implements {S : Type 0} (k : Kind S) (m : Model S) (t : ℕ) (chain : Chain k) : Type 0 where
  pub from : chain.stands_for chain.start ≡ t
  pub states : (c : ℕ) → c < chain.states → chain.stands_for c < m.states
  pub keeps : (c u : ℕ) → c < chain.states → u < m.states → Within k (m.band (chain.stands_for c) u) (given_to k chain c u)

-- from c a goal is entered in so many steps, each along an amount other than nothing
unfoldable pub EntersFrom : {S : Type 0} (k : Kind S) → Chain k → (ℕ → Bool) → ℕ → ℕ → Type 0
EntersFrom k chain goal zero c = IsTrue (goal (chain.stands_for c))
EntersFrom k chain goal (suc steps) c = (d : ℕ) × (d < chain.states) × (¬ IsNothing k (chain.row c d)) × EntersFrom k chain goal steps d

-- the chain enters a goal in so many steps from its start
abbrev pub Enters : {S : Type 0} (k : Kind S) → Chain k → (ℕ → Bool) → ℕ → Type 0
Enters k chain goal steps = EntersFrom k chain goal steps chain.start

-- a state stands exactly where some chain keeps the bands from it
pub record TellsChains {S : Type 0} (k : Kind S) (m : Model S) (t rank : ℕ) : Type 0 where
  pub stood : rank ≡ 0 → (chain : Chain k) × Implements k m t chain
  pub stood_only : (chain : Chain k) → Implements k m t chain → rank ≡ 0
