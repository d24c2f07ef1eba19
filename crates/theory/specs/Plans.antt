-- Plans: exact rows for so many steps ahead.
use Rattle.std.specs.Prelude.{◌≡◌, ℕ, zero, suc, ◌<◌}
use Rattle.amounts.specs.Kinds.{Kind, IsNothing}
use Rattle.theory.specs.Models.{Model}
use Rattle.theory.specs.Rows.{ExactRow}

-- an exact row of t, and what is wanted next of each state that it gives an amount other than nothing
pub record FirstStep {S : Type 0} (k : Kind S) (m : Model S) (next : ℕ → Type 0) (t : ℕ) : Type 0 where
  pub row : ℕ → S
  pub exact : ExactRow k m t row
  pub later : (u : ℕ) → u < m.states → ¬ IsNothing k (row u) → next u

-- a plan of so many steps from t
unfoldable pub Plan : {S : Type 0} → Kind S → Model S → ℕ → ℕ → Type 0
Plan k m zero t = Unit {0}
Plan k m (suc steps) t = FirstStep k m (Plan k m steps) t

-- a rank tells how far ahead t can be planned: a state of rank r has a plan of r - 1 steps and none of r, a state that stands has a plan of every length, and no other rank tells this
pub record TellsPlans {S : Type 0} (k : Kind S) (m : Model S) (t rank : ℕ) : Type 0 where
  pub fell : (r : ℕ) → rank ≡ suc r → Plan k m r t × ¬ Plan k m (suc r) t
  pub fell_only : (r : ℕ) → Plan k m r t → ¬ Plan k m (suc r) t → rank ≡ suc r
  pub stood : rank ≡ 0 → (r : ℕ) → Plan k m r t
  pub stood_only : ((r : ℕ) → Plan k m r t) → rank ≡ 0
