-- Exact rows: amounts that come to full, each within its band.
use Rattle.std.specs.Prelude.{ℕ, ◌<◌, Bool, IsFalse}
use Rattle.amounts.specs.Kinds.{Kind, Same, Within, IsNothing}
use Rattle.theory.specs.Models.{Model, total_below}

-- an amount for each state, within the band from t to it; together they are full
pub record ExactRow {S : Type 0} (k : Kind S) (m : Model S) (t : ℕ) (row : ℕ → S) : Type 0 where
  pub within : (u : ℕ) → u < m.states → Within k (m.band t u) (row u)
  pub whole : Same k (total_below k row m.states) k.full

-- an exact row that gives nothing outside x
pub record RowInside {S : Type 0} (k : Kind S) (m : Model S) (x : ℕ → Bool) (t : ℕ) (row : ℕ → S) : Type 0 where
  pub exact : ExactRow k m t row
  pub outside : (u : ℕ) → u < m.states → IsFalse (x u) → IsNothing k (row u)
