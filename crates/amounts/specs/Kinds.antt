-- A kind of amount: its operations, and the six laws by which alone the engine knows it.
-- No law says that of two amounts one is at most the other.
use Rattle.std.specs.Prelude.{Bool, IsTrue}
use Rattle.amounts.specs.declared.bounds.Bounds.{Bounds}
use Rattle.amounts.specs.declared.bounds.Parts.{Parts}

pub record Kind (S : Type 0) : Type 0 where
  pub nothing : S
  pub full : S
  pub grain : S
  pub total : S → S → S
  pub at_most : S → S → Bool
  pub larger : S → S → S
  pub share_out : S → Bounds S → Bounds S → Parts S

-- x is at most y
pub record AtMost {S : Type 0} (k : Kind S) (x y : S) : Type 0 where
  pub holds : IsTrue (k.at_most x y)

-- x and y are the same amount: each is at most the other. Several numbers may stand for one amount, so this and not `≡` is the equality of amounts.
pub record Same {S : Type 0} (k : Kind S) (x y : S) : Type 0 where
  pub there : AtMost k x y
  pub back : AtMost k y x

abbrev pub IsNothing : {S : Type 0} → Kind S → S → Type 0
IsNothing k x = Same k x k.nothing

-- x lies from the low to the high bound
pub record Within {S : Type 0} (k : Kind S) (b : Bounds S) (x : S) : Type 0 where
  pub above : AtMost k b.low x
  pub below : AtMost k x b.high

-- the premise of law 6: r can be split within both pairs of bounds
pub record Shareable {S : Type 0} (k : Kind S) (r : S) (own others : Bounds S) : Type 0 where
  pub own_ordered : AtMost k own.low own.high
  pub others_ordered : AtMost k others.low others.high
  pub at_most_full : AtMost k r k.full
  pub lows : AtMost k (k.total own.low others.low) r
  pub highs : AtMost k r (k.total own.high others.high)

-- the conclusion of law 6: p splits r within both pairs of bounds
pub record SharedOut {S : Type 0} (k : Kind S) (r : S) (own others : Bounds S) (p : Parts S) : Type 0 where
  pub own_within : Within k own p.own
  pub others_within : Within k others p.others
  pub whole : Same k (k.total p.own p.others) r

pub record Laws {S : Type 0} (k : Kind S) : Type 0 where
  -- 1: the total is associative and commutative, and nothing is neutral
  pub total_assoc : (x y z : S) → Same k (k.total (k.total x y) z) (k.total x (k.total y z))
  pub total_comm : (x y : S) → Same k (k.total x y) (k.total y x)
  pub total_nothing : (x : S) → Same k (k.total k.nothing x) x
  -- 2: at most is a partial order (antisymmetric by what `Same` is), and nothing is at most every amount
  pub at_most_refl : (x : S) → AtMost k x x
  pub at_most_trans : (x y z : S) → AtMost k x y → AtMost k y z → AtMost k x z
  pub nothing_least : (x : S) → AtMost k k.nothing x
  -- 3: the total respects at most
  pub total_mono : (x y z : S) → AtMost k x y → AtMost k (k.total x z) (k.total y z)
  -- 4: the larger of two is the least amount that both are at most
  pub larger_left : (x y : S) → AtMost k x (k.larger x y)
  pub larger_right : (x y : S) → AtMost k y (k.larger x y)
  pub larger_least : (x y z : S) → AtMost k x z → AtMost k y z → AtMost k (k.larger x y) z
  -- 5: the grain is not nothing, and is at most every amount other than nothing
  pub grain_some : ¬ IsNothing k k.grain
  pub grain_least : (x : S) → ¬ IsNothing k x → AtMost k k.grain x
  -- 6: what can be split within both pairs of bounds, the share-out splits so
  pub share_out_lem : (r : S) (own others : Bounds S) → Shareable k r own others → SharedOut k r own others (k.share_out r own others)
