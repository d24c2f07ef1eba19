-- What an answer tells of the refusals that were looked for.
use Rattle.std.proofs.Common.{◌≡◌, Bool, true, false, cond, Some, None, Ok, Err, Option, arith}
use Rattle.std.proofs.lemmas.Bool.Decides.{nat_tests}
use Rattle.std.specs.Option.{option_or}
use Rattle.refusals.specs.declared.Refusal.{Refusal}
use Rattle.tables.specs.Left.{answered}

-- an answer tells which refusal applied
pub answered_ok : {A : Type 0} (o : Option Refusal) (a b : A) → Ok b ≡ answered o a → (o ≡ None) × (b ≡ a)
answered_ok o a b is = grind (arith, nat_tests)

pub answered_err : {A : Type 0} (o : Option Refusal) (a : A) (f : Refusal) → Err f ≡ answered o a → o ≡ Some f
answered_err o a f is = grind (arith, nat_tests)

pub both_none : {A : Type 0} (x y : Option A) → option_or x y ≡ None → (x ≡ None) × (y ≡ None)
both_none x y is = grind (arith, nat_tests)

pub not_refused : (c : Bool) (f : Refusal) → cond c (Some f) None ≡ None → c ≡ false
not_refused c f is = grind (arith, nat_tests)

pub not_refused_else : (c : Bool) (f : Refusal) → cond c None (Some f) ≡ None → c ≡ true
not_refused_else c f is = grind (arith, nat_tests)
