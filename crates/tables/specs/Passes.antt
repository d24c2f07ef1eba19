-- One pass over the held bands of a source, by which the engine finds the reason that the definition asks for.
use Rattle.std.specs.Prelude.{ℕ, Bool, not, List, [], ◌∷◌, Some, None, Option, ◌==◌, count_by, slice_index, if◌then◌else◌}
use Rattle.std.specs.Option.{option_or}
use Rattle.amounts.specs.Kinds.{Kind}
use Rattle.theory.specs.Consistency.{first_reason}
use Rattle.theory.specs.declared.reason.Reason.{Reason}
use Rattle.theory.specs.declared.reason.Reason.TheVariants.{Lost}
use Rattle.theory.specs.Rounds.{not_before}
use Rattle.tables.specs.declared.band.Band.{Band}
use Rattle.tables.specs.declared.reasons.Remaining.{Remaining}

-- the rank of a state, 0 if it stands
abbrev pub rank_in : List ℕ → ℕ → ℕ
rank_in ranks t = slice_index ranks t

-- the states that had not fallen before the round
abbrev pub remaining : Remaining → ℕ → Bool
remaining set = not_before (rank_in set.ranks.now) set.round

-- how many stand, by their ranks
abbrev pub standing_count : List ℕ → ℕ
standing_count ranks = count_by (λ r. r == 0) ranks

abbrev pub crossing : {S : Type 0} → Kind S → Band S → Option ℕ
crossing k b = if k.at_most b.low b.high then None else Some b.target

-- the reason, once no target is lost: the lowest crossed one and the totals are known
abbrev pub ended : {S : Type 0} → Kind S → Option ℕ → S → S → Option Reason
ended k crossed low high = first_reason None crossed (not (k.at_most low k.full)) (not (k.at_most k.full high))

-- the pass over the bands of s, where x is the set and the earlier bands came to `crossed`, `low` and `high`
unfoldable pub passed : {S : Type 0} → Kind S → (ℕ → Bool) → ℕ → Option ℕ → S → S → List (Band S) → Option Reason
passed k x s crossed low high [] = ended k crossed low high
passed k x s crossed low high (b ∷ bs) =
    if b.source == s
    then (if x b.target
    then passed k x s (option_or crossed (crossing k b)) (k.total low b.low) (k.total high b.high) bs
    else (if k.at_most b.low k.nothing then passed k x s crossed low high bs else Some (Lost b.target)))
    else ended k crossed low high
