-- The line that tells of a refusal: its number, the index of the record, and its place.
use Rattle.std.specs.Prelude.{ℕ, List, ◌++◌, codes, decimal}
use Rattle.refusals.specs.Numbers.{number_of, place_of}
use Rattle.refusals.specs.declared.Refusal.{Refusal}

abbrev pub refused_text : ℕ → ℕ → ℕ → List ℕ
refused_text number index place =
    codes "refused " ++ (decimal number ++ (codes " record " ++ (decimal index ++ (codes " place " ++ (decimal place ++ codes "\n")))))

abbrev pub refused_line : Refusal → ℕ → List ℕ
refused_line refusal index = refused_text (number_of refusal) index (place_of refusal)
