-- Grades: the whole numbers of 32 bits. Their total is the larger.
use Rattle.std.specs.Prelude.{ℕ, min, max, Some, None, Option, nat_le, if◌then◌else◌}
use Rattle.amounts.specs.Kinds.{Kind}
use Rattle.amounts.specs.declared.grades.Grade.{Grade}

abbrev pub grade : ℕ → Grade
grade n = record { number = n }

abbrev pub higher_of : Grade → Grade → Grade
higher_of x y = grade (max x.number y.number)

abbrev pub lower_of : Grade → Grade → Grade
lower_of x y = grade (min x.number y.number)

abbrev pub grades : Kind Grade
grades = record {
  nothing = grade 0;
  full = grade 1_000;
  grain = grade 1;
  total = higher_of;
  at_most = λ x y. nat_le x.number y.number;
  larger = higher_of;
  share_out = λ r own others. record { own = lower_of own.high r; others = lower_of others.high r };
}

-- in records 0 to full stand for themselves
abbrev pub grade_of : ℕ → Option Grade
grade_of n = if nat_le n 1_000 then Some (grade n) else None
