-- Shares: the whole numbers 0 to 1,048,576, and over, which lies above them. Their total is the sum.
use Rattle.std.specs.Prelude.{ℕ, ◌+◌, ◌-◌, min, max, Some, None, Option, nat_le, if◌then◌else◌}
use Rattle.amounts.specs.Kinds.{Kind}
use Rattle.amounts.specs.declared.bounds.Parts.{Parts}
use Rattle.amounts.specs.declared.shares.Share.{Share}

abbrev pub share : ℕ → Share
share n = record { number = n }

-- any number past full means over: this is the one that a total gives
abbrev pub over : ℕ
over = 1_048_577

-- the amount that a number means
abbrev pub amount : Share → ℕ
amount x = min x.number over

-- own gets its low, or what the others cannot take if that is more; the others get what is left
abbrev pub shares_out : ℕ → ℕ → ℕ → Parts Share
shares_out r low high = let given : ℕ = max low (r - high) in record { own = share given; others = share (r - given) }

abbrev pub shares : Kind Share
shares = record {
  nothing = share 0;
  full = share 1_048_576;
  grain = share 1;
  total = λ x y. share (min (x.number + y.number) over);
  at_most = λ x y. nat_le (amount x) (amount y);
  larger = λ x y. share (max x.number y.number);
  share_out = λ r own others. shares_out r.number own.low.number others.high.number;
}

-- in records 0 to full stand for themselves
abbrev pub share_of : ℕ → Option Share
share_of n = if nat_le n 1_048_576 then Some (share n) else None
