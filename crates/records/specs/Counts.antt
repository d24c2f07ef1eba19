-- How many of some records are bands, and how many are names.
use Rattle.std.specs.Prelude.{ℕ, ◌+◌, ◌-◌, ◌^◌, min, Bool, true, false, not, List, count_by}
use Rattle.records.specs.declared.counts.Counts.{Counts}
use Rattle.records.specs.Format.{Entry, band, name}

abbrev pub none_yet : Counts
none_yet = record { bands = 0; names = 0 }

-- one more, as far as 64 bits can say it
abbrev pub up_one : ℕ → ℕ
up_one n = min (n + 1) (2 ^ 64 - 1)

abbrev pub with_one : Counts → Entry → Counts
with_one c (band source target low high) = record { bands = up_one c.bands; names = c.names }
with_one c (name state place bytes) = record { bands = c.bands; names = up_one c.names }

abbrev pub is_band_entry : Entry → Bool
is_band_entry (band source target low high) = true
is_band_entry (name state place bytes) = false

abbrev pub is_name_entry : Entry → Bool
is_name_entry e = not (is_band_entry e)

abbrev pub counts_of : List Entry → Counts
counts_of es = record { bands = count_by is_band_entry es; names = count_by is_name_entry es }
