-- Small tables, computed from the definitions.
use Rattle.std.proofs.Common.{◌≡◌, ℕ, refl}
use Rattle.amounts.specs.Shares.{shares}
use Rattle.amounts.specs.declared.shares.Share.{Share}
use Rattle.tables.specs.Held.{band_in}
use Rattle.tables.specs.Left.{Left, opened, sized, banded, judged, rank_left}
use Rattle.tables.specs.declared.band.Band.{Band}
use Rattle.theory.specs.Models.{total_below, lowest_below}
use Rattle.theory.specs.Rounds.{standing, rank_within}

-- all of an amount passes from one state to another
abbrev pub all : ℕ → ℕ → Band Share
all s t = record { source = s; target = t; low = shares.full; high = shares.full }

abbrev pub line : Left Share
line = banded shares (sized (opened 1 2) 2 0) (all 0 1)

pub line_falls : rank_left shares (judged line) 0 ≡ 2
unfolding band_in total_below lowest_below standing rank_within
line_falls = refl

abbrev pub loop : Left Share
loop = banded shares (sized (opened 1 1) 1 0) (all 0 0)

pub loop_stands : rank_left shares (judged loop) 0 ≡ 0
unfolding band_in total_below lowest_below standing rank_within
loop_stands = refl
