-- `counted` meets its contract. Assumes nothing.
use mathlib.Core.Path.{◌≡◌}
use Rattle.census.specs.Series.{below_from, held_from}
use Rattle.census.proofs.SeriesLaws.{series_of, critical_by}
use Rattle.census.proofs.counted.Given as goal

abbrev pub invariant-loop-r : goal.invariant-loop-r
invariant-loop-r l =
    (l.at_30 ≡ critical_by l.rows l.r-index)
    × (l.below ≡ series_of below_from l.rows l.r-index)
    × (l.held ≡ series_of held_from l.rows l.r-index)
