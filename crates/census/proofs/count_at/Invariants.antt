-- `count_at` meets its contract: how many of the rows passed are there, at each turn of the loop. Assumes nothing.
use mathlib.Core.Path.{◌≡◌}
use Rattle.counting.specs.Sums.{count}
use Rattle.machine.specs.Tables.{row}
use Rattle.census.specs.Series.{is_at}
use Rattle.census.proofs.count_at.Given as goal

abbrev pub invariant-loop-r : goal.invariant-loop-r
invariant-loop-r l = l.s ≡ count (λ i. is_at l.low l.high (row l.rows i)) l.r-index
