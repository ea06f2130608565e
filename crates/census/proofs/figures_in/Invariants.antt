-- `figures_in` meets its contract. Assumes nothing.
use Rattle.std.proofs.Common.{◌≡◌, ◌+◌}
use Rattle.counting.proofs.RangeLaws.{filled}
use Rattle.census.specs.Series.{figure_at}
use Rattle.census.proofs.figures_in.Given as goal

abbrev pub invariant-loop-i : goal.invariant-loop-i
invariant-loop-i l = l.figures ≡ filled (figure_at l.n l.series) 17 (l.i + 1)
