-- `has_writer` meets its contract: none of the rows passed is at 24 with the level, at each turn of the loop.
-- Assumes nothing.
use mathlib.Core.Path.{◌≡◌}
use mathlib.Core.Bool.{false}
use Rattle.counting.specs.Ranges.{some}
use Rattle.machine.specs.Tables.{row}
use Rattle.machine.specs.Settings.{writes_turn}
use Rattle.tables.proofs.has_writer.Given as goal

abbrev pub invariant-loop-r : goal.invariant-loop-r
invariant-loop-r l = some (λ i. writes_turn l.k (row l.rows i)) l.r-index ≡ false
