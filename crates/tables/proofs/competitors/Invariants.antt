-- `competitors` meets its contract: the set of the rows passed, at each turn of the loop. Assumes nothing.
use Rattle.std.proofs.Common.{◌≡◌}
use Rattle.counting.specs.Sets.{set_of}
use Rattle.machine.specs.Tables.{row, competes}
use Rattle.tables.proofs.competitors.Given as goal

abbrev pub invariant-loop-q : goal.invariant-loop-q
invariant-loop-q l = l.s ≡ set_of (λ i. competes (row l.rows i)) l.q
