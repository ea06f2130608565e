-- `forget` meets its contract: the rows passed have forgotten p, at each turn of the loop. Assumes nothing.
use Rattle.std.proofs.Common.{◌≡◌, ◌++◌, map, take, drop}
use Rattle.machine.specs.Steps.{forgets}
use Rattle.tables.proofs.forget.Given as goal

abbrev pub invariant-loop-r : goal.invariant-loop-r
invariant-loop-r l =
    l.rows ≡ map (forgets l.p) (take l.r-index l.initial.rows) ++ drop l.r-index l.initial.rows
