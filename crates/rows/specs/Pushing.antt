-- Where GO goes to 24, read before the step.
--
--   to_push r  <=>  GO at the row r goes from 23 to 24.
--
-- Assumes nothing.
use Rattle.std.specs.Prelude.{Bool, ◌&&◌, not, eqb, ltb}
use Rattle.counting.specs.Sets.{size}
use Rattle.machine.specs.declared.Row.{Row}

-- at 23, with no fewer members in est than level says, and bb 0
abbrev pub to_push : Row → Bool
to_push r = eqb r.location 23 && (not (ltb (size r.est) r.level) && eqb r.bb 0)
