-- How far a process is from leaving its level, from its row alone.
--
--   left r    ==  its own moves until it has decided at 23.
--   due n r   ==  its own moves, of n processes, until it has decided at 23 with bb set; with bb 0 it has to pass 24
--                 first.
--   phase n   ==  the most that is due of one of n processes: a scan, GO at 24, and another scan.
--
-- Assumes nothing.
use Prim.Native.Nat.{ℕ, ◌+◌, ◌*◌}
use mathlib.Core.Bool.{cond}
use lib.Dec.{eqb}
use Rattle.counting.specs.Sets.{size}
use Rattle.machine.specs.declared.Row.{Row}

-- one at 23; at 22 one for each member of lis, and two more; at 21 one for each member of est, and three more
abbrev pub left : Row → ℕ
left r =
    cond (eqb r.location 24) 0
    (cond (eqb r.location 23) 1
    (cond (eqb r.location 22) (size r.lis + 2) (size r.est + 3)))

-- from 24 on it takes n + 2 moves more, and GO at 24 is one
abbrev pub due : ℕ → Row → ℕ
due n r = left r + cond (eqb r.bb 0) (n + 3) 0

-- a scan takes at most n + 2 moves
abbrev pub phase : ℕ → ℕ
phase n = 2 * n + 5
