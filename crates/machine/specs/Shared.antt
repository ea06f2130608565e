-- The shared cell that a step uses, and when two steps clash (MANUAL, "Shared cells"; the paper, section 3.2: act and
-- turn are its shared variables, all others are private to their process, and those of sections 3.4 and 4.1 are
-- history).
--
--   no_cell, act_read q, act_written q, turn_read k, turn_written k  ==  none; act of q or turn[k], read or written.
--   cell_at k p a r  ==   the cell that kind k of process p with argument a uses, where it is allowed at its row r.
--   clash c d       <=>  c and d are one cell, and one of the two writes it: a conflict of two steps.
--   present r       ==   a row but for the history in it, ahead and passes; but_history t: a table, row by row.
--   own r           ==   a row but for the shared cells in it, act and turn, and for that history.
--
-- Assumes nothing.
use Rattle.std.specs.Prelude.{ℕ, Bool, cond, ◌&&◌, ◌||◌, not, [], ◌∷◌, map, eqb, ltb}
use Rattle.counting.specs.Sets.{size}
use Rattle.machine.specs.Rows.{no_passes, with_act, with_ahead, with_turn, with_passes}
use Rattle.machine.specs.Tables.{Table, one_of}
use Rattle.machine.specs.Words.{FLICKER, GO, LOOK}
use Rattle.machine.specs.declared.Row.{Row}
use Rattle.machine.specs.declared.SharedCell.{SharedCell}

-- ---- cells

-- how a cell is used
abbrev pub READ : ℕ
READ = 1

abbrev pub WRITTEN : ℕ
WRITTEN = 2

-- the two shared variables
abbrev pub ACT : ℕ
ACT = 1

abbrev pub TURN : ℕ
TURN = 2

-- none; a refused word uses none
abbrev pub no_cell : SharedCell
no_cell = record { access = 0; variable = 0; index = 0 }

-- act of process q
abbrev pub act_read : ℕ → SharedCell
act_read q = record { access = READ; variable = ACT; index = q }

abbrev pub act_written : ℕ → SharedCell
act_written q = record { access = WRITTEN; variable = ACT; index = q }

-- turn[k]
abbrev pub turn_read : ℕ → SharedCell
turn_read k = record { access = READ; variable = TURN; index = k }

abbrev pub turn_written : ℕ → SharedCell
turn_written k = record { access = WRITTEN; variable = TURN; index = k }

-- ---- the cell of a step

-- GO at 23 asks for turn[level]: not where est has fewer members than level, nor where bb is 0
abbrev pub asks_turn : Row → Bool
asks_turn r = not (ltb (size r.est) r.level) && not (eqb r.bb 0)

-- FLICKER and GO at 20 and 40 write act of p, at 24 turn[level]
abbrev pub written_at : ℕ → Row → SharedCell
written_at p r =
    cond (one_of r.location (20 ∷ 40 ∷ [])) (act_written p)
    (cond (eqb r.location 24) (turn_written r.level) no_cell)

-- LOOK at a reads act of a; GO at 23 reads turn[level] where it asks for it, and the level is that before the step;
-- everything else uses none
unfoldable pub cell_at : ℕ → ℕ → ℕ → Row → SharedCell
cell_at k p a r =
    cond (eqb k LOOK) (act_read a)
    (cond (eqb k FLICKER) (written_at p r)
    (cond (eqb k GO) (cond (eqb r.location 23 && asks_turn r) (turn_read r.level) (written_at p r)) no_cell))

-- ---- two steps

-- act of one process, or turn of one level
abbrev pub same_cell : SharedCell → SharedCell → Bool
same_cell c d = eqb c.variable d.variable && eqb c.index d.index

abbrev pub is_written : SharedCell → Bool
is_written c = eqb c.access WRITTEN

-- both touch one cell and at least one writes it; where one of them uses none, the other's variable is another
abbrev pub clash : SharedCell → SharedCell → Bool
clash c d = same_cell c d && (is_written c || is_written d)

-- ---- what is not shared

-- a row but for the history in it: the ahead sets and the passes, of which no step reads anything into another variable
abbrev pub present : Row → Row
present r = with_ahead 0 (with_passes no_passes r)

-- the private variables of a process: location, bb, level, est and lis
abbrev pub own : Row → Row
own r = with_act 0 (with_turn 0 (present r))

abbrev pub but_history : Table → Table
but_history t = map present t
