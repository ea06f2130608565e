-- Shared cells, evaluated: words that clash, whose order matters; words that do not, whose order does not matter, ahead
-- sets and passes apart; the cell of every kind at every location where it is allowed; refused words, which have none;
-- the cell of a run, and cells as they are printed.
--
-- Each pair has the cells of both words, then whether they clash, then what the two orders lead to. Assumes nothing.
use Prim.Native.Nat.{ℕ}
use mathlib.Core.Path.{◌≡◌, refl}
use mathlib.Core.Bool.{Bool, true, false}
use mathlib.Core.List.{List, [], ◌∷◌, map}
use lib.ListN.{replicate}
use Rattle.machine.specs.Rows.{idle, with_location, with_act, with_bb, with_level, with_est, with_lis, with_turn}
use Rattle.machine.specs.Tables.{Table, row}
use Rattle.machine.specs.Shared.{no_cell, act_read, act_written, turn_read, turn_written, clash, but_history}
use Rattle.machine.specs.Steps.{refusal_of, after_word, cell_of}
use Rattle.machine.specs.Settings.{weakest}
use Rattle.machine.specs.Runs.{run_of}
use Rattle.machine.specs.Text.{digits, cell_text}
use Rattle.machine.specs.declared.Row.{Row}
use Rattle.machine.specs.declared.SharedCell.{SharedCell}
use Rattle.machine.proofs.Benchmarks.{evaluated}

-- what two words tell of a table
abbrev Tell : Table → ℕ → ℕ → SharedCell → SharedCell → Bool → Type 0
Tell t v w c d b = (cell_of t v ≡ c) × (cell_of t w ≡ d) × (clash (cell_of t v) (cell_of t w) ≡ b)

-- a figure of the table after v and then w, and after w and then v
abbrev Orders : {A : Type 0} → (Table → A) → Table → ℕ → ℕ → A → A → Type 0
Orders f t v w x y = (f (after_word (after_word t v) w) ≡ x) × (f (after_word (after_word t w) v) ≡ y)

-- ---- two words that clash

-- process 0 at 22 is to look at process 1, which writes its act at 20: LOOK of 0 at 1, FLICKER of 1 to 1
abbrev looking : Table
looking = with_location 22 (with_act 1 (with_level 1 (with_est 2 (with_lis 2 idle)))) ∷ with_location 20 idle ∷ []

-- 1 leaves est where it is seen with act 0
pub look_and_flicker :
    Tell looking 0x50000001 0x30010001 (act_read 1) (act_written 1) true
    × Orders (λ u. (row u 0).est) looking 0x50000001 0x30010001 0 2
unfolding evaluated cell_of
look_and_flicker = ((refl, refl, refl), (refl, refl))

-- process 0 at 23 asks for turn[1], which process 1 at 24 writes: GO of 0, FLICKER of 1 to 1
abbrev asking : Table
asking =
    with_location 23 (with_act 1 (with_bb 1 (with_level 1 (with_est 2 idle))))
    ∷ with_location 24 (with_act 1 (with_level 1 idle))
    ∷ []

-- 0 keeps its level where turn[1] is still 0
pub go_and_flicker :
    Tell asking 0x40000000 0x30010001 (turn_read 1) (turn_written 1) true
    × Orders (λ u. (row u 0).level) asking 0x40000000 0x30010001 1 0
unfolding evaluated cell_of
go_and_flicker = ((refl, refl, refl), (refl, refl))

-- ---- two words that do not

-- processes 0 and 1 at 20: GO of each
abbrev entering : Table
entering = with_location 20 idle ∷ with_location 20 idle ∷ []

-- the one that enters last has the other ahead and passes it, as PassExamples shows; apart from that it is the same
-- table
pub both_enter :
    Tell entering 0x40000000 0x40010000 (act_written 0) (act_written 1) false
    × Orders (λ u. map (λ r. r.ahead) u) entering 0x40000000 0x40010000 (0 ∷ 1 ∷ []) (2 ∷ 0 ∷ [])
    × (but_history (after_word (after_word entering 0x40000000) 0x40010000)
    ≡ but_history (after_word (after_word entering 0x40010000) 0x40000000))
unfolding evaluated cell_of
both_enter = ((refl, refl, refl), (refl, refl), refl)

-- process 1 at 20, process 2 at 24 on level 1, where turn[1] stands in the row of process 1
abbrev sharing : Table
sharing = idle ∷ with_location 20 idle ∷ with_location 24 (with_act 1 (with_level 1 idle)) ∷ []

-- FLICKER of turn[1] to 2 with a FLICKER of act of 1, and with its GO: other cells of one row
pub one_row_two_cells :
    Tell sharing 0x30020002 0x30010001 (turn_written 1) (act_written 1) false
    × (after_word (after_word sharing 0x30020002) 0x30010001 ≡ after_word (after_word sharing 0x30010001) 0x30020002)
    × Tell sharing 0x30020002 0x40010000 (turn_written 1) (act_written 1) false
    × (after_word (after_word sharing 0x30020002) 0x40010000 ≡ after_word (after_word sharing 0x40010000) 0x30020002)
unfolding evaluated cell_of
one_row_two_cells = ((refl, refl, refl), refl, (refl, refl, refl), refl)

-- both are there afterwards: turn[1] is 2, act of 1 is 1
pub one_row_both_written :
    Orders (λ u. (row u 1).turn ∷ (row u 1).act ∷ []) sharing 0x30020002 0x30010001 (2 ∷ 1 ∷ []) (2 ∷ 1 ∷ [])
unfolding evaluated
one_row_both_written = (refl, refl)

-- ---- every kind

-- process 1 of three in this row, with turn[2]
abbrev beside : ℕ → Row → Table
beside v r = idle ∷ r ∷ with_turn v idle ∷ []

-- at location l on level 2, with 0 and 2 in est
abbrev at : ℕ → Row
at l = with_location l (with_act 1 (with_level 2 (with_est 5 idle)))

-- GO at 23: est has one member; it has two, and bb is 0; bb is 1, and turn[2] is 0; turn[2] is 1
abbrev four : List Table
four =
    beside 0 (with_bb 1 (with_est 4 (at 23)))
    ∷ beside 0 (at 23)
    ∷ beside 0 (with_bb 1 (at 23))
    ∷ beside 1 (with_bb 1 (at 23))
    ∷ []

-- turn is told where it is asked for, with the level before the step, which falls to 1 in the first and the third
pub go_at_23 :
    (map (λ t. cell_of t 0x40010000) four ≡ no_cell ∷ no_cell ∷ turn_read 2 ∷ turn_read 2 ∷ [])
    × (map (λ t. (row (after_word t 0x40010000) 1).level) four ≡ 1 ∷ 2 ∷ 1 ∷ 2 ∷ [])
    × (map (λ t. (row (after_word t 0x40010000) 1).location) four ≡ 21 ∷ 24 ∷ 21 ∷ 21 ∷ [])
unfolding evaluated cell_of
go_at_23 = (refl, refl, refl)

-- the other words of process 1, at each location where they are allowed
abbrev words : List (Row × ℕ)
words =
    -- STAY and COME at 10
    (at 10, 0x10010000) ∷ (at 10, 0x20010000)
    -- FLICKER, GO and CANCEL at 20
    ∷ (at 20, 0x30010001) ∷ (at 20, 0x40010000) ∷ (at 20, 0x60010000)
    -- GO at 21, to 22 and to 30; LOOK at 0 and GO at 22
    ∷ (at 21, 0x40010000) ∷ (with_level 0 (at 21), 0x40010000) ∷ (with_lis 5 (at 22), 0x50010000) ∷ (at 22, 0x40010000)
    -- FLICKER and GO at 24, GO at 30, FLICKER and GO at 40
    ∷ (at 24, 0x30010002) ∷ (at 24, 0x40010000) ∷ (with_level 0 (at 30), 0x40010000)
    ∷ (at 40, 0x30010000) ∷ (at 40, 0x40010000) ∷ []

pub cell_of_each_kind :
    (map (λ x. cell_of (beside 0 x.0) x.1) words
    ≡ no_cell ∷ no_cell
    ∷ act_written 1 ∷ act_written 1 ∷ no_cell
    ∷ no_cell ∷ no_cell ∷ act_read 0 ∷ no_cell
    ∷ turn_written 2 ∷ turn_written 2 ∷ no_cell
    ∷ act_written 1 ∷ act_written 1 ∷ [])
    × (map (λ x. refusal_of (beside 0 x.0) x.1) words ≡ replicate 14 0)
unfolding evaluated cell_of
cell_of_each_kind = (refl, refl)

-- ---- refused

-- FLICKER at 20 to 2, which no act is, and to 1 in a table that is not sound, in which turn[2] names no process
pub refused_has_none :
    (refusal_of (beside 0 (at 20)) 0x30010002 ≡ 11)
    × (cell_of (beside 0 (at 20)) 0x30010002 ≡ no_cell)
    × (refusal_of (beside 3 (at 20)) 0x30010001 ≡ 7)
    × (cell_of (beside 3 (at 20)) 0x30010001 ≡ no_cell)
unfolding evaluated cell_of
refused_has_none = (refl, refl, refl, refl)

-- ---- runs and lines

-- FLICKER of turn[1], the last word; before a STAY at 24, which stops the run; after such a STAY; before a STAY of
-- process 0, which is taken and uses none; and no word
pub run_cells :
    ((run_of weakest sharing (0x30020002 ∷ [])).cell ≡ turn_written 1)
    × ((run_of weakest sharing (0x30020002 ∷ 0x10020000 ∷ [])).cell ≡ turn_written 1)
    × ((run_of weakest sharing (0x10020000 ∷ 0x30020002 ∷ [])).cell ≡ no_cell)
    × ((run_of weakest sharing (0x30020002 ∷ 0x10000000 ∷ [])).cell ≡ no_cell)
    × ((run_of weakest sharing []).cell ≡ no_cell)
unfolding evaluated
run_cells = (refl, refl, refl, refl, refl)

-- `-`, `ra3`, `wa0`, `rt1`, `wt15`
pub cell_texts :
    map cell_text (no_cell ∷ act_read 3 ∷ act_written 0 ∷ turn_read 1 ∷ turn_written 15 ∷ [])
    ≡ (45 ∷ []) ∷ (114 ∷ 97 ∷ 51 ∷ []) ∷ (119 ∷ 97 ∷ 48 ∷ []) ∷ (114 ∷ 116 ∷ 49 ∷ []) ∷ (119 ∷ 116 ∷ 49 ∷ 53 ∷ []) ∷ []
unfolding digits
cell_texts = refl
