-- One step of one process, with the ahead sets and the passes, lists of words, and what a step tells (MANUAL, "Steps",
-- "Ahead sets", "Passes", "Lists of words", "Shared cells" and "The functions of the crates"). It is the step under 0
-- and 0; Settings.antt has the step under any settings, made of it.
--
--   go_row n p c v r    ==  row r of process p after GO, but for turn[level] and for what 30 forgets; c is the set of
--                           those that compete, v what turn[level] holds.
--   moved t k p a       ==  the table after kind k, process p and argument a, where they are allowed.
--   raised c l          ==  the counts l with one more over each process in the set c; raisable c l: none over 65,535.
--   overflows t k p     <=> kind k of process p would carry a count past 65,535.
--   refusal_at t k p a  ==  the first of 10, 11 and 15 that applies to kind k, process p and argument a, or 0.
--   word_refusal t w    ==  the first of 8 to 11 and 15 that applies to a word, or 0.
--   refusal_of t w      ==  the step's refusal: 6, 7, then the word's, or 0.
--   after_word t w      ==  the table after the step; the one given where the step refuses.
--   after_words t ws    ==  the table after a list of words, given one by one; a refused word is passed over.
--   event_of t w        ==  the event of an accepted word: a COME, an arrival at 30, a departure from 30, or none.
--   cell_of t w         ==  the shared cell that a word uses; none where it is refused.
--   told_of t w         ==  what the step tells of an accepted word; `quiet` is nothing, `with_x` sets a field.
--   answer_of t w       ==  the step's answer: what it tells of an accepted word, or the number of the refusal.
--   step_answer_of t w  ==  the step's answer to C.
--
-- Assumes nothing.
use Rattle.std.specs.Prelude.{ℕ, ◌+◌, ◌-◌, Bool, false, cond, ◌&&◌, ◌||◌, not, List, [], ◌∷◌, map, eqb, leb, ltb}
use Rattle.std.specs.Prelude.{length, get_or, set, Result, Ok, Err}
use Rattle.counting.specs.Sums.{bit}
use Rattle.counting.specs.Sets.{has, size, without, others}
use Rattle.counting.specs.Ranges.{up_to, every}
use Rattle.machine.specs.Refusals.{accepted, bad_kind, no_process, not_allowed, bad_argument, passes_full}
use Rattle.machine.specs.Rows.{with_location, with_act, with_bb, with_level, with_est, with_lis, with_ahead, with_turn}
use Rattle.machine.specs.Rows.{with_passes}
use Rattle.machine.specs.Tables.{Table, row, one_of, count_limit, table_refusal, competitors}
use Rattle.machine.specs.Words.{STAY, COME, FLICKER, GO, LOOK, CANCEL, kind_of, process_of, argument_of, formed}
use Rattle.machine.specs.Shared.{no_cell, cell_at}
use Rattle.machine.specs.declared.Row.{Row}
use Rattle.machine.specs.declared.Event.{Event}
use Rattle.machine.specs.declared.SharedCell.{SharedCell}
use Rattle.machine.specs.declared.Told.{Told}
use Rattle.machine.specs.declared.StepAnswer.{StepAnswer}

-- ---- the row of the process that moves

-- the count over process i, with one more where i is in the set c
abbrev pub count_after : ℕ → List ℕ → ℕ → ℕ
count_after c l i = get_or l i 0 + bit (has c i)

-- the sixteen counts so
unfoldable pub raised : ℕ → List ℕ → List ℕ
unfolding up_to
raised c l = up_to (count_after c l) 16

-- GO at 20: act 1, level n - 1, est all but p, to 21; ahead becomes c, those that compete, and p passes each of them
unfoldable pub entered : ℕ → ℕ → ℕ → Row → Row
unfolding raised
entered n p c r =
    with_location 21
    (with_act 1 (with_level (n - 1) (with_est (others n p) (with_ahead c (with_passes (raised c r.passes) r)))))

-- GO at 21: with a level above 0 lis becomes est, and a scan over lis starts at 22; else to 30
unfoldable pub started : Row → Row
started r = cond (ltb 0 r.level) (with_location 22 (with_lis r.est r)) (with_location 30 r)

-- LOOK at q, whose act is v: q leaves lis, and est too where v is 0
unfoldable pub looked : ℕ → ℕ → Row → Row
looked q v r = with_lis (without r.lis q) (with_est (cond (eqb v 0) (without r.est q) r.est) r)

-- GO at 23, the first that applies: est has fewer members than level; bb is 0; turn[level], which is v, is not p; else
unfoldable pub reconsidered : ℕ → ℕ → Row → Row
reconsidered p v r =
    cond (ltb (size r.est) r.level) (with_location 21 (with_bb 0 (with_level (size r.est) r)))
    (cond (eqb r.bb 0) (with_location 24 r)
    (cond (not (eqb v p)) (with_location 21 (with_bb 0 (with_level (r.level - 1) r)))
    (with_location 21 r)))

-- GO at 24, but for the turn cell: bb 1, est all but p, to 21; ahead becomes c, those that compete, less p
unfoldable pub pushed : ℕ → ℕ → ℕ → Row → Row
pushed n p c r = with_location 21 (with_bb 1 (with_est (others n p) (with_ahead (without c p) r)))

-- GO, the row of p; elsewhere than at the seven locations GO is not allowed
unfoldable pub go_row : ℕ → ℕ → ℕ → ℕ → Row → Row
go_row n p c v r =
    cond (eqb r.location 20) (entered n p c r)
    (cond (eqb r.location 21) (started r)
    (cond (eqb r.location 22) (with_location 23 r)
    (cond (eqb r.location 23) (reconsidered p v r)
    (cond (eqb r.location 24) (pushed n p c r)
    (cond (eqb r.location 30) (with_location 40 r)
    (cond (eqb r.location 40) (with_location 10 (with_act 0 r)) r))))))

-- ---- the table

-- turn[k] becomes v
unfoldable pub turned : ℕ → ℕ → Table → Table
turned k v t = set t k (with_turn v (row t k))

-- GO at 30, each row: p leaves ahead, and the passes over p are forgotten
unfoldable pub forgets : ℕ → Row → Row
forgets p r = with_ahead (without r.ahead p) (with_passes (set r.passes p 0) r)

-- FLICKER: at 24 turn[level] becomes a, elsewhere act of p
unfoldable pub flickered : Table → ℕ → ℕ → Table
flickered t p a =
    cond (eqb (row t p).location 24) (turned (row t p).level a t) (set t p (with_act a (row t p)))

-- GO: the row of p; then at 24 turn[level] becomes p, and at 30 each row forgets p
unfoldable pub gone : Table → ℕ → Table
gone t p =
    let r = row t p in
    let u = set t p (go_row (length t) p (competitors t) (row t r.level).turn r) in
    cond (eqb r.location 24) (turned r.level p u) (cond (eqb r.location 30) (map (forgets p) u) u)

-- COME: to 20
abbrev pub came : Table → ℕ → Table
came t p = set t p (with_location 20 (row t p))

-- CANCEL: p gives up at 20, while its act is still being written, and goes to 40; act keeps what a FLICKER left there
abbrev pub cancelled : Table → ℕ → Table
cancelled t p = set t p (with_location 40 (row t p))

-- every kind; a number that is none moves nothing
unfoldable pub moved : Table → ℕ → ℕ → ℕ → Table
moved t k p a =
    let seen = set t p (looked a (row t a).act (row t p)) in
    cond (eqb k STAY) t
    (cond (eqb k COME) (came t p)
    (cond (eqb k FLICKER) (flickered t p a)
    (cond (eqb k GO) (gone t p)
    (cond (eqb k LOOK) seen
    (cond (eqb k CANCEL) (cancelled t p) t)))))

-- ---- what refuses a word

-- kind k is allowed at a row
unfoldable pub allowed : ℕ → Row → Bool
allowed k r =
    let l = r.location in
    cond (eqb k STAY) (eqb l 10)
    (cond (eqb k COME) (eqb l 10)
    (cond (eqb k FLICKER) (one_of l (20 ∷ 40 ∷ 24 ∷ []))
    (cond (eqb k GO) (one_of l (20 ∷ 21 ∷ 23 ∷ 24 ∷ 30 ∷ 40 ∷ []) || (eqb l 22 && eqb r.lis 0))
    (cond (eqb k LOOK) (eqb l 22 && not (eqb r.lis 0))
    (cond (eqb k CANCEL) (eqb l 20) false)))))

-- a is an argument of kind k at a row, of n processes
unfoldable pub argument_fits : ℕ → ℕ → Row → ℕ → Bool
argument_fits n k r a =
    cond (eqb k FLICKER) (cond (eqb r.location 24) (ltb a n) (ltb a 2))
    (cond (eqb k LOOK) (has r.lis a) (eqb a 0))

-- each count, with one more over each process in c, is at most 65,535
unfoldable pub raisable : ℕ → List ℕ → Bool
unfolding every
raisable c l = every (λ i. leb (count_after c l i) count_limit) 16

-- kind k of process p would carry a count past 65,535: GO at 20 alone adds to counts
unfoldable pub overflows : Table → ℕ → ℕ → Bool
unfolding raisable
overflows t k p =
    eqb k GO && (eqb (row t p).location 20 && not (raisable (competitors t) (row t p).passes))

-- 0, or the first refusal of kind k with argument a where process p is
abbrev pub refusal_at : Table → ℕ → ℕ → ℕ → ℕ
refusal_at t k p a =
    cond (not (allowed k (row t p))) not_allowed
    (cond (not (argument_fits (length t) k (row t p) a)) bad_argument
    (cond (overflows t k p) passes_full accepted))

-- 0, or the first refusal of a word; a table has at most 16 processes, so one over 15 is not below its length
unfoldable pub word_refusal : Table → ℕ → ℕ
unfolding overflows
word_refusal t w =
    cond (not (formed w)) bad_kind
    (cond (not (ltb (process_of w) (length t))) no_process
    (refusal_at t (kind_of w) (process_of w) (argument_of w)))

-- ---- the step

unfoldable pub refusal_of : Table → ℕ → ℕ
unfolding table_refusal word_refusal
refusal_of t w = cond (eqb (table_refusal t) accepted) (word_refusal t w) (table_refusal t)

unfoldable pub after_word : Table → ℕ → Table
unfolding refusal_of moved
after_word t w =
    let u = moved t (kind_of w) (process_of w) (argument_of w) in
    cond (eqb (refusal_of t w) accepted) u t

unfoldable pub after_words : Table → List ℕ → Table
unfolding after_word
after_words t [] = t
after_words t (w ∷ ws) = after_words (after_word t w) ws

-- ---- the answer

-- there is nothing to tell
abbrev pub quiet : Told
quiet = record { event = Event.Quiet; cell = no_cell }

-- the same but for the event
abbrev pub with_event : Event → Told → Told
with_event e s = record { event = e; cell = s.cell }

-- the same but for the shared cell
abbrev pub with_cell : SharedCell → Told → Told
with_cell c s = record { event = s.event; cell = c }

-- the event of an accepted word: a COME; its process was elsewhere and is at 30 now; it was at 30 and is elsewhere now;
-- none of these
unfoldable pub event_of : Table → ℕ → Event
unfolding after_word
event_of t w =
    let before = (row t (process_of w)).location in
    let after = (row (after_word t w) (process_of w)).location in
    cond (eqb (kind_of w) COME) Event.Come
    (cond (not (eqb before 30) && eqb after 30) Event.Arrival
    (cond (eqb before 30 && not (eqb after 30)) Event.Departure Event.Quiet))

-- the shared cell that a word used: none on a refusal, act of q read or written, turn[k] read or written
unfoldable pub cell_of : Table → ℕ → SharedCell
unfolding refusal_of cell_at
cell_of t w =
    let used = cell_at (kind_of w) (process_of w) (argument_of w) (row t (process_of w)) in
    cond (eqb (refusal_of t w) accepted) used no_cell

abbrev pub told_of : Table → ℕ → Told
told_of t w = record { event = event_of t w; cell = cell_of t w }

unfoldable pub answer_of : Table → ℕ → Result Told ℕ
unfolding refusal_of event_of cell_of
answer_of t w =
    cond (eqb (refusal_of t w) accepted) (Ok (told_of t w)) (Err (refusal_of t w))

abbrev pub step_answer_of : Table → ℕ → StepAnswer
step_answer_of t w = record { refusal = refusal_of t w; cell = cell_of t w }
