-- Settings, evaluated: each of 16, 17 and 18 at its place, beside 11 and 15, before 12 and after 7; what each setting
-- leaves alone; runs and calls that they stop; and two words that may not be exchanged under one writer.
--
-- Assumes nothing.
use Prim.Native.Nat.{ℕ, ◌+◌}
use mathlib.Core.Path.{◌≡◌, refl}
use mathlib.Core.List.{List, [], ◌∷◌, ◌++◌, map}
use lib.ListN.{replicate}
use Rattle.counting.specs.Ranges.{up_to, every}
use Rattle.machine.specs.Rows.{idle, with_location, with_act, with_bb, with_level, with_est, with_passes}
use Rattle.machine.specs.Tables.{Table, fresh_table}
use Rattle.machine.specs.Shared.{no_cell}
use Rattle.machine.specs.Settings.{weakest, refusal_under, after_under, list_under, accepted_of, step_answer_under}
use Rattle.machine.specs.Runs.{Outcome, untaken, run_of}
use Rattle.machine.specs.Images
use Rattle.machine.specs.Bytes.{bytes_of}
use Rattle.machine.specs.Calls.{call_of}
use Rattle.machine.specs.declared.Row.{Row}
use Rattle.machine.specs.declared.Settings.{Settings}
use Rattle.machine.proofs.Benchmarks.{evaluated}

-- act first, then turn
abbrev both : ℕ → ℕ → Settings
both a u = record { act = a; turn = u }

-- the six settings: act 0 with turn 0, 1, 2, then act 1
abbrev all : List Settings
all = both 0 0 ∷ both 0 1 ∷ both 0 2 ∷ both 1 0 ∷ both 1 1 ∷ both 1 2 ∷ []

-- the refusals of a word under the six, in this order
pub refusals : Table → ℕ → List ℕ
unfolding evaluated
refusals t w = map (λ s. refusal_under s t w) all

-- a row at location l of level k, with process 0 or 1, or both, in est as e says
abbrev at : ℕ → ℕ → ℕ → Row
at l k e = with_location l (with_act 1 (with_level k (with_est e idle)))

-- ---- FLICKER

-- process 0 at 20, at 40 and at 24
abbrev flickering : ℕ → Table
flickering l = at l 1 2 ∷ idle ∷ []

-- act plain forbids those at 20 and 40, turn plain that at 24; one writer none
pub flicker_forbidden_at :
    (refusals (flickering 20) 0x30000001 ≡ 0 ∷ 0 ∷ 0 ∷ 16 ∷ 16 ∷ 16 ∷ [])
    × (refusals (flickering 40) 0x30000000 ≡ 0 ∷ 0 ∷ 0 ∷ 16 ∷ 16 ∷ 16 ∷ [])
    × (refusals (flickering 24) 0x30000001 ≡ 0 ∷ 0 ∷ 16 ∷ 0 ∷ 0 ∷ 16 ∷ [])
unfolding refusals evaluated
flicker_forbidden_at = (refl, refl, refl)

-- 11 comes first, where FLICKER is forbidden and where it is not; and so does 10
pub flicker_argument_first :
    (refusals (flickering 20) 0x30000002 ≡ replicate 6 11)
    × (refusals (flickering 24) 0x30000002 ≡ replicate 6 11)
    × (refusals (flickering 21) 0x30000000 ≡ replicate 6 10)
unfolding refusals evaluated
flicker_argument_first = (refl, refl, refl)

-- every word but FLICKER is as it is, at the same rows
pub others-allowed :
    (refusals (flickering 20) 0x40000000 ≡ replicate 6 0)
    × (refusals (flickering 20) 0x60000000 ≡ replicate 6 0)
    × (refusals (flickering 24) 0x40000000 ≡ replicate 6 0)
    × (refusals (flickering 40) 0x40000000 ≡ replicate 6 0)
unfolding refusals evaluated every
others-allowed = (refl, refl, refl, refl)

-- ---- GO from 23 to 24

-- process 0 at 23 of level k with est e, process 1 at location l of level m, process 2 rests
abbrev beside : ℕ → ℕ → ℕ → ℕ → Table
beside k e l m = at 23 k e ∷ at l m 1 ∷ idle ∷ []

-- one writer forbids it where process 1 is at 24 of the same level, and neither where that is of another level nor
-- where it is at 23
pub second_writer_forbidden :
    (refusals (beside 1 2 24 1) 0x40000000 ≡ 0 ∷ 17 ∷ 0 ∷ 0 ∷ 17 ∷ 0 ∷ [])
    × (refusals (beside 1 2 24 2) 0x40000000 ≡ replicate 6 0)
    × (refusals (beside 1 2 23 1) 0x40000000 ≡ replicate 6 0)
unfolding refusals evaluated
second_writer_forbidden = (refl, refl, refl)

-- only where the GO would really go to 24: not where est has fewer members than level, nor where bb is 1
pub only_from_23_to_24 :
    (refusals (beside 2 2 24 2) 0x40000000 ≡ replicate 6 0)
    × (refusals (with_bb 1 (at 23 1 2) ∷ at 24 1 1 ∷ idle ∷ []) 0x40000000 ≡ replicate 6 0)
unfolding refusals evaluated
only_from_23_to_24 = (refl, refl)

-- 11 comes first
pub go_argument_first : refusals (beside 1 2 24 1) 0x40000001 ≡ replicate 6 11
unfolding refusals evaluated
go_argument_first = refl

-- the process at 24 goes on, and may flicker where turn is not plain
pub first_writer_goes_on :
    (refusals (beside 1 2 24 1) 0x40010000 ≡ replicate 6 0)
    × (refusals (beside 1 2 24 1) 0x30010002 ≡ 0 ∷ 0 ∷ 16 ∷ 0 ∷ 0 ∷ 16 ∷ [])
unfolding refusals evaluated
first_writer_goes_on = (refl, refl)

-- ---- 15 is last

-- process 0 at 20 has passed process 1, which competes, 65,535 times
abbrev full : Table
full = with_passes (0 ∷ 65535 ∷ replicate 14 0) (at 20 1 2) ∷ at 24 1 1 ∷ []

-- its GO meets 15 under each setting; its FLICKER meets 16 and never 15
pub full_is_last :
    (refusals full 0x40000000 ≡ replicate 6 15)
    × (refusals full 0x30000001 ≡ 0 ∷ 0 ∷ 0 ∷ 16 ∷ 16 ∷ 16 ∷ [])
unfolding refusals evaluated every
full_is_last = (refl, refl)

-- ---- settings that do not fit

-- the refusal of COME of process 0 under settings, from a fresh table
pub fitting : Settings → ℕ
unfolding evaluated
fitting s = refusal_under s (fresh_table 2) 0x20000000

-- each is compared whole: 2 to the 8, 16 or 31 is no 0, and 2 to the 32 less 1 is no 1
pub other_values :
    map fitting (both 2 0 ∷ both 256 0 ∷ both 65536 0 ∷ both 0x80000000 1 ∷ both 0xffffffff 2 ∷ []) ≡ replicate 5 18
unfolding fitting evaluated
other_values = refl

pub other_turns :
    map fitting (both 0 3 ∷ both 0 4 ∷ both 1 256 ∷ both 1 65537 ∷ both 0 0x80000002 ∷ both 0 0xffffffff ∷ [])
    ≡ replicate 6 18
unfolding fitting evaluated
other_turns = refl

-- 6 and 7 come before 18, and 18 before 8
pub settings_after_table :
    (refusal_under (both 2 3) (idle ∷ []) 0x20000000 ≡ 6)
    × (refusal_under (both 2 3) (at 11 0 0 ∷ idle ∷ []) 0x20000000 ≡ 7)
    × (refusal_under (both 2 3) (fresh_table 2) 0 ≡ 18)
unfolding evaluated
settings_after_table = (refl, refl, refl)

-- ---- what a refused word leaves

pub forbidden_changes_nothing :
    (after_under (both 1 0) (flickering 20) 0x30000000 ≡ flickering 20)
    × (step_answer_under (both 1 0) (flickering 20) 0x30000000 ≡ record { refusal = 16; cell = no_cell })
    × (after_under (both 0 1) (beside 1 2 24 1) 0x40000000 ≡ beside 1 2 24 1)
    × (step_answer_under (both 0 1) (beside 1 2 24 1) 0x40000000 ≡ record { refusal = 17; cell = no_cell })
unfolding evaluated after_under
forbidden_changes_nothing = (refl, refl, refl, refl)

-- ---- runs, calls and lists

-- process 0 comes, flickers and enters
abbrev words : List ℕ
words = 0x20000000 ∷ 0x30000001 ∷ 0x40000000 ∷ []

-- the words taken, and the refusal
abbrev ends : Outcome → List ℕ
ends o = o.tally.words ∷ o.refusal ∷ []

pub run_stopped :
    map (λ s. ends (run_of s (fresh_table 2) words)) all
    ≡ (3 ∷ 0 ∷ []) ∷ (3 ∷ 0 ∷ []) ∷ (3 ∷ 0 ∷ []) ∷ (1 ∷ 16 ∷ []) ∷ (1 ∷ 16 ∷ []) ∷ (1 ∷ 16 ∷ []) ∷ []
unfolding evaluated every up_to
run_stopped = refl

-- 18 before 12, after 7; it leaves the table and a tally of zeros
pub run_settings :
    (run_of (both 0 3) (fresh_table 2) (replicate 8193 0x10000000) ≡ untaken (fresh_table 2) 18)
    × (run_of (both 0 2) (fresh_table 2) (replicate 8193 0x10000000) ≡ untaken (fresh_table 2) 12)
    × ((run_of (both 0 3) (at 11 0 0 ∷ idle ∷ []) words).refusal ≡ 7)
unfolding evaluated
run_settings = (refl, refl, refl)

-- from bytes: 18 after the image's checks and before 13; what is lent is as given
pub call_settings :
    (call_of (both 2 0) (bytes_of (Images.image_of (fresh_table 2) ++ words)) (replicate 55 7)
    ≡ record { number = 18; lent = replicate 55 7 })
    × ((call_of (both 2 0) (bytes_of (0x82000002 ∷ [])) (replicate 56 7)).number ≡ 1)
    × ((call_of (both 2 0) (1 ∷ []) (replicate 56 7)).number ≡ 14)
    × ((call_of (both 1 0) (bytes_of (Images.image_of (fresh_table 2) ++ words)) (replicate 56 7)).number ≡ 256 + 16)
unfolding evaluated up_to call_of
call_settings = (refl, refl, refl, refl)

-- a list goes on past a forbidden word: what is left of it is what is accepted
pub list_goes_on :
    (accepted_of (both 1 0) (fresh_table 2) words ≡ 0x20000000 ∷ 0x40000000 ∷ [])
    × (list_under (both 1 0) (fresh_table 2) words
    ≡ list_under weakest (fresh_table 2) (0x20000000 ∷ 0x40000000 ∷ []))
unfolding evaluated every up_to list_under accepted_of
list_goes_on = (refl, refl)

-- ---- one writer and the exchange of two words

-- two processes at 23 of one level, each about to go to 24: neither word uses a shared cell, each is accepted, and
-- after either the other meets 17
pub one_writer_exchange :
    let t = beside 1 2 23 1 in
    let s = both 0 1 in
    (step_answer_under s t 0x40000000 ≡ record { refusal = 0; cell = no_cell })
    × (step_answer_under s t 0x40010000 ≡ record { refusal = 0; cell = no_cell })
    × (refusal_under s (after_under s t 0x40000000) 0x40010000 ≡ 17)
    × (refusal_under s (after_under s t 0x40010000) 0x40000000 ≡ 17)
unfolding evaluated after_under
one_writer_exchange = (refl, refl, refl, refl)

-- under turn 0 and 2, act either, each goes after the other
pub others_exchange :
    let t = beside 1 2 23 1 in
    (refusals (after_under weakest t 0x40000000) 0x40010000 ≡ 0 ∷ 17 ∷ 0 ∷ 0 ∷ 17 ∷ 0 ∷ [])
    × (refusals (after_under weakest t 0x40010000) 0x40000000 ≡ 0 ∷ 17 ∷ 0 ∷ 0 ∷ 17 ∷ 0 ∷ [])
unfolding refusals evaluated after_under
others_exchange = (refl, refl)
