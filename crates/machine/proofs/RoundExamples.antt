-- Rounds, evaluated: the word of each location, the order within a round, what rounds answer, also where a word meets
-- 15, and a sound table that no list of words makes, from which nobody comes to 30. Assumes nothing.
use Prim.Native.Nat.{ℕ}
use mathlib.Core.Path.{◌≡◌, refl}
use mathlib.Core.Bool.{true}
use mathlib.Core.List.{List, [], ◌∷◌, map}
use lib.ListN.{replicate}
use Rattle.counting.specs.Sets.{lowest, lowest_from}
use Rattle.counting.specs.Ranges.{up_to}
use Rattle.machine.specs.Rows.{idle, with_location, with_act, with_bb, with_level, with_est, with_lis, with_ahead}
use Rattle.machine.specs.Rows.{with_turn, with_passes}
use Rattle.machine.specs.Tables.{Table, locations, sound, fresh_table}
use Rattle.machine.specs.Steps.{after_words}
use Rattle.machine.specs.Census.{critical}
use Rattle.machine.specs.Rounds.{round_word, round_to, round, rounds, pending, round_limit, silence_bound, all_coming}
use Rattle.machine.specs.Rounds.{Rounded, rounds_from, rounds_of}
use Rattle.machine.specs.declared.Row.{Row}
use Rattle.machine.specs.declared.RoundsAnswer.{RoundsAnswer}
use Rattle.machine.proofs.Benchmarks.{evaluated}

-- rounds from a table; `unfolding completed` is enough to compute them
unfoldable completed : Table → Rounded
unfolding evaluated rounds_of rounds_from round round_to round_word lowest lowest_from
completed t = rounds_of t

pub locations_of : Table → List ℕ
locations_of t = map (λ r. r.location) t

abbrev answers : ℕ → ℕ → ℕ → RoundsAnswer
answers refusal r o = record { refusal = refusal; rounds = r; occupied = o }

-- ---- the word of a round

pub lowest_members : map lowest (0 ∷ 1 ∷ 6 ∷ 40 ∷ 32768 ∷ 65535 ∷ []) ≡ 0 ∷ 0 ∷ 1 ∷ 3 ∷ 15 ∷ 0 ∷ []
unfolding completed
lowest_members = refl

-- process 1 of three at location l, with lis s
abbrev placed_at : ℕ → ℕ → Table
placed_at l s = idle ∷ with_location l (with_lis s idle) ∷ idle ∷ []

-- STAY at 10, whatever lis is; LOOK at 22 alone, at the lower of two members; GO elsewhere
pub word_at_each :
    (map (λ l. round_word (placed_at l 5) 1) (10 ∷ 20 ∷ 21 ∷ 22 ∷ 23 ∷ 24 ∷ 30 ∷ 40 ∷ [])
    ≡ 0x10010000 ∷ 0x40010000 ∷ 0x40010000 ∷ 0x50010000 ∷ 0x40010000 ∷ 0x40010000 ∷ 0x40010000 ∷ 0x40010000 ∷ [])
    × (map (λ s. round_word (placed_at 22 s) 1) (0 ∷ 4 ∷ 6 ∷ []) ≡ 0x40010000 ∷ 0x50010002 ∷ 0x50010001 ∷ [])
unfolding completed
word_at_each = (refl, refl)

-- process 0 looks at process 1 before it shows act, and discards it; process 2 looks after that, and keeps it
pub in_number_order :
    map (λ r. r.est)
    (round
    (with_location 22 (with_act 1 (with_level 2 (with_est 6 (with_lis 2 idle))))
    ∷ with_location 20 idle
    ∷ with_location 22 (with_act 1 (with_level 2 (with_est 3 (with_lis 2 idle))))
    ∷ []))
    ≡ 4 ∷ 5 ∷ 3 ∷ []
unfolding completed
in_number_order = refl

-- ---- what rounds answer

-- process 0 goes to 30, and process 1 is given its word all the same: a round is not cut short
pub to_the_end_of_a_round :
    ((rounds_of (with_location 21 (with_act 1 idle) ∷ with_location 20 idle ∷ [])).answer ≡ answers 0 1 1)
    × (locations_of (rounds_of (with_location 21 (with_act 1 idle) ∷ with_location 20 idle ∷ [])).table ≡ 30 ∷ 21 ∷ [])
unfolding locations_of completed
to_the_end_of_a_round = (refl, refl)

-- somebody at 30 beforehand, though somebody is at 20 as well; nobody at 20 to 24 nor at 30, and who is at 40 stays
pub no_round :
    ((rounds_of (with_location 20 idle ∷ with_location 30 (with_act 1 idle) ∷ [])).answer ≡ answers 0 0 1)
    × ((rounds_of (with_location 40 idle ∷ with_location 30 (with_act 1 idle) ∷ [])).answer ≡ answers 0 0 1)
    × ((rounds_of (with_location 40 (with_act 1 idle) ∷ idle ∷ [])).answer ≡ answers 0 0 0)
    × (locations_of (rounds_of (with_location 40 (with_act 1 idle) ∷ idle ∷ [])).table ≡ 40 ∷ 10 ∷ [])
    × ((rounds_of (fresh_table 2)).answer ≡ answers 0 0 0)
unfolding locations_of completed
no_round = (refl, refl, refl, refl, refl)

-- two at 30 are told as one is
pub two_at_30_occupy : (rounds_of (with_location 30 idle ∷ with_location 30 idle ∷ [])).answer ≡ answers 0 0 1
unfolding completed
two_at_30_occupy = refl

-- one of two processes at each location in turn, 10, 20, 21, 22, 23, 24, 30, 40, the other at 10: whether it is pending
pub who_is_pending :
    map (λ l. pending (with_location l idle ∷ idle ∷ [])) locations ≡ 0 ∷ 1 ∷ 1 ∷ 1 ∷ 1 ∷ 1 ∷ 0 ∷ 0 ∷ []
unfolding completed
who_is_pending = refl

-- who is at 20 counts, though the census does not yet count it as waiting
pub alone_from_20 : (rounds_of (with_location 20 idle ∷ idle ∷ [])).answer ≡ answers 0 6 1
unfolding completed
alone_from_20 = refl

-- one row, and act 2, with nobody at 30 and with somebody; the rows stay
pub rounds_refused :
    ((rounds_of (with_location 20 idle ∷ [])).answer ≡ answers 6 0 0)
    × ((rounds_of (with_location 30 idle ∷ [])).answer ≡ answers 6 0 0)
    × ((rounds_of (with_location 20 (with_act 2 idle) ∷ idle ∷ [])).answer ≡ answers 7 0 0)
    × ((rounds_of (with_location 30 idle ∷ with_act 2 idle ∷ [])).answer ≡ answers 7 0 0)
    × ((rounds_of (with_location 20 (with_act 2 idle) ∷ idle ∷ [])).table ≡ with_location 20 (with_act 2 idle) ∷ idle ∷ [])
unfolding completed
rounds_refused = (refl, refl, refl, refl, refl)

-- ---- a word that meets 15

-- sixteen counts: k over process 0 and none over the others
abbrev over_zero : ℕ → List ℕ
over_zero k = k ∷ replicate 15 0

-- at 20, with that count over process 0
abbrev entering : ℕ → Row
entering k = with_location 20 (with_passes (over_zero k) idle)

-- process 0 goes from 20, process 1 is at the limit over it and meets 15, process 2 is given no word, though its own
-- would be accepted: the word of process 0 is kept, no round is counted, nobody is at 30
pub round-broken :
    ((rounds_of (entering 0 ∷ entering 65535 ∷ with_location 40 idle ∷ [])).answer ≡ answers 15 0 0)
    × (locations_of (rounds_of (entering 0 ∷ entering 65535 ∷ with_location 40 idle ∷ [])).table ≡ 21 ∷ 20 ∷ 40 ∷ [])
    × (map (λ r. r.passes) (rounds_of (entering 0 ∷ entering 65535 ∷ [])).table ≡ over_zero 0 ∷ over_zero 65535 ∷ [])
unfolding locations_of completed
round-broken = (refl, refl, refl)

-- process 0 comes to 30 in the round that is broken, which is told; it counts as competing there
pub occupied_when_broken :
    ((rounds_of (with_location 21 (with_act 1 idle) ∷ entering 65535 ∷ [])).answer ≡ answers 15 0 1)
    × (locations_of (rounds_of (with_location 21 (with_act 1 idle) ∷ entering 65535 ∷ [])).table ≡ 30 ∷ 20 ∷ [])
unfolding locations_of completed
occupied_when_broken = (refl, refl)

-- one below the limit there is room, and so there is at the limit over a process that does not compete; where somebody
-- is at 30 beforehand, no word is given
pub not_broken :
    ((rounds_of (with_location 21 (with_act 1 idle) ∷ entering 65534 ∷ [])).answer ≡ answers 0 1 1)
    × (map (λ r. r.passes) (rounds_of (with_location 21 (with_act 1 idle) ∷ entering 65534 ∷ [])).table
    ≡ over_zero 0 ∷ over_zero 65535 ∷ [])
    × ((rounds_of (idle ∷ entering 65535 ∷ [])).answer ≡ answers 0 6 1)
    × ((rounds_of (with_location 30 (with_act 1 idle) ∷ entering 65535 ∷ [])).answer ≡ answers 0 0 1)
unfolding completed
not_broken = (refl, refl, refl, refl)

-- process 0 is at 20 and shows act after a FLICKER, and process 1 waits for it. Words lead there from a fresh table,
-- with the cycle of section 4.1 of the paper done 65,535 times (tests/c/call.c)
abbrev waited_for : Table
waited_for =
    with_location 20 (with_act 1 (with_est 2 (with_ahead 2 (with_passes (0 ∷ 65535 ∷ replicate 14 0) idle))))
    ∷ with_location 21 (with_act 1 (with_bb 1 (with_level 1 (with_est 1 (with_turn 1 idle)))))
    ∷ []

-- if rounds went on past the word that meets 15, nobody would ever come to 30: that the first round is unbroken is
-- needed
pub broken_rounds_end_nothing :
    (map (λ r. critical (rounds r waited_for)) (0 ∷ 1 ∷ 2 ∷ 3 ∷ []) ≡ 0 ∷ 0 ∷ 0 ∷ 0 ∷ [])
    × (rounds 4 waited_for ≡ waited_for)
    × ((rounds_of waited_for).answer ≡ answers 15 0 0)
unfolding completed rounds
broken_rounds_end_nothing = (refl, refl, refl)

-- ---- the longest silence

pub bounds :
    (map silence_bound (2 ∷ 3 ∷ 16 ∷ []) ≡ 11 ∷ 24 ∷ 557 ∷ [])
    × (map round_limit (2 ∷ 3 ∷ 16 ∷ []) ≡ 80 ∷ 216 ∷ 19456 ∷ [])
bounds = (refl, refl)

-- all of two, and of three, come
pub rounds_of_two :
    ((rounds_of (after_words (fresh_table 2) (all_coming 2))).answer ≡ answers 0 11 1)
    × (locations_of (rounds_of (after_words (fresh_table 2) (all_coming 2))).table ≡ 30 ∷ 22 ∷ [])
    × ((rounds_of (after_words (fresh_table 3) (all_coming 3))).answer ≡ answers 0 24 1)
unfolding locations_of completed after_words up_to
rounds_of_two = (refl, refl, refl)

-- ---- a table that no list of words makes

-- process 0 waits for process 1, which rests and shows act all the same
abbrev stuck : Table
stuck =
    with_location 21 (with_act 1 (with_bb 1 (with_level 1 (with_est 2 idle)))) ∷ with_act 1 idle ∷ []

-- it is sound, nobody is at 30 and somebody is pending, and the limit is used up: that a list of words made the table
-- is needed
pub rounds_used_up :
    (sound stuck ≡ true)
    × (critical stuck ≡ 0)
    × (pending stuck ≡ 1)
    × ((rounds_of stuck).answer ≡ answers 0 80 0)
unfolding completed sound
rounds_used_up = (refl, refl, refl, refl)
