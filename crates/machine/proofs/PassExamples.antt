-- Passes, evaluated: where a count rises and where it is cleared; the word that would carry one past 65,535; tables
-- that are not sound or not fresh by their counts; two words in both orders. Their images are in ImageExamples.
--
-- The count at (q, r) is how often q entered while r competed: place r of the passes of row q. Assumes nothing.
use Prim.Native.Nat.{ℕ, ◌-◌}
use mathlib.Core.Path.{◌≡◌, refl}
use mathlib.Core.Bool.{true, false, not}
use mathlib.Core.List.{List, [], ◌∷◌, ◌++◌, map}
use lib.Dec.{eqb}
use lib.ListN.{length, take, replicate}
use Rattle.counting.specs.Sums.{bit}
use Rattle.machine.specs.Rows.{idle, with_location, with_act, with_bb, with_level, with_est, with_lis, with_passes}
use Rattle.machine.specs.Tables.{Table, locations, sound, table_refusal, fresh, fresh_table}
use Rattle.machine.specs.Shared.{but_history}
use Rattle.machine.specs.Steps.{refusal_of, after_word}
use Rattle.machine.specs.Settings.{weakest}
use Rattle.machine.specs.Runs.{run_of}
use Rattle.machine.specs.Images.{count_of}
use Rattle.machine.specs.declared.Row.{Row}
use Rattle.machine.proofs.Benchmarks.{evaluated}

-- a row at location l, with 0 in est, on a level that goes with it there
abbrev at : ℕ → Row
at l = with_location l (with_act 1 (with_level (bit (not (eqb l 30))) (with_est 1 idle)))

-- the row with these counts over 0, 1, .., and none over the others
abbrev passing : List ℕ → Row → Row
passing l r = with_passes (l ++ replicate (16 - length l) 0) r

-- the counts of a table, row by row, those for no process left out
abbrev counts : Table → List (List ℕ)
counts t = map (λ r. take (length t) r.passes) t

-- ---- a list of words

-- the count at (q, r) before words that are given one by one, and after each of them
pub along : ℕ → ℕ → Table → List ℕ → List ℕ
unfolding evaluated
along q r t [] = count_of t q r ∷ []
along q r t (w ∷ ws) = count_of t q r ∷ along q r (after_word t w) ws

abbrev twice : List ℕ
twice =
    -- 0 comes and enters, then 1
    0x20000000 ∷ 0x40000000 ∷ 0x20010000 ∷ 0x40010000
    -- 0 goes to 24, then 1, which writes turn[1]; and 0 writes it
    ∷ 0x40000000 ∷ 0x50000001 ∷ 0x40000000 ∷ 0x40000000
    ∷ 0x40010000 ∷ 0x50010000 ∷ 0x40010000 ∷ 0x40010000 ∷ 0x40010000 ∷ 0x40000000
    -- 1 goes to 30, to 40 and to 10, while 0 is at 21
    ∷ 0x40010000 ∷ 0x50010000 ∷ 0x40010000 ∷ 0x40010000 ∷ 0x40010000 ∷ 0x40010000 ∷ 0x40010000
    -- it comes and enters again, and goes on until it has written turn[1]
    ∷ 0x20010000 ∷ 0x40010000 ∷ 0x40010000 ∷ 0x50010000 ∷ 0x40010000 ∷ 0x40010000 ∷ 0x40010000
    -- 0 goes to 30 and leaves it
    ∷ 0x40000000 ∷ 0x50000001 ∷ 0x40000000 ∷ 0x40000000 ∷ 0x40000000 ∷ 0x40000000 ∷ []

-- each entry of 1 counts at (1, 0), its own leaving clears nothing there, and that of 0 does; at (0, 1) there is none,
-- since 1 did not compete when 0 entered; no word is refused
pub entered_twice :
    (along 1 0 (fresh_table 2) twice ≡ replicate 4 0 ++ replicate 19 1 ++ replicate 11 2 ++ (0 ∷ []))
    × (along 0 1 (fresh_table 2) twice ≡ replicate 35 0)
    × ((run_of weakest (fresh_table 2) twice).refusal ≡ 0)
unfolding evaluated along
entered_twice = (refl, refl, refl)

-- ---- where a count rises, and where it is cleared

-- process 0 competes, with a count of 5 over process 1, which is in this row, with a count of 3 over process 0
abbrev beside : Row → Table
beside r = passing (0 ∷ 5 ∷ []) (at 21) ∷ passing (3 ∷ []) r ∷ []

-- the words of process 1 that touch no count, each with a row where it is allowed
abbrev others : List (Row × ℕ)
others =
    -- STAY and COME at 10; FLICKER and CANCEL at 20
    (at 10, 0x10010000) ∷ (at 10, 0x20010000) ∷ (at 20, 0x30010000) ∷ (at 20, 0x60010000)
    -- GO at 21, to 22 and to 30; LOOK and GO at 22
    ∷ (at 21, 0x40010000) ∷ (with_level 0 (at 21), 0x40010000) ∷ (with_lis 1 (at 22), 0x50010000) ∷ (at 22, 0x40010000)
    -- GO at 23: est is empty; bb is 0; bb is 1
    ∷ (with_est 0 (at 23), 0x40010000) ∷ (at 23, 0x40010000) ∷ (with_bb 1 (at 23), 0x40010000)
    -- FLICKER and GO at 24; FLICKER and GO at 40
    ∷ (at 24, 0x30010001) ∷ (at 24, 0x40010000) ∷ (at 40, 0x30010000) ∷ (at 40, 0x40010000) ∷ []

-- GO at 20 adds one to the count of 1 over 0; GO at 30 clears that of 0 over 1; every other word leaves both
pub counted_at_20_cleared_at_30 :
    (counts (after_word (beside (at 20)) 0x40010000) ≡ (0 ∷ 5 ∷ []) ∷ (4 ∷ 0 ∷ []) ∷ [])
    × (counts (after_word (beside (at 30)) 0x40010000) ≡ (0 ∷ 0 ∷ []) ∷ (3 ∷ 0 ∷ []) ∷ [])
    × (map (λ x. counts (after_word (beside x.0) x.1)) others ≡ replicate 15 ((0 ∷ 5 ∷ []) ∷ (3 ∷ 0 ∷ []) ∷ []))
    × (map (λ x. refusal_of (beside x.0) x.1) others ≡ replicate 15 0)
unfolding evaluated
counted_at_20_cleared_at_30 = (refl, refl, refl, refl)

-- process 1 enters while process 0 is at each location in turn, 10, 20, 21, 22, 23, 24, 30, 40: it passes one that
-- competes
pub who_is_passed :
    map (λ l. count_of (after_word (at l ∷ at 20 ∷ []) 0x40010000) 1 0) locations
    ≡ 0 ∷ 0 ∷ 1 ∷ 1 ∷ 1 ∷ 1 ∷ 1 ∷ 0 ∷ []
unfolding evaluated
who_is_passed = refl

-- process 0 at 30, process 1 at 21, process 2 at 20, with six counts
abbrev three : Table
three = passing (0 ∷ 3 ∷ 4 ∷ []) (at 30) ∷ passing (5 ∷ 0 ∷ 6 ∷ []) (at 21) ∷ passing (7 ∷ 8 ∷ []) (at 20) ∷ []

-- 2 enters: one more at (2, 0) and at (2, 1), and none at (0, 2) or (1, 2); then 0 leaves: (1, 0) and (2, 0) are
-- cleared, all others kept
pub three_processes :
    (counts (after_word three 0x40020000) ≡ (0 ∷ 3 ∷ 4 ∷ []) ∷ (5 ∷ 0 ∷ 6 ∷ []) ∷ (8 ∷ 9 ∷ 0 ∷ []) ∷ [])
    × (counts (after_word (after_word three 0x40020000) 0x40000000)
    ≡ (0 ∷ 3 ∷ 4 ∷ []) ∷ (0 ∷ 0 ∷ 6 ∷ []) ∷ (0 ∷ 9 ∷ 0 ∷ []) ∷ [])
unfolding evaluated
three_processes = (refl, refl)

-- ---- past 65,535

-- process 0 at location l, process 1 at location m with a full count over it
abbrev full : ℕ → ℕ → Table
full l m = at l ∷ passing (65535 ∷ []) (at m) ∷ []

-- GO of process 1 at 20 meets 15 while 0 competes, and else it is accepted and leaves the count; in each case the count
-- is full afterwards
pub full_over_competitors :
    (map (λ l. refusal_of (full l 20) 0x40010000) locations ≡ 0 ∷ 0 ∷ 15 ∷ 15 ∷ 15 ∷ 15 ∷ 15 ∷ 0 ∷ [])
    × (map (λ l. count_of (after_word (full l 20) 0x40010000) 1 0) locations ≡ replicate 8 65535)
unfolding evaluated
full_over_competitors = (refl, refl)

-- GO of process 1 at each location: 15 at 20 alone
pub full_at_20_alone : map (λ m. refusal_of (full 21 m) 0x40010000) locations ≡ 10 ∷ 15 ∷ replicate 6 0
unfolding evaluated
full_at_20_alone = refl

-- 15 is the last of all: GO; its spare bit set; of no process; COME, which is not allowed at 20; GO with an argument.
-- And a row that is not sound, by its own count over itself
pub full_is_last :
    (map (refusal_of (full 21 20)) (0x40010000 ∷ 0x40010100 ∷ 0x40020000 ∷ 0x20010000 ∷ 0x40010001 ∷ [])
    ≡ 15 ∷ 8 ∷ 9 ∷ 10 ∷ 11 ∷ [])
    × (refusal_of (passing (1 ∷ []) (at 21) ∷ passing (65535 ∷ []) (at 20) ∷ []) 0x40010000 ≡ 7)
unfolding evaluated
full_is_last = (refl, refl)

-- FLICKER and CANCEL of process 1 are accepted there, and GO where the full count is that of 0 over 1
pub full_of_another :
    (map (refusal_of (full 21 20)) (0x30010001 ∷ 0x60010000 ∷ []) ≡ 0 ∷ 0 ∷ [])
    × (counts (after_word (passing (0 ∷ 65535 ∷ []) (at 21) ∷ at 20 ∷ []) 0x40010000)
    ≡ (0 ∷ 65535 ∷ []) ∷ (1 ∷ 0 ∷ []) ∷ [])
unfolding evaluated
full_of_another = (refl, refl)

-- process 2 at 20 has a full count over 1 and another over 0, both of which compete
abbrev one_full : Table
one_full = at 22 ∷ at 23 ∷ passing (8 ∷ 65535 ∷ []) (at 20) ∷ []

-- what is refused adds to no count
pub full_changes_nothing : (refusal_of one_full 0x40020000 ≡ 15) × (after_word one_full 0x40020000 ≡ one_full)
unfolding evaluated
full_changes_nothing = (refl, refl)

-- ---- sound, and fresh

-- 7 for a count of a process over itself, for one over process 2 or 15 of two, for one past 65,535, and for 15 or 17
-- counts; 65,535 is in range
pub counts_in_range :
    map table_refusal
    ((passing (1 ∷ []) idle ∷ idle ∷ [])
    ∷ (idle ∷ passing (0 ∷ 1 ∷ []) idle ∷ [])
    ∷ (passing (0 ∷ 0 ∷ 1 ∷ []) idle ∷ idle ∷ [])
    ∷ (idle ∷ passing (replicate 15 0 ++ (1 ∷ [])) idle ∷ [])
    ∷ (idle ∷ passing (65536 ∷ []) idle ∷ [])
    ∷ (idle ∷ with_passes (replicate 15 0) idle ∷ [])
    ∷ (idle ∷ with_passes (replicate 17 0) idle ∷ [])
    ∷ (passing (0 ∷ 65535 ∷ []) idle ∷ passing (65535 ∷ []) idle ∷ [])
    ∷ [])
    ≡ 7 ∷ 7 ∷ 7 ∷ 7 ∷ 7 ∷ 7 ∷ 7 ∷ 0 ∷ []
unfolding evaluated
counts_in_range = refl

-- the fresh table that is made is fresh; one with a count is sound and not fresh
pub fresh_without_counts :
    (fresh (fresh_table 2) ≡ true)
    × (fresh (fresh_table 16) ≡ true)
    × (sound (idle ∷ passing (1 ∷ []) idle ∷ []) ≡ true)
    × (fresh (idle ∷ passing (1 ∷ []) idle ∷ []) ≡ false)
unfolding fresh
fresh_without_counts = (refl, refl, refl, refl)

-- ---- two words in both orders

-- processes 0 and 1 at 20: GO of each
abbrev entering : Table
entering = at 20 ∷ at 20 ∷ []

abbrev in_order : Table → ℕ → ℕ → Table
in_order t v w = after_word (after_word t v) w

-- the one that enters last passes the other; history apart, the two orders lead to one table
pub both_pass :
    (counts (in_order entering 0x40000000 0x40010000) ≡ (0 ∷ 0 ∷ []) ∷ (1 ∷ 0 ∷ []) ∷ [])
    × (counts (in_order entering 0x40010000 0x40000000) ≡ (0 ∷ 1 ∷ []) ∷ (0 ∷ 0 ∷ []) ∷ [])
    × (but_history (in_order entering 0x40000000 0x40010000) ≡ but_history (in_order entering 0x40010000 0x40000000))
unfolding evaluated
both_pass = (refl, refl, refl)

-- with a full count of 1 over 0, both words are accepted at first, and one order meets 15: then 1 is still at 20
pub one_order_full :
    (map (refusal_of (full 20 20)) (0x40000000 ∷ 0x40010000 ∷ []) ≡ 0 ∷ 0 ∷ [])
    × (refusal_of (after_word (full 20 20) 0x40000000) 0x40010000 ≡ 15)
    × (map (λ r. r.location) (in_order (full 20 20) 0x40000000 0x40010000) ≡ 21 ∷ 20 ∷ [])
    × (map (λ r. r.location) (in_order (full 20 20) 0x40010000 0x40000000) ≡ 21 ∷ 21 ∷ [])
unfolding evaluated
one_order_full = (refl, refl, refl, refl)
