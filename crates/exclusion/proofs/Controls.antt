-- Near variants of the theorems that are false, each by the words or the table that break it.
--
--   one_at_30, one_held    after `entry 0` process 0 is at 30: neither `critical ≤ 0` nor `held k < k` holds
--   two_past_30            one process is at 40 and one at 30: `critical` with 40 counted too is over 1
--   two_at_30              a sound table that is not fresh may have two processes at 30
--
-- Assumes nothing.
use Prim.Native.Nat.{ℕ, ◌-◌}
use mathlib.Core.Path.{◌≡◌, refl}
use mathlib.Core.Bool.{true}
use mathlib.Core.List.{List, [], ◌∷◌, ◌++◌}
use lib.Dec.{leb}
use lib.ListN.{replicate}
use Rattle.counting.specs.Sums.{count}
use Rattle.counting.specs.Sets.{has, size, without, others}
use Rattle.machine.specs.Rows.{idle, with_location}
use Rattle.machine.specs.Tables.{Table, sound, fresh_table, competitors}
use Rattle.machine.specs.Words.{COME, FLICKER, GO, LOOK, word_of}
use Rattle.machine.specs.Steps.{entered, started, looked, reconsidered, go_row, flickered, forgets, gone, allowed}
use Rattle.machine.specs.Steps.{argument_fits, after_words}
use Rattle.machine.specs.Census.{count_rows, held, critical}

-- process p of two goes from 10 to 30 while the other shows act 0
abbrev entry : ℕ → List ℕ
entry p =
    word_of COME p 0 ∷ word_of GO p 0 ∷ word_of GO p 0 ∷ word_of LOOK p (1 - p)
    ∷ word_of GO p 0 ∷ word_of GO p 0 ∷ word_of GO p 0 ∷ []

-- process 0 leaves, its act flickers to 0 at 40, and process 1 enters
abbrev follow : List ℕ
follow = entry 0 ++ (word_of GO 0 0 ∷ word_of FLICKER 0 0 ∷ entry 1)

-- what the step computes with, to unfold at once
unfoldable ran : List ℕ → Table
unfolding has size without others competitors allowed argument_fits after_words flickered
    gone go_row forgets entered started looked reconsidered
ran ws = after_words (fresh_table 2) ws

pub one_at_30 : critical (after_words (fresh_table 2) (entry 0)) ≡ 1
unfolding ran count
one_at_30 = refl

pub one_held : held 1 (after_words (fresh_table 2) (entry 0)) ≡ 1
unfolding ran count
one_held = refl

pub two_past_30 : count_rows (λ r. leb 30 r.location) (after_words (fresh_table 2) follow) ≡ 2
unfolding ran count
two_past_30 = refl

pub two_at_30 : let t = replicate 2 (with_location 30 idle) in (sound t ≡ true) × (critical t ≡ 2)
unfolding count sound
two_at_30 = (refl, refl)
