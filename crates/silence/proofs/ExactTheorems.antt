-- The bound of Theorems.antt is attained: no fewer rounds would do, at any number of processes and from any fresh table
-- (MANUAL, "Rounds"). The words here are those of the machine's definitions; the argument is in the other files.
--
-- The longest silence begins where every process has come and none has gone on: `after_words t (all_coming (length t))`.
-- Assumes nothing.
use Prim.Native.Nat.{ℕ, ◌≤◌, ◌<◌}
use mathlib.Core.Path.{◌≡◌}
use mathlib.Core.Bool.{true}
use lib.ListN.{length}
use Rattle.machine.specs.Tables.{Table, fresh}
use Rattle.machine.specs.Steps.{after_words}
use Rattle.machine.specs.Census.{critical}
use Rattle.machine.specs.Rounds.{rounds, Unbroken, Silent, silence_bound, all_coming}
use Rattle.silence.proofs.LongestSilence.{come_silent, come_pending, come_unbroken, come_first}

-- The longest silence. From every fresh table, once each process has come, nobody is at 30 after any number of rounds
-- below `silence_bound`, and somebody is after just so many.
-- Excludes: a bound that is too large, even by one round, at some number of processes or from some fresh table; an
-- engine that brings a process to 30 sooner there, or later.
-- Not empty: `fresh_exists` in exclusion/proofs/Theorems.antt, at each number of processes from 2 to 16.
pub silence_attained : (t : Table)
    → fresh t ≡ true
    → ((r : ℕ)
    → r < silence_bound (length t)
    → critical (rounds r (after_words t (all_coming (length t)))) ≡ 0)
    × (1 ≤ critical (rounds (silence_bound (length t)) (after_words t (all_coming (length t)))))
silence_attained = come_first

-- That table is one of those of which the upper bound speaks: nobody is at 30, and somebody is pending.
-- Excludes: a longest silence that is none, since nobody waits in it, or somebody is at 30 already.
-- Not empty: as above.
pub silence_there : (t : Table) → fresh t ≡ true → Silent (after_words t (all_coming (length t)))
silence_there t h = (come_silent t h, come_pending t h)

-- And no word of its first round is refused.
-- Excludes: a longest silence that the engine's rounds do not go through, since a count meets 15 in it.
-- Not empty: as above.
pub silence_unbroken : (t : Table) → fresh t ≡ true → Unbroken (after_words t (all_coming (length t)))
silence_unbroken = come_unbroken
