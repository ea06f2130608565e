-- What is proved of rounds: a silence ends, and within how many rounds (MANUAL, "Rounds"). The words here are those of
-- the machine's definitions; the argument is in the other files.
--
-- A silence is a table with nobody at 30 and somebody at 20 to 24. Each theorem is about every number of processes at
-- once. Its premise `Unbroken` says that no GO at 20 of the first round meets 15; then no word of a later round is
-- refused either: `later_unbroken` in machine/proofs/RoundTheorems.antt. Nothing is said of words in another order, or
-- of who comes to 30. Assumes nothing.
use Prim.Native.Nat.{ℕ, ◌≤◌}
use mathlib.Core.Path.{◌≡◌, subst}
use mathlib.Core.Bool.{true}
use mathlib.Core.List.{List}
use lib.ListN.{length}
use Rattle.machine.specs.Tables.{Table, fresh}
use Rattle.machine.specs.Steps.{after_words}
use Rattle.machine.specs.Census.{critical}
use Rattle.machine.specs.Rounds.{rounds, Silent, Unbroken, silence_bound}
use Rattle.machine.proofs.Soundness.{words_keep_length}
use Rattle.silence.proofs.Steady.{Arrives}
use Rattle.silence.proofs.Kept.{steady_after}
use Rattle.silence.proofs.Silence.{within_bound}

-- A silence ends. After any list of words from a fresh table, if nobody is at 30, somebody is at 20 to 24 and the first
-- round is unbroken, some process is at 30 after r rounds, for an r of at most 2 n n + 3 n - 3, where n is the number
-- of processes.
-- Excludes: an engine that some list brings to a table from which rounds go on for ever with nobody at 30, refused
-- words, flickers and cancels included; a bound for some numbers of processes only, or from one fresh table only.
-- Not empty: `silence_there` and `silence_unbroken` in ExactTheorems.antt; and no smaller bound would do:
-- `silence_attained` there.
pub silence_ends : (t : Table) (ws : List ℕ) → fresh t ≡ true → Silent (after_words t ws) → Unbroken (after_words t ws)
    → (r : ℕ) × (r ≤ silence_bound (length t)) × (1 ≤ critical (rounds r (after_words t ws)))
silence_ends t ws h s whole =
    subst (λ (n : ℕ). Arrives (after_words t ws) (silence_bound n)) (words_keep_length t ws)
    (within_bound (after_words t ws) (steady_after t ws h) whole s.0 s.1)
