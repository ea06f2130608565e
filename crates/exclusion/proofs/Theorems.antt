-- What is proved of lists of words: mutual exclusion and the counts (MANUAL, "The three demands", 3; MX and J0 of the
-- paper). The words here are those of the machine's definitions; the argument is in the other files.
--
-- Each theorem is about every list of words, of any length and of any numbers, given to the step one by one: the list
-- goes on past a refused word, which changes nothing. An engine that moves nobody would satisfy them; that the table
-- after the list is the one that the words name is demand 2, in machine/proofs. Controls.antt breaks near variants.
-- Assumes nothing.
use Prim.Native.Nat.{ℕ, ◌≤◌}
use mathlib.Core.Path.{◌≡◌}
use mathlib.Core.Bool.{true}
use mathlib.Core.List.{List}
use Rattle.machine.specs.Tables.{Table, sound, fresh, fresh_table}
use Rattle.machine.specs.Steps.{after_words}
use Rattle.machine.specs.Census.{held, critical}
use Rattle.machine.proofs.SoundRows.{sound-accepted, accepted-sound}
use Rattle.machine.proofs.Soundness.{words_keep_sound}
use Rattle.exclusion.proofs.Fresh.{fresh_table-fresh}
use Rattle.exclusion.proofs.Exclusion.{invariant_after, invariant_held, invariant_critical}

-- The counts (J0). After any list of words from a fresh table at most k processes are held at k, for every k.
-- Excludes: an engine that some list, refused words and flickers included, brings to k + 1 held processes, for any k,
-- at any number of processes; so also one whose bound holds for short lists or from one fresh table only.
-- Not empty: `fresh_exists`.
pub at_most_k : (t : Table) (ws : List ℕ) → fresh t ≡ true → (k : ℕ) → held k (after_words t ws) ≤ k
at_most_k t ws h = invariant_held (after_words t ws) (invariant_after t ws h)

-- Mutual exclusion (MX). After any list of words from a fresh table at most one process is at 30.
-- Excludes: an engine that lets two processes in, at whatever number of processes and after however many words.
-- Not empty: `fresh_exists`; the one is reached: `one_at_30` in Controls.antt.
pub at_most_one : (t : Table) (ws : List ℕ) → fresh t ≡ true → critical (after_words t ws) ≤ 1
at_most_one t ws h = invariant_critical (after_words t ws) (invariant_after t ws h)

-- A table stays sound, whatever sound table it is and whatever the words.
-- Excludes: an engine that leads to a table which it then refuses, so that the rest of the list is passed over.
-- Not empty: `fresh_exists`.
pub stays_sound : (t : Table) (ws : List ℕ) → sound t ≡ true → sound (after_words t ws) ≡ true
stays_sound t ws h = accepted-sound (after_words t ws) (words_keep_sound t ws (sound-accepted t h))

-- ---- the theorems are not empty

-- There is a fresh table of each number of processes from 2 to 16: the one that is made.
pub fresh_exists : (n : ℕ) → 2 ≤ n → n ≤ 16 → fresh (fresh_table n) ≡ true
fresh_exists = fresh_table-fresh
