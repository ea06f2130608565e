-- Demand 3 whole: the theorems of Theorems.antt as one statement about the whole list, without settings and under them
-- (MANUAL, "The three demands", 3). Assumes nothing.
use Prim.Native.Nat.{ℕ, ◌≤◌}
use mathlib.Core.Path.{◌≡◌, sym, subst}
use mathlib.Core.Bool.{true}
use mathlib.Core.List.{List}
use lib.ListN.{length}
use Rattle.machine.specs.Tables.{Table, sound, fresh}
use Rattle.machine.specs.Steps.{after_words}
use Rattle.machine.specs.Settings.{list_under, accepted_of}
use Rattle.machine.specs.Census.{held, critical}
use Rattle.machine.specs.declared.Settings.{Settings}
use Rattle.machine.proofs.Soundness.{words_keep_length}
use Rattle.machine.proofs.FreshRows.{fresh-sound}
use Rattle.machine.proofs.SettingListTheorems.{accepted_list}
use Rattle.exclusion.proofs.Theorems.{at_most_k, at_most_one, stays_sound}

-- Demand 3 whole, one statement about the whole list: the table after it is sound, has as many processes as before,
-- holds at most k processes at k, for every k, and has at most one process at 30.
-- Excludes: as above; and a list that loses a process, or ends in a table of which the counts say nothing.
-- Not empty: `fresh_exists`.
pub exclusion : (t : Table) (ws : List ℕ)
    → fresh t ≡ true
    → (sound (after_words t ws) ≡ true)
    × (length (after_words t ws) ≡ length t)
    × ((k : ℕ) → held k (after_words t ws) ≤ k)
    × (critical (after_words t ws) ≤ 1)
exclusion t ws h = (stays_sound t ws (fresh-sound t h), words_keep_length t ws, at_most_k t ws h, at_most_one t ws h)

-- ---- under settings

-- Demand 3 whole under settings, the same statement for every one of them: a list under settings leads to the table
-- after its accepted words, given without settings (`accepted_list` of SettingListTheorems.antt).
-- Excludes: a setting under which a list brings two processes to 30, or k + 1 to be held at k.
-- Not empty: `fresh_exists`, and each setting accepts words (machine/proofs/SettingExamples.antt).
pub exclusion_under : (s : Settings) (t : Table) (ws : List ℕ)
    → fresh t ≡ true
    → (sound (list_under s t ws) ≡ true)
    × (length (list_under s t ws) ≡ length t)
    × ((k : ℕ) → held k (list_under s t ws) ≤ k)
    × (critical (list_under s t ws) ≤ 1)
exclusion_under s t ws h =
    subst
    (λ (u : Table). (sound u ≡ true) × (length u ≡ length t) × ((k : ℕ) → held k u ≤ k) × (critical u ≤ 1))
    (sym (accepted_list s t ws))
    (exclusion t (accepted_of s t ws) h)
