-- Demand 2 for the step, as a reader opens it: every statement in full, each proved in the file that is named with it.
--
-- Section 3.2 of the paper and this one move, CANCEL, are the relation `Step` of System.antt, which does not use the
-- step of Steps.antt; `after_word` and `refusal_of` are that step. `step_word p x` is the word that stands for the step x
-- of p.
-- `sound t` is a well-formed table of 2 to 16 processes.
--
-- Assumes nothing.
use Prim.Native.Nat.{ℕ, ◌<◌}
use mathlib.Core.Path.{◌≡◌, subst}
use mathlib.Core.Bool.{true}
use mathlib.Core.Logic.{◌≢◌, ◌⊎◌}
use mathlib.Core.List.{List}
use lib.ListN.{length, get_or}
use Rattle.machine.specs.Tables.{Table, row, sound, table_refusal, competes}
use Rattle.machine.specs.Words.{Fields, FLICKER, GO, kind_of, process_of, argument_of, word_of, apart, together}
use Rattle.machine.specs.Steps.{refusal_of, after_word, after_words}
use Rattle.machine.specs.System.{Step, step_word}
use Rattle.std.specs.Prelude.{Ok}
use Rattle.machine.proofs.SoundRows.{sound-accepted, accepted-sound}
use Rattle.machine.proofs.Accepted as Accepted
use Rattle.machine.proofs.Soundness as Soundness
use Rattle.machine.proofs.OneWord as OneWord
use Rattle.machine.proofs.SameOutcome as SameOutcome
use Rattle.machine.proofs.RoundLaws.{has_step}
use Rattle.machine.proofs.FullLaws as FullLaws
use Rattle.machine.proofs.WordLaws as WordLaws

-- ---- the step is the system

-- An accepted word is the word of a step of the system, by the process that it names, from a sound table.
-- Excludes: est left as it is by GO at 24; turn read before est at 23; ahead cleared at 40; a FLICKER that moves, or
-- that leaves another value than it says; a CANCEL that clears act, or that is taken at 21.
-- Not empty: `accepted_word_exists`. Proved in Accepted.antt and OneWord.antt.
pub word_is_step : (t : Table) (w : ℕ)
    → refusal_of t w ≡ 0
    → (sound t ≡ true)
    × (process_of w < length t)
    × (x : Step t (process_of w) (after_word t w))
    × (step_word (process_of w) x ≡ w)
word_is_step t w z =
    let x = OneWord.word_step t w z in
    (accepted-sound t (Accepted.accepted_table t w z), Accepted.accepted_process t w z, x.0, x.1)

-- A refused word changes nothing, whatever the table.
-- Excludes: a refused word that moves, or that leaves another table. Proved in Accepted.antt.
pub refused_word_changes_nothing : (t : Table) (w : ℕ) → refusal_of t w ≢ 0 → after_word t w ≡ t
refused_word_changes_nothing = Accepted.refused_same

-- Every step of a process of a sound table is what its word does, and no other word of that process; or its word is the
-- one that meets 15, since it would carry a count past 65,535. Which steps these are, `full_word` says.
-- Excludes: an engine that accepts each word and moves nobody, one that refuses every word, or every CANCEL, one in
-- which two choices of a process have each other's words, and two words for one choice (an argument or a spare bit that
-- is not looked at).
-- Not empty: `process_has_step`. Proved in OneWord.antt.
pub one_word : (t u : Table) (p : ℕ)
    → sound t ≡ true
    → p < length t
    → (x : Step t p u)
    → ((process_of (step_word p x) ≡ p)
    × (refusal_of t (step_word p x) ≡ 0)
    × (after_word t (step_word p x) ≡ u)
    × ((v : ℕ) → process_of v ≡ p → refusal_of t v ≡ 0 → after_word t v ≡ u → v ≡ step_word p x))
    ⊎ ((process_of (step_word p x) ≡ p) × (refusal_of t (step_word p x) ≡ 15))
one_word = OneWord.one_word

-- A word meets 15 just where nothing else refuses it, it is GO of a process at 20, and a count of that process over one
-- that competes is 65,535.
-- Excludes: 15 at 65,534; 15 for a count over a process that does not compete; 15 before 11; an engine that refuses
-- every entry so. Proved in FullLaws.antt.
pub full_word : (t : Table) (w : ℕ)
    → refusal_of t w ≡ 15
    → (sound t ≡ true)
    × (w ≡ word_of GO (process_of w) 0)
    × ((row t (process_of w)).location ≡ 20)
    × (q : ℕ) × (competes (row t q) ≡ true) × (get_or (row t (process_of w)).passes q 0 ≡ 65535)
full_word = FullLaws.full_word

pub word_full : (t : Table) (p q : ℕ)
    → sound t ≡ true
    → p < length t
    → (row t p).location ≡ 20
    → competes (row t q) ≡ true
    → get_or (row t p).passes q 0 ≡ 65535
    → refusal_of t (word_of GO p 0) ≡ 15
word_full = FullLaws.word_full

-- How far that goes: different words that are accepted with the same outcome are of different processes, and either
-- nothing changed (each process stays at 10, or flickers to the value that is there), or both are FLICKERs at 24 of the
-- turn cell of the same level to the same value.
-- Excludes: a third kind of coincidence, such as two processes that look, enter or leave. Proved in SameOutcome.antt.
pub same_outcome : (t : Table) (v w : ℕ)
    → v ≢ w
    → refusal_of t v ≡ 0
    → refusal_of t w ≡ 0
    → after_word t v ≡ after_word t w
    → (process_of v ≢ process_of w)
    × ((after_word t v ≡ t)
    ⊎ ((kind_of v ≡ FLICKER)
    × (kind_of w ≡ FLICKER)
    × ((row t (process_of v)).location ≡ 24)
    × ((row t (process_of w)).location ≡ 24)
    × ((row t (process_of v)).level ≡ (row t (process_of w)).level)
    × (argument_of v ≡ argument_of w)))
same_outcome = SameOutcome.same_outcome

-- ---- nobody is stuck

-- Every process of a sound table has a step.
-- Excludes: premises above that nothing meets. Proved in RoundLaws.antt: it has the step of a round.
pub process_has_step : (t : Table) (p : ℕ) → sound t ≡ true → p < length t → (u : Table) × Step t p u
process_has_step t p h l = has_step t p (sound-accepted t h) l

-- So it has a word that is accepted: at 20, where GO may meet 15, CANCEL is.
pub accepted_word_exists : (t : Table) (p : ℕ)
    → sound t ≡ true
    → p < length t
    → (w : ℕ) × (process_of w ≡ p) × (refusal_of t w ≡ 0)
accepted_word_exists t p h l = FullLaws.some_word t p h l

-- ---- tables stay sound

-- A step of the system whose word is not refused with 15 keeps a table sound, every step keeps its number of processes,
-- and lists of words keep both.
-- Excludes: level N on entry, a turn that names no process, a level 0 at 22 to 24, a count past 65,535, a process that
-- passes itself. Proved in Soundness.antt.
pub step_keeps_sound : (t u : Table) (p : ℕ)
    → sound t ≡ true
    → p < length t
    → (x : Step t p u)
    → refusal_of t (step_word p x) ≢ 15
    → sound u ≡ true
step_keeps_sound t u p h l x ne =
    let o = OneWord.unless_full x (OneWord.one_word t u p h l x) ne in
    accepted-sound u
    (subst (λ (v : Table). table_refusal v ≡ 0) o.2
    (Soundness.word_keeps_sound t (step_word p x) (sound-accepted t h)))

pub step_keeps_length : (t u : Table) (p : ℕ) → Step t p u → length u ≡ length t
step_keeps_length = Soundness.step_keeps_length

pub words_keep_sound : (t : Table) (ws : List ℕ)
    → sound t ≡ true
    → (sound (after_words t ws) ≡ true) × (length (after_words t ws) ≡ length t)
words_keep_sound t ws h =
    let z = Soundness.words_keep_sound t ws (sound-accepted t h) in
    (accepted-sound (after_words t ws) z, Soundness.words_keep_length t ws)

-- ---- words

-- Taking a word apart and putting parts together undo each other, wherever neither refuses.
-- Excludes: parts that are lost or overlap; two words of the same parts. Proved in WordLaws.antt.
pub together-apart : (w : ℕ) (x : Fields)
    → apart w ≡ Ok x
    → together x.kind x.process x.argument ≡ Ok w
together-apart = WordLaws.together-apart

pub apart-together : (k p a w : ℕ)
    → together k p a ≡ Ok w
    → apart w ≡ Ok (record { kind = k; process = p; argument = a })
apart-together = WordLaws.apart-together
