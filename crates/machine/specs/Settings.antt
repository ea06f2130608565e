-- The memory settings of a step or of a run, and the words that they forbid (MANUAL, "Settings"). They say what the
-- shared variables do while they are written: in safe memory a read that meets a write may return anything, which is
-- what FLICKER stands for.
--
--   weakest                ==   act safe and turn write-safe, which forbid nothing: the memory of the paper.
--   settings_fit s         <=>  each of the two is one of the values listed.
--   settings_of m          ==   settings that fit, as the two numbers; fitting s is s, or 18 where it does not fit.
--   flicker_forbidden s r  <=>  FLICKER at the row r would show a write of plain memory.
--   go_forbidden s t p     <=>  GO of process p would bring a second writer to a turn cell that is to have one.
--   forbidden_by s t k p   ==   16 or 17, where the settings s forbid kind k of process p, or 0.
--   refusal_under s t w    ==   the step's refusal under settings, over `refusal_of`, the one under 0 and 0.
--   after_under s t w      ==   the table after the step under settings; the one given where it refuses.
--   list_under s t ws      ==   the table after a list of words, given one by one; a refused word is passed over.
--   accepted_of s t ws     ==   the words of a list that are accepted so.
--   answer_under s t w     ==   the step's answer under settings; step_answer_under s t w is that to C.
--   SameStep s t w         <=>  the step under settings does what it does without them.
--
-- Assumes nothing.
use Rattle.std.specs.Prelude.{ℕ, ◌≡◌, Bool, cond, ◌&&◌, not, List, [], ◌∷◌, eqb, leb, length}
use Rattle.std.specs.Prelude.{Result, Ok, Err}
use Rattle.counting.specs.Ranges.{some}
use Rattle.machine.specs.Refusals.{accepted, passes_full, plain_flicker, second_writer, bad_settings}
use Rattle.machine.specs.Tables.{Table, row, one_of, table_refusal}
use Rattle.machine.specs.Words.{FLICKER, GO, kind_of, process_of}
use Rattle.machine.specs.Shared.{no_cell}
use Rattle.machine.specs.Steps.{gone, refusal_of, after_word, cell_of, told_of, answer_of, step_answer_of}
use Rattle.machine.specs.declared.Row.{Row}
use Rattle.machine.specs.declared.Settings.{Settings}
use Rattle.machine.specs.declared.Refusal.{Refusal}
use Rattle.machine.specs.declared.ActMemory.{ActMemory}
use Rattle.machine.specs.declared.ActMemory.TheVariants as Act
use Rattle.machine.specs.declared.TurnMemory.{TurnMemory}
use Rattle.machine.specs.declared.TurnMemory.TheVariants as Turn
use Rattle.machine.specs.declared.Memory.{Memory}
use Rattle.machine.specs.declared.Told.{Told}
use Rattle.machine.specs.declared.StepAnswer.{StepAnswer}

-- ---- the values

-- act: 0 is safe
abbrev pub act_plain : ℕ
act_plain = 1

-- turn: 0 is write-safe
abbrev pub one_writer : ℕ
one_writer = 1

abbrev pub turn_plain : ℕ
turn_plain = 2

abbrev pub weakest : Settings
weakest = record { act = 0; turn = 0 }

-- act is 0 or 1, turn is 0, 1 or 2, each as a whole number
abbrev pub settings_fit : Settings → Bool
settings_fit s = leb s.act 1 && leb s.turn 2

-- ---- settings that fit, as the code has them

abbrev pub act_number : ActMemory → ℕ
act_number Act.Safe = 0
act_number Act.Plain = act_plain

abbrev pub turn_number : TurnMemory → ℕ
turn_number Turn.WriteSafe = 0
turn_number Turn.OneWriter = one_writer
turn_number Turn.Plain = turn_plain

abbrev pub settings_of : Memory → Settings
settings_of m = record { act = act_number m.act; turn = turn_number m.turn }

abbrev pub fitting : Settings → Result Settings ℕ
fitting s = cond (settings_fit s) (Ok s) (Err bad_settings)

-- the settings that an answer has, as numbers
abbrev pub settings_in : Result Memory Refusal → Result Settings Refusal
settings_in (Ok m) = Ok (settings_of m)
settings_in (Err e) = Err e

-- ---- what they forbid

-- plain forbids FLICKER on that cell: at 24 that is turn[level], elsewhere act
abbrev pub flicker_forbidden : Settings → Row → Bool
flicker_forbidden s r = cond (eqb r.location 24) (eqb s.turn turn_plain) (eqb s.act act_plain)

-- a row at 24 with level k: its process is writing turn[k]
abbrev pub writes_turn : ℕ → Row → Bool
writes_turn k r = eqb r.location 24 && eqb r.level k

-- another process than p, at 24, has the level of p
unfoldable pub other_writer : Table → ℕ → Bool
unfolding some
other_writer t p = some (λ q. not (eqb q p) && writes_turn (row t p).level (row t q)) (length t)

-- GO of p would go from 23 to 24
unfoldable pub goes_to24 : Table → ℕ → Bool
unfolding gone
goes_to24 t p = eqb (row t p).location 23 && eqb (row (gone t p) p).location 24

-- one writer forbids a GO from 23 to 24 while another process at 24 has the same level
abbrev pub go_forbidden : Settings → Table → ℕ → Bool
go_forbidden s t p = eqb s.turn one_writer && (goes_to24 t p && other_writer t p)

-- 16 for a forbidden FLICKER, 17 for a forbidden GO; nothing else is forbidden
unfoldable pub forbidden_by : Settings → Table → ℕ → ℕ → ℕ
unfolding goes_to24 other_writer
forbidden_by s t k p =
    cond (eqb k FLICKER && flicker_forbidden s (row t p)) plain_flicker
    (cond (eqb k GO && go_forbidden s t p) second_writer accepted)

-- ---- the step under settings

-- f, which is 16, 17 or 0, after the refusals 6 to 11 and before 15; n is the refusal without it
abbrev pub before15 : ℕ → ℕ → ℕ
before15 f n = cond (one_of n (accepted ∷ passes_full ∷ []) && not (eqb f accepted)) f n

-- 6, 7; 18; 8 to 11; 16 or 17; 15
unfoldable pub refusal_under : Settings → Table → ℕ → ℕ
unfolding table_refusal refusal_of forbidden_by
refusal_under s t w =
    cond (not (eqb (table_refusal t) accepted)) (refusal_of t w)
    (cond (not (settings_fit s)) bad_settings
    (before15 (forbidden_by s t (kind_of w) (process_of w)) (refusal_of t w)))

-- what is accepted moves the table as it does without settings
unfoldable pub after_under : Settings → Table → ℕ → Table
unfolding refusal_under after_word
after_under s t w = cond (eqb (refusal_under s t w) accepted) (after_word t w) t

unfoldable pub list_under : Settings → Table → List ℕ → Table
unfolding after_under
list_under s t [] = t
list_under s t (w ∷ ws) = list_under s (after_under s t w) ws

unfoldable pub accepted_of : Settings → Table → List ℕ → List ℕ
unfolding refusal_under after_under
accepted_of s t [] = []
accepted_of s t (w ∷ ws) =
    let rest = accepted_of s (after_under s t w) ws in
    cond (eqb (refusal_under s t w) accepted) (w ∷ rest) rest

-- and tells what it tells without them
unfoldable pub answer_under : Settings → Table → ℕ → Result Told ℕ
unfolding refusal_under
answer_under s t w =
    let n = refusal_under s t w in cond (eqb n accepted) (Ok (told_of t w)) (Err n)

abbrev pub step_answer_under : Settings → Table → ℕ → StepAnswer
step_answer_under s t w =
    let n = refusal_under s t w in record { refusal = n; cell = cond (eqb n accepted) (cell_of t w) no_cell }

-- under the settings s a step does what it does without them: refusal, table, and answer, of which event and cell are
-- part, also to C
pub record SameStep (s : Settings) (t : Table) (w : ℕ) : Type 0 where
  pub refusal_same : refusal_under s t w ≡ refusal_of t w
  pub table_same : after_under s t w ≡ after_word t w
  pub answer_same : answer_under s t w ≡ answer_of t w
  pub to_c_same : step_answer_under s t w ≡ step_answer_of t w
