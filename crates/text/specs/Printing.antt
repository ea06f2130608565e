-- The text for what an input holds (machine/specs/Text says what is printed). An input is opened once, and its text is
-- that of the answer (inputs/specs/Opening).
--
--   text_room        ==   room for every text.
--   refused_text e   ==   the text of an input that is not run, for the reason e.
--   opened_text r y  ==   the text for the answer r, with the rows y.
--   Few e            <=>  the table of which e tells, if it does, has at most 16 processes.
--   Answers r y      <=>  opening some input has answered r, with the rows y.
--
-- Assumes nothing.
use Rattle.std.specs.Prelude.{ℕ, ◌≤◌, List, [], ◌∷◌, ◌++◌, take, Result, Ok, Err}
use Rattle.machine.specs.Refusals.{number, too_many_words, bad_bytes}
use Rattle.machine.specs.Tables.{Table}
use Rattle.machine.specs.Bytes.{words_in}
use Rattle.machine.specs.Text.{input_text, image_text, posts_text, line, stop_line, run_lines}
use Rattle.inputs.specs.Opening.{Opens}
use Rattle.inputs.specs.declared.Input.{Input}
use Rattle.inputs.specs.declared.InputError.{InputError}
use Rattle.inputs.specs.declared.InputError.TheVariants.{BadBytes, BadImage, TooMany}

-- 8,192 lines of at most 22 bytes, a first one of at most 9 and a last one of at most 13
abbrev pub text_room : ℕ
text_room = 180260

-- the text of an input that is not run
abbrev pub refused_text : InputError → List ℕ
refused_text BadBytes = line input_text (bad_bytes ∷ [])
refused_text (BadImage e) = line image_text (e.place ∷ number e.refusal ∷ [])
refused_text (TooMany n) = line posts_text (n ∷ []) ++ stop_line 0 too_many_words

abbrev pub opened_text : Result Input InputError → Table → List ℕ
opened_text (Ok i) y = line posts_text (i.size ∷ []) ++ run_lines (take i.size y) 0 (words_in i.events.now)
opened_text (Err e) y = refused_text e

-- ---- contracts

abbrev pub Few : InputError → Type 0
Few BadBytes = Unit {0}
Few (BadImage e) = Unit {0}
Few (TooMany n) = n ≤ 16

pub record Answers (r : Result Input InputError) (y : Table) : Type 0 where
  pub input : List ℕ
  pub opens : Opens input y r
