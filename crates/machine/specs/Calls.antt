-- The call from C on bytes (MANUAL, "The call on bytes").
--
--   number_of taken refusal  ==  words taken and refusal as one number.
--   call_for s i l    ==  the call's number and the lent bytes l after it, under the settings s, for what an input holds.
--   call_of s bs l    ==  the same for the input bytes bs.
--
-- Assumes nothing.
use Rattle.std.specs.Prelude.{ℕ, ◌+◌, ◌*◌, true, false, cond, List, leb, length}
use Rattle.counting.specs.Placing.{placed}
use Rattle.machine.specs.Refusals.{too_many_words, too_few_lent, bad_bytes, bad_settings}
use Rattle.machine.specs.Tables.{Table}
use Rattle.machine.specs.Shared.{no_cell}
use Rattle.machine.specs.Settings.{settings_fit}
use Rattle.machine.specs.Runs.{zero_tally, run_from}
use Rattle.machine.specs.Images.{image_length, image_of}
use Rattle.machine.specs.Bytes.{bytes_of}
use Rattle.machine.specs.Inputs.{Input, input_of}
use Rattle.machine.specs.Inputs.Input.{BadBytes, BadImage, TooMany, Ready}
use Rattle.machine.specs.declared.Settings.{Settings}

pub record Called : Type 0 where
  pub number : ℕ
  pub lent : List ℕ

-- 256 times the words taken, plus the refusal
abbrev pub number_of : ℕ → ℕ → ℕ
number_of taken refusal = 256 * taken + refusal

-- a refused call takes no word and leaves the lent bytes
abbrev pub refused_call : List ℕ → ℕ → Called
refused_call l why = record { number = number_of 0 why; lent = l }

-- the bytes that the image of a table takes
abbrev pub room_for : Table → ℕ
room_for t = 4 * image_length (length t)

-- the run, also where a word stopped it: its last image fills the first lent bytes, and the others are kept
unfoldable pub ran_call : Settings → Table → List ℕ → List ℕ → Called
unfolding run_from image_of bytes_of placed
ran_call s t ws l =
    let o = run_from s t zero_tally no_cell ws in
    record {
      number = number_of o.tally.words o.refusal;
      lent = placed l 0 (bytes_of (image_of o.table));
    }

-- 14; 1 to 5; 18; 12; 13; the run
unfoldable pub call_for : Settings → Input → List ℕ → Called
unfolding ran_call
call_for s BadBytes l = refused_call l bad_bytes
call_for s (BadImage place why) l = refused_call l why
call_for s (TooMany t) l = cond (settings_fit s) (refused_call l too_many_words) (refused_call l bad_settings)
call_for s (Ready t ws) l =
    elim (settings_fit s) [
      | false ↦ refused_call l bad_settings
      | true ↦ elim (leb (room_for t) (length l)) [ false ↦ refused_call l too_few_lent | true ↦ ran_call s t ws l ]
    ]

unfoldable pub call_of : Settings → List ℕ → List ℕ → Called
unfolding input_of call_for
call_of s bs l = call_for s (input_of bs) l
