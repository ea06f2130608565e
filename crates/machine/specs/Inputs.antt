-- What an input holds: an image, and after it the event words (MANUAL, "Bytes and inputs"). The order of these checks
-- stands here and nowhere else: call and text are cases over `Input`.
--
--   image_part ws, event_part ws  ==   the words of the image, and those after it.
--   Input                         ==   what an input can hold.
--   words_hold ws                 ==   what the words of an input hold.
--   input_of bs                   ==   what the bytes of an input hold.
--
-- Assumes nothing.
use Rattle.std.specs.Prelude.{ℕ, true, false, List, eqb, leb, length, get_or, take, drop}
use Rattle.machine.specs.Refusals.{accepted}
use Rattle.machine.specs.Tables.{Table}
use Rattle.machine.specs.Runs.{limit}
use Rattle.machine.specs.Images.{length_in, image_refusal, table_in}
use Rattle.machine.specs.Bytes.{words_in, bytes_fit}

-- the words of the image: as many as the first word says, or all if fewer
abbrev pub image_part : List ℕ → List ℕ
image_part ws = take (length_in (get_or ws 0 0)) ws

abbrev pub event_part : List ℕ → List ℕ
event_part ws = drop (length_in (get_or ws 0 0)) ws

pub data Input : Type 0 where
  -- no whole words, or too many bytes
  BadBytes : Input
  -- a bad image: the place of the word, and the refusal
  BadImage : ℕ → ℕ → Input
  -- a table, and more event words after it than a run takes
  TooMany : Table → Input
  -- a table and its event words
  Ready : Table → List ℕ → Input

-- a bad image, then too many words, then a table and words
unfoldable pub words_hold : List ℕ → Input
unfolding image_refusal table_in
words_hold ws =
    let f = image_refusal (image_part ws) in
    let t = table_in (image_part ws) in
    elim (eqb f.refusal accepted) [
      | false ↦ Input.BadImage f.place f.refusal
      | true ↦
          elim (leb (length (event_part ws)) limit) [
            | false ↦ Input.TooMany t
            | true ↦ Input.Ready t (event_part ws)
          ]
    ]

-- bad bytes before all
unfoldable pub input_of : List ℕ → Input
unfolding words_in words_hold
input_of bs = elim (bytes_fit bs) [ false ↦ Input.BadBytes | true ↦ words_hold (words_in bs) ]
