-- What C gets of the functions beside step, run, census, writing and call, and what these leave in lent memory (MANUAL,
-- "The functions of C"). Each says in numbers and lent rows what a definition of the files before says.
--
--   parts_answer_of w     ==  the word w taken apart.
--   word_answer_of k p a  ==  the parts put together.
--   fresh_in l            ==  a fresh table made in the lent rows l: 6, or all of them.
--   read_in ws l          ==  the table of an image read into the lent rows l: 1 to 5, then 13, or the first of them.
--   printed_in bs l       ==  the text of a run printed into the lent bytes l: its length, and the text where it fits.
--
-- Assumes nothing.
use Rattle.std.specs.Prelude.{ℕ, true, false, cond, List, eqb, leb, length, Result, Ok, Err}
use Rattle.counting.specs.Placing.{placed}
use Rattle.machine.specs.Refusals.{accepted, wrong_size, too_few_lent}
use Rattle.machine.specs.Tables.{Table, size_fits, fresh_table}
use Rattle.machine.specs.Words.{Fields, apart, together}
use Rattle.machine.specs.Images.{image_refusal, table_in}
use Rattle.machine.specs.Calls.{Called}
use Rattle.machine.specs.Text.{printed}
use Rattle.machine.specs.declared.PartsAnswer.{PartsAnswer}
use Rattle.machine.specs.declared.WordAnswer.{WordAnswer}
use Rattle.machine.specs.declared.ReadAnswer.{ReadAnswer}

-- ---- event words

-- the parts, or the refusal and zeros
abbrev pub parts_for : Result Fields ℕ → PartsAnswer
parts_for (Ok s) = record { refusal = accepted; kind = s.kind; process = s.process; argument = s.argument }
parts_for (Err why) = record { refusal = why; kind = 0; process = 0; argument = 0 }

abbrev pub parts_answer_of : ℕ → PartsAnswer
parts_answer_of w = parts_for (apart w)

-- the word, or the refusal and 0
abbrev pub word_for : Result ℕ ℕ → WordAnswer
word_for (Ok w) = record { refusal = accepted; word = w }
word_for (Err why) = record { refusal = why; word = 0 }

abbrev pub word_answer_of : ℕ → ℕ → ℕ → WordAnswer
word_answer_of k p a = word_for (together k p a)

-- ---- tables in lent rows

-- the refusal or 0, and the lent rows afterwards
pub record Made : Type 0 where
  pub refusal : ℕ
  pub rows : Table

-- the fresh table of as many processes as rows are lent; other than 2 to 16 rows are kept
abbrev pub fresh_in : Table → Made
fresh_in l =
    cond (size_fits (length l)) (record { refusal = accepted; rows = fresh_table (length l) })
    (record { refusal = wrong_size; rows = l })

-- the answer, and the lent rows afterwards
pub record Loaded : Type 0 where
  pub answer : ReadAnswer
  pub rows : Table

-- a refused image hands over no table, and every row is kept
abbrev pub unread : Table → ℕ → ℕ → Loaded
unread l why place = record { answer = record { refusal = why; place = place; size = 0 }; rows = l }

-- the table t in the first rows, the others kept; fewer rows than it has meet 13
abbrev pub loaded : Table → Table → Loaded
loaded t l =
    cond (leb (length t) (length l))
    (record { answer = record { refusal = accepted; place = 0; size = length t }; rows = placed l 0 t })
    (unread l too_few_lent 0)

unfoldable pub read_in : List ℕ → Table → Loaded
unfolding image_refusal table_in
read_in ws l =
    let f = image_refusal ws in
    let t = table_in ws in
    elim (eqb f.refusal accepted) [ false ↦ unread l f.refusal f.place | true ↦ loaded t l ]

-- ---- the printed run in lent bytes

-- the length of the text; where the lent bytes have room for all of it, it stands at their start, and else all are kept
unfoldable pub printed_in : List ℕ → List ℕ → Called
unfolding printed placed
printed_in bs l =
    let s = printed bs in
    record { number = length s; lent = elim (leb (length s) (length l)) [ false ↦ l | true ↦ placed l 0 s ] }
