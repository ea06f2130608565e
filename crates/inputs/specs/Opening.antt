-- What opening an input requires and answers (machine/specs/Inputs).
--
--   Tabled y n        <=>  the first n of the rows y are a sound table.
--   Shows i y r       <=>  the answer r, with the rows y, shows what an input i holds.
--   Roomy bs ws       <=>  ws has room for the words of the image in the bytes bs, unless it is longer than any is.
--   Openable bs ws x  <=>  so it has, and the rows x have room for every table.
--   Opens bs y r      <=>  the answer r shows what the bytes bs hold.
--   EventsOf bs es    <=>  the bytes es are those that stand in the bytes bs after the words of the image.
--
-- Assumes nothing.
use Rattle.std.specs.Prelude.{ℕ, ◌≤◌, ◌≡◌, ◌*◌, List, length, take, drop, Result, Ok, Err}
use Rattle.machine.specs.Refusals.{number}
use Rattle.machine.specs.Tables.{Table, table_refusal}
use Rattle.machine.specs.Runs.{limit}
use Rattle.machine.specs.Images.{image_length}
use Rattle.machine.specs.Bytes.{words_in}
use Rattle.machine.specs.Inputs.{image_part, Input, input_of}
use Rattle.inputs.specs.Splitting.{Splits}
use Rattle.inputs.specs.declared.Input.{Input as Opened}
use Rattle.inputs.specs.declared.InputError.{InputError}
use Rattle.inputs.specs.declared.InputError.TheVariants.{BadBytes, BadImage, TooMany}

pub record Tabled (y : Table) (n : ℕ) : Type 0 where
  pub sound : table_refusal (take n y) ≡ 0
  pub few : n ≤ 16
  pub within : n ≤ length y

-- more event words than a run takes, after the table of the first n rows
pub record ShowsMany (i : Input) (y : Table) (n : ℕ) : Type 0 where
  pub holds : i ≡ Input.TooMany (take n y)
  pub table : Tabled y n

-- the table of the first n rows, and the event words that the bytes es hold
pub record ShowsReady (i : Input) (y : Table) (n : ℕ) (es : List ℕ) : Type 0 where
  pub holds : i ≡ Input.Ready (take n y) (words_in es)
  pub table : Tabled y n
  pub few : length (words_in es) ≤ limit

abbrev pub Shows : Input → Table → Result Opened InputError → Type 0
Shows i y (Ok o) = ShowsReady i y o.size o.events.now
Shows i y (Err BadBytes) = i ≡ Input.BadBytes
Shows i y (Err (BadImage e)) = i ≡ Input.BadImage e.place (number e.refusal)
Shows i y (Err (TooMany n)) = ShowsMany i y n

-- ---- contracts

abbrev pub Roomy : List ℕ → List ℕ → Type 0
Roomy bs ws = length (image_part (words_in bs)) ≤ image_length 16 → length (image_part (words_in bs)) ≤ length ws

pub record Openable (bs ws : List ℕ) (x : Table) : Type 0 where
  pub room : Roomy bs ws
  pub rows : length x ≡ 16

abbrev pub Opens : List ℕ → Table → Result Opened InputError → Type 0
Opens bs y r = Shows (input_of bs) y r

pub record EventsOf (bs es : List ℕ) : Type 0 where
  pub image : ℕ
  pub split : Splits (words_in bs) image
  pub rest : es ≡ drop (4 * image) bs
