-- What the parts of the call from C require and promise (machine/specs/Calls).
--
--   number_in r      ==   the number of an answer: that of the run, or of the refusal alone.
--   refusal_for e m  ==   what refuses a call under the settings m whose input is refused with e.
--   CallsTo c l r    <=>  the lent bytes are l and the answer is r, as the call c says.
--   Prepared x ws    <=>  the table x is sound, and the words ws are at most 8,192.
--   Writable x l     <=>  the table x is sound, and the lent bytes l have room for its image.
--   Packable n x l   <=>  and n words have.
--   Holds n bs       <=>  n words have room for the image in the bytes bs, unless it is longer than any is.
--
-- Assumes nothing.
use Rattle.std.specs.Prelude.{ℕ, ◌≤◌, ◌≡◌, cond, List, length, replicate, Result, Ok, Err}
use Rattle.machine.specs.Refusals.{too_many_words, bad_bytes, bad_settings, number}
use Rattle.machine.specs.Tables.{Table, table_refusal}
use Rattle.machine.specs.Settings.{settings_fit}
use Rattle.machine.specs.Runs.{limit}
use Rattle.machine.specs.Images.{image_length}
use Rattle.machine.specs.Calls.{Called, number_of, room_for}
use Rattle.machine.specs.declared.Refusal.{Refusal}
use Rattle.machine.specs.declared.Settings.{Settings}
use Rattle.inputs.specs.Opening.{Roomy}
use Rattle.inputs.specs.declared.InputError.{InputError}
use Rattle.inputs.specs.declared.InputError.TheVariants.{BadBytes, BadImage, TooMany}

abbrev pub number_in : Result ℕ Refusal → ℕ
number_in (Ok n) = n
number_in (Err e) = number_of 0 (number e)

-- 18 comes before 12
abbrev pub refusal_for : InputError → Settings → ℕ
refusal_for BadBytes m = bad_bytes
refusal_for (BadImage e) m = number e.refusal
refusal_for (TooMany n) m = cond (settings_fit m) too_many_words bad_settings

pub record CallsTo (c : Called) (l : List ℕ) (r : Result ℕ Refusal) : Type 0 where
  pub number_is : number_in r ≡ c.number
  pub lent_is : l ≡ c.lent

pub record Prepared (x : Table) (ws : List ℕ) : Type 0 where
  pub table_sound : table_refusal x ≡ 0
  pub words_few : length ws ≤ limit

pub record Writable (x : Table) (l : List ℕ) : Type 0 where
  pub sound : table_refusal x ≡ 0
  pub room : room_for x ≤ length l

pub record Packable (n : ℕ) (x : Table) (l : List ℕ) : Type 0 where
  pub writable : Writable x l
  pub long : image_length (length x) ≤ n
  pub few : n ≤ image_length 16

pub record Holds (n : ℕ) (bs : List ℕ) : Type 0 where
  pub room : Roomy bs (replicate n 0)
  pub few : n ≤ image_length 16
