-- What reading an image into rows and writing one promise to other crates, in the terms of machine/specs/Images.
--
--   ReadInto ..     <=>  the answer, and the rows that an image was read into.
--   Room t l        <=>  the table t is sound, and the lent words l hold its image.
--   Writes t l m r  <=>  writing the image of t into l leaves m and answers r.
--
-- Assumes nothing.
use Rattle.std.specs.Prelude.{ℕ, ◌≤◌, ◌≡◌, List, length, Result, IfOk, OnOk}
use Rattle.counting.specs.Placing.{placed}
use Rattle.machine.specs.Refusals.{refusal_in}
use Rattle.machine.specs.Tables.{Table, table_refusal}
use Rattle.machine.specs.Images.{image_length, image_refusal, found_in, table_in, written_of}
use Rattle.machine.specs.declared.Refusal.{Refusal}
use Rattle.machine.specs.declared.ImageError.{ImageError}

-- ---- reading

-- what refuses the image ws, if anything does; else its size, and the first of the rows x became its table; the rows
-- keep their number in any case
pub record ReadInto (ws : List ℕ) (x y : Table) (r : Result ℕ ImageError) : Type 0 where
  pub found_is : found_in r ≡ image_refusal ws
  pub size_is : IfOk r (λ n. n ≡ length (table_in ws))
  pub rows_are : OnOk r (y ≡ placed x 0 (table_in ws))
  pub kept : length y ≡ length x

-- ---- writing

pub record Room (t : Table) (l : List ℕ) : Type 0 where
  pub is_sound : table_refusal t ≡ 0
  pub long : image_length (length t) ≤ length l

pub record Writes (t : Table) (l m : List ℕ) (r : Result (Unit {0}) Refusal) : Type 0 where
  pub refusal_is : refusal_in r ≡ (written_of t l).refusal
  pub words_are : m ≡ (written_of t l).words
