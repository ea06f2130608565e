-- What unpacking bytes requires.
--
--   Whole bs ws      <=>  the bytes bs make whole words, no more than there are in ws.
--
-- Assumes nothing.
use Rattle.std.specs.Prelude.{ℕ, ◌*◌, ◌%◌, ◌≤◌, ◌≡◌, List, length}

pub record Whole (bs ws : List ℕ) : Type 0 where
  pub whole : length bs % 4 ≡ 0
  pub room : length bs ≤ 4 * length ws
