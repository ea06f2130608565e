-- The words of an input in two parts (machine/specs/Inputs).
--
--   Splits ws m  <=>  the first m words are the image, the others the event words.
--
-- Assumes nothing.
use Rattle.std.specs.Prelude.{ℕ, ◌≤◌, ◌≡◌, List, length, take, drop}
use Rattle.machine.specs.Inputs.{image_part, event_part}

pub record Splits (ws : List ℕ) (m : ℕ) : Type 0 where
  pub within : m ≤ length ws
  pub image_is : take m ws ≡ image_part ws
  pub events_are : drop m ws ≡ event_part ws
