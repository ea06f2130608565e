-- What the test of a row requires and ensures.
--
--   Full n f        <=>  n is at most 16 and f is the set of all n processes.
--   RowFits n q r b <=>  where the passes of r over processes that are not there are 0, b tells whether r is sound
--                        as row q of n; where b is false, r is not sound.
--
-- Assumes nothing.
use Rattle.std.specs.Prelude.{ℕ, ◌+◌, ◌^◌, ◌≤◌, ◌≡◌, Bool, ◌&&◌, eqb, get_or}
use Rattle.machine.specs.Tables.{sound_passes, sound_row}
use Rattle.machine.specs.declared.Row.{Row}

pub record Full (n f : ℕ) : Type 0 where
  pub few : n ≤ 16
  pub is : f + 1 ≡ 2 ^ n

pub record RowFits (n q : ℕ) (r : Row) (b : Bool) : Type 0 where
  pub is : (rest : Bool) → (eqb (get_or r.passes q 0) 0 && rest) ≡ sound_passes n q r.passes
      → (b && rest) ≡ sound_row n q r
