-- What a list of words does to a table (MANUAL, "Lists of words"; demand 3).
--
--   Listed m x ws y  <=>  the list ws, given to the step under the settings m word by word and going on past refused
--                         words, made y of the table x; and from a fresh table at most k processes are held at k, for
--                         every k, and at most one process is at 30.
--
-- Assumes nothing.
use Rattle.std.specs.Prelude.{ℕ, ◌≤◌, ◌≡◌, true, List}
use Rattle.machine.specs.Tables.{Table, fresh}
use Rattle.machine.specs.Settings.{list_under}
use Rattle.machine.specs.Census.{held, critical}
use Rattle.machine.specs.declared.Settings.{Settings}

pub record Listed (m : Settings) (x : Table) (ws : List ℕ) (y : Table) : Type 0 where
  -- the table is the one that the words name
  pub becomes : y ≡ list_under m x ws
  -- the counts
  pub held_most : fresh x ≡ true → (k : ℕ) → held k y ≤ k
  -- mutual exclusion
  pub critical_most : fresh x ≡ true → critical y ≤ 1
