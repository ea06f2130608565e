-- Whether a turn cell is being written.
--
--   has_writer k t  <=>  some process of t is at 24 with level k.
--
-- Assumes nothing.
use Rattle.std.specs.Prelude.{ℕ, Bool, length}
use Rattle.counting.specs.Ranges.{some}
use Rattle.machine.specs.Tables.{Table, row}
use Rattle.machine.specs.Settings.{writes_turn}

abbrev pub has_writer : ℕ → Table → Bool
has_writer k t = some (λ q. writes_turn k (row t q)) (length t)
