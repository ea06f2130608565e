-- Parts of a line.
--
--   pair n   ==  a number below 100 as two digits, the first 0 below 10.
--   field n  ==  a number and the space after it.
--
-- Assumes nothing.
use Rattle.std.specs.Prelude.{ℕ, ◌+◌, ◌/◌, ◌%◌, List, [], ◌∷◌, ◌++◌}
use Rattle.machine.specs.Text.{decimal}

abbrev pub pair : ℕ → List ℕ
pair n = (48 + n / 10) ∷ (48 + n % 10) ∷ []

abbrev pub field : ℕ → List ℕ
field n = decimal n ++ (32 ∷ [])
