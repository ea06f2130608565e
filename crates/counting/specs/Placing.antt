-- A list put into a lent one: what every function that writes into lent memory leaves there.
--
--   placed d at s   ==   d with s from place `at` on; what stands before and after s is kept.
--
-- Assumes nothing.
use Rattle.std.specs.Prelude.{ℕ, ◌+◌, List, ◌++◌, length, take, drop}

-- the start of d, then s, then what is left of d
unfoldable pub placed : {A : Type 0} → List A → ℕ → List A → List A
placed d at s = take at d ++ (s ++ drop (at + length s) d)
