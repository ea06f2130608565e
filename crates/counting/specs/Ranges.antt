-- Lists and tests over the numbers below n.
--
--   up_to f n  ==   the list of f 0, f 1, .. of n numbers.
--   every P n  <=>  each number below n has P.
--   some P n   <=>  one or more of them have P.
--
-- Assumes nothing.
use Rattle.std.specs.Prelude.{ℕ, zero, suc, Bool, true, false, ◌&&◌, ◌||◌, List, [], ◌∷◌, ◌++◌}

-- f at 0, 1, .. below n
unfoldable pub up_to : (ℕ → ℕ) → ℕ → List ℕ
up_to f zero = []
up_to f (suc n) = up_to f n ++ (f n ∷ [])

-- P at 0, 1, .. below n
unfoldable pub every : (ℕ → Bool) → ℕ → Bool
every P zero = true
every P (suc n) = every P n && P n

-- P at one of 0, 1, .. below n
unfoldable pub some : (ℕ → Bool) → ℕ → Bool
some P zero = false
some P (suc n) = some P n || P n
