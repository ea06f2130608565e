-- The lowest member of a set as an answer.
--
--   lowest_below s n  ==   the lowest member of s below n, if there is one.
--   lowest_of s       ==   the lowest member of s, if it has one.
--
-- Assumes nothing.
use Rattle.std.specs.Prelude.{ℕ, zero, suc, cond, Option, Some, None}
use Rattle.counting.specs.Sets.{has}

-- the answer a where it names a member, else b
abbrev pub first_of : Option ℕ → Option ℕ → Option ℕ
first_of (Some q) b = Some q
first_of None b = b

-- the lowest member of s below n, if there is one
unfoldable pub lowest_below : ℕ → ℕ → Option ℕ
unfolding has
lowest_below s zero = None
lowest_below s (suc n) = first_of (lowest_below s n) (cond (has s n) (Some n) None)

-- the lowest member of s, if it has one
unfoldable pub lowest_of : ℕ → Option ℕ
unfolding lowest_below
lowest_of s = lowest_below s 16
