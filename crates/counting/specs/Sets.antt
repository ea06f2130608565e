-- Sets of process numbers, kept as numbers: bit q stands for process q.
--
--   has s q      <=>  process q is in the set s.
--   set_of P n   ==   the set of the q below n that have P.
--   size s       ==   how many members s has; a set has members below 16 only.
--   without s p  ==   the set s, less p.
--   others n p   ==   all of n processes but p.
--   lowest s     ==   the lowest member of s; 0 where s has none.
--
-- Assumes nothing.
use Rattle.std.specs.Prelude.{ℕ, zero, suc, ◌*◌, ◌/◌, ◌%◌, ◌^◌, Bool, cond, ◌&&◌, not, eqb}
use Rattle.counting.specs.Sums.{bit, sum, count}

-- whether q is in the set s
unfoldable pub has : ℕ → ℕ → Bool
has s q = eqb (s / 2 ^ q % 2) 1

-- the set of the q below n that have P
unfoldable pub set_of : (ℕ → Bool) → ℕ → ℕ
unfolding sum
set_of P n = sum (λ q. bit (P q) * 2 ^ q) n

-- how many members s has
unfoldable pub size : ℕ → ℕ
unfolding count has
size s = count (has s) 16

-- the set s, less p
unfoldable pub without : ℕ → ℕ → ℕ
unfolding set_of has
without s p = set_of (λ q. has s q && not (eqb q p)) 16

-- all of n processes but p
unfoldable pub others : ℕ → ℕ → ℕ
unfolding set_of
others n p = set_of (λ q. not (eqb q p)) n

-- the lowest member of s among q and the n - 1 numbers after it; 0 where s has none of them
unfoldable pub lowest_from : ℕ → ℕ → ℕ → ℕ
unfolding has
lowest_from s q zero = 0
lowest_from s q (suc n) = cond (has s q) q (lowest_from s (suc q) n)

-- the lowest member of s
unfoldable pub lowest : ℕ → ℕ
unfolding lowest_from
lowest s = lowest_from s 0 16
