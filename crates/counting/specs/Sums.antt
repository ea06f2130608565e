-- Sums and counts over the numbers below n.
--
--   bit b      ==  1 for true, 0 for false.
--   sum f n    ==  f 0 + .. + f (n - 1).
--   count P n  ==  how many numbers below n have P.
--
-- Assumes nothing.
use Rattle.std.specs.Prelude.{ℕ, zero, suc, ◌+◌, Bool, true, false}

-- a test as a number
abbrev pub bit : Bool → ℕ
bit true = 1
bit false = 0

-- the sum of f over the numbers below n
unfoldable pub sum : (ℕ → ℕ) → ℕ → ℕ
sum f zero = 0
sum f (suc n) = sum f n + f n

-- how many numbers below n have P
unfoldable pub count : (ℕ → Bool) → ℕ → ℕ
unfolding sum
count P n = sum (λ q. bit (P q)) n
