-- What the functions on counts of passes ensure inside this crate.
--
--   past_at n a i   ==   the count over process i in the counts a, or 0 where i is below n.
--   clear_past n a  <=>  the counts a over processes that are not below n are 0.
--   Clear n a b     <=>  b tells clear_past n a; there are sixteen counts, all of 16 bits.
--   Joined a b c    <=>  each of sixteen counts of c is that of a | that of b; those of b are of 16 bits.
--
-- Assumes nothing.
use Rattle.std.specs.Prelude.{ℕ, ◌*◌, ◌≤◌, ◌<◌, ◌≡◌, Bool, List, leb, ltb, length, get_or}
use Rattle.std.specs.Int.Bits.{bit_or}
use Rattle.counting.specs.Sums.{bit}
use Rattle.counting.specs.Ranges.{every}

abbrev pub past_at : ℕ → List ℕ → ℕ → ℕ
past_at n a i = get_or a i 0 * bit (leb n i)

abbrev pub clear_past : ℕ → List ℕ → Bool
clear_past n a = every (λ i. ltb (past_at n a i) 1) 16

pub record Clear (n : ℕ) (a : List ℕ) (b : Bool) : Type 0 where
  pub told : b ≡ clear_past n a
  pub sixteen : length a ≡ 16
  pub low : (i : ℕ) → i < 16 → get_or a i 0 ≤ 65535

pub record Joined (a b c : List ℕ) : Type 0 where
  pub at : (i : ℕ) → i < 16 → get_or c i 0 ≡ bit_or (get_or a i 0) (get_or b i 0)
  pub sixteen : length b ≡ 16
  pub low : (i : ℕ) → i < 16 → get_or b i 0 ≤ 65535
