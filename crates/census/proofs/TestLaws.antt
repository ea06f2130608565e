-- A test as the code makes it, by arithmetic. Assumes nothing.
use Prim.Native.Nat.{ℕ, ◌+◌, ◌-◌, ◌/◌, ◌≤◌}
use mathlib.Core.Path.{◌≡◌}
use native.Mathlib.Decide.{dec_le}
use native.Mathlib.Omega.{arith}
use lib.Dec.{leb}
use borrow.Author.Tests.{le-leb, lt-leb}
use Rattle.counting.specs.Sums.{bit}
use Rattle.census.specs.Series.{Near}

-- the sum reaches 16 where i reaches `from`
pub near_reaches : (i from : ℕ) → Near i from → (i + 16 - from) / 16 ≡ bit (leb from i)
near_reaches i from h = go (dec_le from i)
  where
    go : Dec (from ≤ i) → (i + 16 - from) / 16 ≡ bit (leb from i)
    go (yes l) = rw (le-leb from i l) (omega (arith, h.0, h.1, l))
    go (no l) = rw (lt-leb from i (omega (arith, l))) (omega (arith, h.0, h.1, l))
