-- `passes::raised` meets its contract: each count is written once. Assumes nothing.
use Prim.Native.Nat.{ℕ, ◌+◌, ◌/◌, ◌%◌, ◌^◌, ◌<◌}
use mathlib.Core.Path.{◌≡◌}
use lib.ListN.{get_or, length}
use Rattle.rows.proofs.passes.raised.Given as goal

abbrev pub invariant-loop-i : goal.invariant-loop-i
invariant-loop-i l =
    record {
      sixteen : length l.b ≡ 16;
      written : (j : ℕ) → j < l.i → get_or l.b j 0 ≡ get_or l.a j 0 + l.c / 2 ^ j % 2;
    }
