-- `passes::joined` meets its contract: each count is written once. Assumes nothing.
use Prim.Native.Nat.{ℕ, ◌≤◌, ◌<◌}
use mathlib.Core.Path.{◌≡◌}
use lib.ListN.{get_or, length}
use Rattle.rows.proofs.PassLaws.{joined_at}
use Rattle.rows.proofs.passes.joined.Given as goal

abbrev pub invariant-loop-i : goal.invariant-loop-i
invariant-loop-i l =
    record {
      sixteen : length l.c ≡ 16;
      written : (j : ℕ) → j < l.i → get_or l.c j 0 ≡ joined_at l.a l.b j;
      low : (j : ℕ) → j < l.i → get_or l.b j 0 ≤ 65535;
    }
