-- `passes::raisable` meets its contract: a count at its limit shows in what the loop joins. Assumes nothing.
use Prim.Native.Nat.{ℕ, ◌≤◌, ◌<◌}
use mathlib.Core.Path.{◌≡◌}
use lib.Dec.{ltb}
use lib.ListN.{get_or}
use Rattle.rows.proofs.PassLaws.{none_of, full_at}
use Rattle.rows.proofs.passes.raisable.Given as goal

abbrev pub invariant-loop-i : goal.invariant-loop-i
invariant-loop-i l =
    record {
      none : ltb l.any 1 ≡ none_of (full_at l.c l.a) l.i;
      low : (j : ℕ) → j < l.i → get_or l.a j 0 ≤ 65535;
    }
