-- `passes::rest_clear` meets its contract: a count that is not 0 shows in what the loop joins. Assumes nothing.
use Prim.Native.Nat.{ℕ, ◌≤◌, ◌<◌}
use mathlib.Core.Path.{◌≡◌}
use lib.Dec.{ltb}
use lib.ListN.{get_or}
use Rattle.rows.specs.Passes.{past_at}
use Rattle.rows.proofs.PassLaws.{none_of}
use Rattle.rows.proofs.passes.rest_clear.Given as goal

abbrev pub invariant-loop-i : goal.invariant-loop-i
invariant-loop-i l =
    record {
      none : ltb l.any 1 ≡ none_of (past_at l.n l.a) l.i;
      low : (j : ℕ) → j < l.i → get_or l.a j 0 ≤ 65535;
    }
