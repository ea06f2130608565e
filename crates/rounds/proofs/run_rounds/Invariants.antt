-- `run_rounds` meets its contract. Assumes nothing.
use Prim.Native.Nat.{◌-◌}
use mathlib.Core.Path.{◌≡◌}
use lib.Dec.{ltb}
use lib.ListN.{length}
use Rattle.machine.specs.Tables.{table_refusal}
use Rattle.machine.specs.Census.{critical}
use Rattle.machine.specs.Rounds.{round_limit, rounds_from}
use Rattle.rounds.proofs.run_rounds.Given as goal

abbrev pub invariant-loop-r : goal.invariant-loop-r
invariant-loop-r l =
    record {
      sound : table_refusal l.rows ≡ 0;
      seen : l.occupied ≡ ltb 0 (critical l.rows);
      goes_on : rounds_from (round_limit (length l.initial.rows)) 0 l.initial.rows
          ≡ rounds_from (l.limit - l.r) l.r l.rows;
    }
