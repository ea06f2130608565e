-- `round` meets its contract. Assumes nothing.
use Prim.Native.Nat.{◌-◌}
use mathlib.Core.Path.{◌≡◌}
use lib.Dec.{ltb}
use lib.ListN.{length}
use Rattle.counting.specs.Sums.{count}
use Rattle.machine.specs.Tables.{row, table_refusal}
use Rattle.machine.specs.Census.{is_critical}
use Rattle.machine.specs.Rounds.{round_on}
use Rattle.rounds.proofs.round.Given as goal

abbrev pub invariant-loop-p : goal.invariant-loop-p
invariant-loop-p l =
    record {
      sound : table_refusal l.rows ≡ 0;
      goes_on : round_on l.initial.rows 0 (length l.initial.rows)
          ≡ round_on l.rows l.p (length l.initial.rows - l.p);
      seen : l.occupied ≡ ltb 0 (count (λ q. is_critical (row l.rows q)) l.p);
    }
