-- The census, evaluated: who waits. Assumes nothing.
use Prim.Native.Nat.{ℕ}
use mathlib.Core.Path.{◌≡◌, refl}
use mathlib.Core.Bool.{◌&&◌}
use mathlib.Core.List.{List, [], ◌∷◌, map}
use lib.Dec.{leb}
use lib.ListN.{replicate}
use Rattle.counting.specs.Sums.{bit}
use Rattle.counting.specs.Ranges.{up_to}
use Rattle.machine.specs.Rows.{idle, with_location, with_level}
use Rattle.machine.specs.Tables.{locations, fresh_table}
use Rattle.machine.specs.Census.{census_of}
use Rattle.machine.specs.Settings.{weakest}
use Rattle.machine.specs.Runs.{run_of}
use Rattle.machine.specs.declared.Census.{Census}
use Rattle.machine.proofs.Benchmarks.{evaluated}

-- process 0 at 20, where it still writes act, and process 1 at 21, where it has written it: one waits, not two
pub one_at_20_one_at_21 :
    census_of (run_of weakest (fresh_table 2) (0x20000000 ∷ 0x20010000 ∷ 0x40010000 ∷ [])).table
    ≡ record {
      refusal = 0;
      critical = 0;
      waiting = 1;
      below = 0 ∷ 0 ∷ 1 ∷ replicate 14 0;
      held = 0 ∷ 1 ∷ 1 ∷ replicate 14 0;
    }
unfolding evaluated census_of up_to
one_at_20_one_at_21 = refl

-- a figure of the census of two processes, one at each location in turn, 10, 20, 21, 22, 23, 24, 30, 40, with a level
-- that goes with it there, the other at 10
pub at_each : (Census → ℕ) → List ℕ
unfolding evaluated census_of up_to
at_each figure =
    map (λ l. figure (census_of (with_location l (with_level (bit (leb 22 l && leb l 24)) idle) ∷ idle ∷ []))) locations

pub who_waits : at_each (λ c. c.waiting) ≡ 0 ∷ 0 ∷ 1 ∷ 1 ∷ 1 ∷ 1 ∷ 0 ∷ 0 ∷ []
unfolding at_each
who_waits = refl

pub who_is_critical : at_each (λ c. c.critical) ≡ 0 ∷ 0 ∷ 0 ∷ 0 ∷ 0 ∷ 0 ∷ 1 ∷ 0 ∷ []
unfolding at_each
who_is_critical = refl

-- none of them is refused
pub none_refused : at_each (λ c. c.refusal) ≡ replicate 8 0
unfolding at_each
none_refused = refl
