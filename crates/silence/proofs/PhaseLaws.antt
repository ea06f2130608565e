-- The bound in phases: one round, a phase for each process but one, and the last round.
--
--   bound_is     so it is
--   bound_fits   and it is below the limit of the request
--
-- Assumes nothing.
use Prim.Native.Nat.{ℕ, zero, suc, ◌+◌, ◌*◌, ◌≤◌}
use mathlib.Core.Path.{◌≡◌}
use native.Mathlib.Omega.{arith}
use Rattle.machine.specs.Rounds.{round_limit, silence_bound}
use Rattle.silence.proofs.Due.{phase}

pub bound_is : (k : ℕ) → suc (phase (suc k) * k + 1) ≡ silence_bound (suc k)
bound_is k = omega arith

pub bound_fits : (n : ℕ) → silence_bound n ≤ round_limit n
bound_fits zero = omega arith
bound_fits (suc k) = omega arith
