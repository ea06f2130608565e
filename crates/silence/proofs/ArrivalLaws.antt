-- Laws of `Arrives`: some process is at 30 after at most so many rounds.
--
--   arrives_mono    within a larger bound too
--   arrives_next    after one round more, if it is so after a round
--   arrives_now     after one round
--
-- Assumes nothing.
use Prim.Native.Nat.{ℕ, suc, ◌≤◌}
use mathlib.Core.Path.{sym, subst}
use native.Mathlib.Nat.{le_trans}
use native.Mathlib.Omega.{arith}
use Rattle.machine.specs.Tables.{Table}
use Rattle.machine.specs.Census.{critical}
use Rattle.machine.specs.Rounds.{round}
use Rattle.machine.proofs.RoundLaws.{rounds_zero, rounds_suc}
use Rattle.silence.proofs.Steady.{Arrives}

module _ (t : Table) (b : ℕ) where
  pub arrives_mono : (c : ℕ) → b ≤ c → Arrives t b → Arrives t c
  arrives_mono c l (r, h, k) = (r, le_trans h l, k)

  pub arrives_next : Arrives (round t) b → Arrives t (suc b)
  arrives_next (r, h, k) = (suc r, omega arith, subst (λ (u : Table). 1 ≤ critical u) (sym (rounds_suc r t)) k)

  pub arrives_now : 1 ≤ critical (round t) → Arrives t (suc b)
  arrives_now h =
      arrives_next (0, omega arith, subst (λ (u : Table). 1 ≤ critical u) (sym (rounds_zero (round t))) h)
