-- From a steady table with nobody at 30 and somebody pending, the rounds of the bound bring some process to 30 if the
-- first of them is unbroken.
--
--   within_bound    some process is at 30 within it: the first round, and those of the quiet table that it leaves
--
-- Assumes nothing.
use Prim.Native.Nat.{ℕ, zero, suc, ◌+◌, ◌*◌, ◌≤◌}
use mathlib.Core.Path.{◌≡◌, refl, subst}
use mathlib.Core.Logic.{◌⊎◌, inl, inr}
use native.Mathlib.Omega.{arith}
use lib.ListN.{length}
use Rattle.machine.specs.Tables.{Table}
use Rattle.machine.specs.Census.{critical}
use Rattle.machine.specs.Rounds.{round, Unbroken, pending, silence_bound}
use Rattle.machine.proofs.SoundRows.{sound_rows}
use Rattle.silence.proofs.Steady.{Steady, Quiet, Arrives}
use Rattle.silence.proofs.Due.{phase}
use Rattle.silence.proofs.PhaseLaws.{bound_is}
use Rattle.silence.proofs.ArrivalLaws.{arrives_now, arrives_next}
use Rattle.silence.proofs.FirstRound.{first_round}
use Rattle.silence.proofs.Bound.{quiet_ends}

pub within_bound : (t : Table)
    → Steady t
    → Unbroken t
    → critical t ≡ 0
    → 1 ≤ pending t
    → Arrives t (silence_bound (length t))
within_bound t s whole none some = sized (length t) refl (first_round t s whole none some)
  where
    -- the first round leads to 30 or to a quiet table
    rest : (k : ℕ) → (1 ≤ critical (round t)) ⊎ Quiet (suc k) (round t) → Arrives t (suc (phase (suc k) * k + 1))
    rest k (inl c) = arrives_now t (phase (suc k) * k + 1) c
    rest k (inr q) = arrives_next t (phase (suc k) * k + 1) (quiet_ends k (round t) q)

    sized : (n : ℕ)
        → length t ≡ n
        → (1 ≤ critical (round t)) ⊎ Quiet n (round t)
        → Arrives t (silence_bound n)
    sized zero e h = absurd (omega (arith, (sound_rows t s.sound).0))
    sized (suc k) e h = subst (Arrives t) (bound_is k) (rest k h)
