-- Where bb is set: at 21, 22 and 23 alone, above level 0 (L0 and L1 of section 3.5 of the paper).
--
--   BbInside r              <=>  bb of row r is set only there.
--   step_keeps_bb_inside         every step of a process of a sound table keeps it in each row
--
-- Assumes nothing.
use Prim.Native.Nat.{ℕ, ◌≤◌, ◌<◌}
use mathlib.Core.Path.{◌≡◌, refl, sym, ◌∙◌}
use mathlib.Core.Bool.{true, false, ◌&&◌, false≢true}
use native.Mathlib.Omega.{arith}
use lib.Dec.{leb}
use lib.ListN.{length}
use Rattle.machine.specs.Tables.{Table, row, table_refusal, competes}
use Rattle.machine.specs.System.{Step}
use Rattle.machine.specs.System.Step.{rests, comes, flickers_20, enters, starts_scan, wins, discards, keeps}
use Rattle.machine.specs.System.Step.{ends_scan, lowers, to_push, waits, skips, flickers_24, pushes, exits}
use Rattle.machine.specs.System.Step.{flickers_40, leaves, cancels}
use Rattle.machine.specs.declared.Row.{Row}
use Rattle.machine.proofs.Assignments.{competes_at}
use Rattle.machine.proofs.SoundRows.{sound-row}
use Rattle.machine.proofs.StepRows.{step_row, step_keeps-rows}

abbrev pub BbInside : Row → Type 0
BbInside r = (r.bb ≡ 0 → ⊥) → (competes r ≡ true) × (r.location ≤ 23) × (0 < r.level)

module _ (t : Table) (p : ℕ) (z : table_refusal t ≡ 0) (l : p < length t) (h : (q : ℕ) → BbInside (row t q)) where
  -- bb is not set at a location v at which its process does not compete
  idle : {M : Type 0} (v : ℕ)
      → (row t p).location ≡ v
      → (leb 21 v && leb v 30) ≡ false
      → ((row t p).bb ≡ 0 → ⊥)
      → M
  idle v e o n = absurd (false≢true (sym (competes_at (row t p) v e ∙ o) ∙ (h p n).0))

  own : {u : Table} (x : Step t p u) → BbInside (step_row t p x)
  own (rests e) n = h p n
  own (comes e) n = idle 10 e refl n
  own (flickers_20 a e b) n = idle 20 e refl n
  own (enters e) n = idle 20 e refl n
  own (starts_scan e b) n = (refl, omega arith, b)
  own (wins e b) n = absurd (omega (arith, (h p n).2))
  own (discards q e b a) n = h p n
  own (keeps q e b a) n = h p n
  own (ends_scan e b) n = (refl, omega arith, (h p n).2)
  own (lowers e b) n = absurd (n refl)
  own (to_push e b c) n = absurd (n c)
  own (waits e b c v) n = absurd (n refl)
  own (skips e b c v) n = (refl, omega arith, (h p n).2)
  own (flickers_24 a e b) n = h p n
  own (pushes e) n = (refl, omega arith, (sound-row t z p l).level_some (omega arith) (omega arith))
  own (exits e) n = absurd (omega (arith, (h p n).1))
  own (flickers_40 a e b) n = idle 40 e refl n
  own (leaves e) n = idle 40 e refl n
  own (cancels e) n = idle 20 e refl n

  pub step_keeps_bb_inside : {u : Table} → Step t p u → (q : ℕ) → BbInside (row u q)
  step_keeps_bb_inside x =
      step_keeps-rows t p l (sound-row t z p l).level_low (λ q r. BbInside r) x (own x) (λ q ne. h q)
