-- Where a move of a round leads, from elsewhere than 30.
--
--   Lands r s    <=>  row s is at 30 or may stand in a quiet table, and it competes just where row r was pending.
--   lands             the row of a process after its move, and the one before it
--
-- Assumes nothing.
use Prim.Native.Nat.{ℕ}
use mathlib.Core.Path.{◌≡◌, refl, sym, ap, ◌∙◌}
use mathlib.Core.Bool.{true, ◌&&◌}
use mathlib.Core.List.{◌∷◌}
use lib.Dec.{leb}
use Rattle.machine.specs.Tables.{Table, row, one_of, competes}
use Rattle.machine.specs.Rounds.{is_pending}
use Rattle.machine.specs.declared.Row.{Row}
use Rattle.machine.proofs.OneOfLaws.{one_of_at}
use Rattle.machine.proofs.Assignments.{competes_at}
use Rattle.machine.proofs.StepRows.{step_row}
use Rattle.machine.proofs.RoundLaws.{Move, move_step}
use Rattle.machine.proofs.RoundLaws.Move.{rests, enters, starts_scan, wins, discards, keeps, ends_scan, lowers, to_push}
use Rattle.machine.proofs.RoundLaws.Move.{waits, skips, pushes, exits, leaves}
use Rattle.silence.proofs.Steady.{quiet_places}

abbrev pub Lands : Row → Row → Type 0
Lands r s = (one_of s.location (30 ∷ quiet_places) ≡ true) × (competes s ≡ is_pending r)

module _ (t : Table) (p : ℕ) where
  -- p was at location v, and was pending or not
  pending-at : (v : ℕ) → (row t p).location ≡ v → (leb 20 v && leb v 24) ≡ is_pending (row t p)
  pending-at v e = sym (ap (λ (l : ℕ). leb 20 l && leb l 24) e)

  -- it stays at 22
  looks : (row t p).location ≡ 22 → Lands (row t p) (row t p)
  looks e = (
    one_of_at (row t p).location 22 (30 ∷ quiet_places) e refl,
    competes_at (row t p) 22 e ∙ pending-at 22 e,
  )

  pub lands : {u : Table} (m : Move t p u)
      → ((row t p).location ≡ 30 → ⊥)
      → Lands (row t p) (step_row t p (move_step m))
  unfolding move_step
  lands (rests e) n = (
    one_of_at (row t p).location 10 (30 ∷ quiet_places) e refl,
    competes_at (row t p) 10 e ∙ pending-at 10 e,
  )
  lands (enters e) n = (refl, pending-at 20 e)
  lands (starts_scan e h) n = (refl, pending-at 21 e)
  lands (wins e h) n = (refl, pending-at 21 e)
  lands (discards e h a) n = looks e
  lands (keeps e h a) n = looks e
  lands (ends_scan e h) n = (refl, pending-at 22 e)
  lands (lowers e h) n = (refl, pending-at 23 e)
  lands (to_push e h b) n = (refl, pending-at 23 e)
  lands (waits e h b v) n = (refl, pending-at 23 e)
  lands (skips e h b v) n = (refl, pending-at 23 e)
  lands (pushes e) n = (refl, pending-at 24 e)
  lands (exits e) n = absurd (n e)
  lands (leaves e) n = (refl, pending-at 40 e)
