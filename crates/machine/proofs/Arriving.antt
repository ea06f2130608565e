-- Who is at 30 after a round: those whose own move led there.
--
--   move_arrives     a process is at 30 after its move just where it was at 21 with level 0
--   critical_next    so many are at 30 among the processes that have moved, one move later
--
-- Assumes nothing.
use Prim.Native.Nat.{ℕ, suc, ◌+◌, ◌<◌}
use mathlib.Core.Path.{◌≡◌, refl, sym, ap, ◌∙◌}
use mathlib.Core.Bool.{Bool, false, ◌&&◌}
use native.Mathlib.Omega.{arith}
use lib.Dec.{eqb}
use lib.ListN.{length}
use borrow.Author.Tests.{eq-eqb, ne_eqb}
use Rattle.counting.specs.Sums.{bit, count}
use Rattle.counting.proofs.CountLaws.{count_cong, count_suc}
use Rattle.machine.specs.Tables.{Table, row, table_refusal}
use Rattle.machine.specs.Census.{is_critical}
use Rattle.machine.specs.declared.Row.{Row}
use Rattle.machine.proofs.SoundRows.{sound-row}
use Rattle.machine.proofs.Frames.{step_others}
use Rattle.machine.proofs.StepRows.{step_row, step_becomes}
use Rattle.machine.proofs.RoundLaws.{Move, move_step}
use Rattle.machine.proofs.RoundLaws.Move.{rests, enters, starts_scan, wins, discards, keeps, ends_scan, lowers}
use Rattle.machine.proofs.RoundLaws.Move.{to_push, waits, skips, pushes, exits, leaves}

-- the row of a process whose next move leads to 30
abbrev pub arriving : Row → Bool
arriving r = eqb r.location 21 && eqb r.level 0

module _ (t : Table) (p : ℕ) where
  -- at 21 and nowhere else
  elsewhere : (v : ℕ) → (row t p).location ≡ v → eqb v 21 ≡ false → false ≡ arriving (row t p)
  elsewhere v e z = sym (ap (λ (b : Bool). b && eqb (row t p).level 0) (ap (λ (x : ℕ). eqb x 21) e ∙ z))

  at_21 : (row t p).location ≡ 21 → arriving (row t p) ≡ eqb (row t p).level 0
  at_21 e = ap (λ (x : ℕ). eqb x 21 && eqb (row t p).level 0) e

  -- the row after the move is at 30
  own_arrives : {u : Table} (m : Move t p u) → is_critical (step_row t p (move_step m)) ≡ arriving (row t p)
  unfolding move_step
  own_arrives (rests e) = ap (λ (x : ℕ). eqb x 30) e ∙ elsewhere 10 e refl
  own_arrives (enters e) = elsewhere 20 e refl
  own_arrives (starts_scan e h) = sym (at_21 e ∙ ne_eqb (row t p).level 0 (λ z. absurd (omega arith)))
  own_arrives (wins e h) = sym (at_21 e ∙ eq-eqb _ _ h)
  own_arrives (discards e h a) = ap (λ (x : ℕ). eqb x 30) e ∙ elsewhere 22 e refl
  own_arrives (keeps e h a) = ap (λ (x : ℕ). eqb x 30) e ∙ elsewhere 22 e refl
  own_arrives (ends_scan e h) = elsewhere 22 e refl
  own_arrives (lowers e h) = elsewhere 23 e refl
  own_arrives (to_push e h b) = elsewhere 23 e refl
  own_arrives (waits e h b v) = elsewhere 23 e refl
  own_arrives (skips e h b v) = elsewhere 23 e refl
  own_arrives (pushes e) = elsewhere 24 e refl
  own_arrives (exits e) = elsewhere 30 e refl
  own_arrives (leaves e) = elsewhere 40 e refl

module _ (t u : Table) (p : ℕ) (z : table_refusal t ≡ 0) (l : p < length t) (m : Move t p u) where
  pub move_arrives : is_critical (row u p) ≡ arriving (row t p)
  move_arrives =
      let b = step_becomes t p l (sound-row t z p l).level_low (move_step m) in
      ap is_critical b.own ∙ own_arrives t p m

  pub critical_next : count (λ q. is_critical (row u q)) (suc p)
      ≡ count (λ q. is_critical (row t q)) p + bit (is_critical (row u p))
  critical_next =
      let same : (q : ℕ) → q < p → is_critical (row u q) ≡ is_critical (row t q) =
      λ q k. ap (λ (x : ℕ). eqb x 30) (step_others t u p q (move_step m) (λ e. absurd (omega arith))).location_same in
      count_suc (λ q. is_critical (row u q)) p
      ∙ ap (λ (n : ℕ). n + bit (is_critical (row u p)))
      (count_cong (λ q. is_critical (row u q)) (λ q. is_critical (row t q)) p same)
