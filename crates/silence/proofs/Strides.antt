-- The moves of a round between 21 and 24, where everybody shows its act and est has all others.
--
--   Stride p v r s    <=>  a move of p, for which turn[level] is v, makes row s of row r, and p was not at 24.
--   Advances t p u    <=>  a stride of p, or its push at 24, makes u of t.
--   stride_turn       a stride keeps the turn cell of its row
--   move_advances     every move of such a process is one of these: it discards nobody, and its level is not
--                     lowered for want of members of est
--
-- Assumes nothing.
use Prim.Native.Nat.{ℕ, ◌+◌, ◌-◌, ◌≤◌, ◌<◌}
use mathlib.Core.Path.{◌≡◌, refl}
use mathlib.Core.Bool.{true}
use native.Mathlib.Omega.{arith}
use lib.ListN.{length, set}
use Rattle.counting.specs.Sets.{has, size, without, lowest}
use Rattle.counting.proofs.SetLaws.{member_below}
use Rattle.machine.specs.Rows.{with_location, with_bb, with_level, with_lis}
use Rattle.machine.specs.Tables.{Table, row, table_refusal}
use Rattle.machine.specs.System.{assigned, turn_assigned}
use Rattle.machine.specs.declared.Row.{Row}
use Rattle.machine.proofs.SoundRows.{sound-row, sound_few}
use Rattle.machine.proofs.StepRows.{pushed_row}
use Rattle.machine.proofs.RoundLaws.{Move}
use Rattle.machine.proofs.RoundLaws.Move.{rests, enters, starts_scan, wins, discards, keeps, ends_scan, lowers}
use Rattle.machine.proofs.RoundLaws.Move.{to_push, waits, skips, pushes, exits, leaves}

pub data Stride (p v : ℕ) (r : Row) : Row → Type 0 where
  begins : r.location ≡ 21 → Stride p v r (with_location 22 (with_lis r.est r))
  looks : (x : ℕ) → x < 16 → r.location ≡ 22 → has r.lis x ≡ true → Stride p v r (with_lis (without r.lis x) r)
  ends : r.location ≡ 22 → r.lis ≡ 0 → Stride p v r (with_location 23 r)
  turns_up : r.location ≡ 23 → r.bb ≡ 0 → Stride p v r (with_location 24 r)
  falls :
      r.location ≡ 23 → (r.bb ≡ 0 → ⊥) → (v ≡ p → ⊥)
      → Stride p v r (with_location 21 (with_bb 0 (with_level (r.level - 1) r)))
  holds : r.location ≡ 23 → (r.bb ≡ 0 → ⊥) → v ≡ p → Stride p v r (with_location 21 r)

pub data Advances (t : Table) (p : ℕ) : Table → Type 0 where
  strides : (s : Row) → Stride p (row t (row t p).level).turn (row t p) s → Advances t p (set t p s)
  push : (row t p).location ≡ 24 → Advances t p (assigned (turn_assigned t (row t p).level p) p (pushed_row t p))

pub stride_turn : {p v : ℕ} {r s : Row} → Stride p v r s → s.turn ≡ r.turn
stride_turn (begins e) = refl
stride_turn (looks x l e h) = refl
stride_turn (ends e h) = refl
stride_turn (turns_up e h) = refl
stride_turn (falls e h k) = refl
stride_turn (holds e h k) = refl

module _ (t : Table) (p : ℕ) (z : table_refusal t ≡ 0) (l : p < length t)
    (shown : (q : ℕ) → q < length t → (row t q).act ≡ 0 → ⊥)
    (from : 21 ≤ (row t p).location) (to : (row t p).location ≤ 24)
    (high : 0 < (row t p).level) (full : size (row t p).est + 1 ≡ length t)
  where
    member_in : (q : ℕ) → has (row t p).lis q ≡ true → q < length t
    member_in q h = member_below (row t p).lis (length t) q (sound-row t z p l).lis_low h

    pub move_advances : {u : Table} → Move t p u → Advances t p u
    move_advances (rests e) = absurd (omega arith)
    move_advances (enters e) = absurd (omega arith)
    move_advances (starts_scan e h) = strides _ (begins e)
    move_advances (wins e h) = absurd (omega arith)
    move_advances (discards e h a) = absurd (shown _ (member_in _ h) a)
    move_advances (keeps e h a) =
        strides _ (looks (lowest (row t p).lis) (omega (arith, member_in _ h, sound_few t z)) e h)
    move_advances (ends_scan e h) = strides _ (ends e h)
    move_advances (lowers e h) = absurd (omega (arith, (sound-row t z p l).level_low))
    move_advances (to_push e h b) = strides _ (turns_up e b)
    move_advances (waits e h b v) = strides _ (falls e b v)
    move_advances (skips e h b v) = strides _ (holds e b v)
    move_advances (pushes e) = push e
    move_advances (exits e) = absurd (omega arith)
    move_advances (leaves e) = absurd (omega arith)
