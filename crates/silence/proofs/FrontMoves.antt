-- One move of a process of a front, by its row: it has one move less due, or leaves the level, or stays behind.
--
--   high_stride             above the front a process stays on its level, for turn[level] is its own number
--   low_stride              in the front a stride leaves one move less due, until the decision at 23 with bb set
--   last_stride             by that one process l stays behind on level l, and the others go down
--   low_push, pushed_low    at 24 just n + 3 moves are due, and the push leaves n + 2
--   stride_due              away from 24 it is some other number than n + 3
--
-- Assumes nothing.
use Prim.Native.Nat.{ℕ, suc, ◌+◌, ◌≤◌, ◌<◌}
use mathlib.Core.Path.{◌≡◌, ap, ◌∙◌}
use mathlib.Core.Logic.{◌≢◌}
use native.Mathlib.Decide.{ℕ_discrete}
use native.Mathlib.Omega.{arith}
use lib.ListN.{length}
use Rattle.counting.specs.Sets.{size, without}
use Rattle.counting.proofs.SizeLaws.{size_zero, size_without_in, size-others}
use Rattle.machine.specs.Rows.{with_location, with_lis}
use Rattle.machine.specs.Tables.{Table}
use Rattle.machine.specs.declared.Row.{Row}
use Rattle.machine.proofs.StepRows.{pushed_row}
use Rattle.silence.proofs.Due.{left, due, phase}
use Rattle.silence.proofs.DueLaws.{left_21, left_22, left_23, left_24, due_unset, due_set}
use Rattle.silence.proofs.Front.{Low, FrontRow}
use Rattle.silence.proofs.Strides.{Stride}
use Rattle.silence.proofs.Strides.Stride.{begins, looks, ends, turns_up, falls, holds}

-- ---- above the front

module _ (n l c p : ℕ) (r : Row) (f : FrontRow n l c p r) (above : l < p) where
  -- another place in the loop, and another lis
  high_at : (j d v x : ℕ) → j ≤ l → 21 ≤ v → v ≤ 23 → FrontRow n j d p (with_location v (with_lis x r))
  high_at j d v x i a b =
      let h = f.high above in
      record {
        act_shown = f.act_shown;
        est_full = f.est_full;
        low = λ k. absurd (omega arith);
        high = λ k. record { from_21 = a; to_23 = b; level_is = h.level_is; bb_set = h.bb_set };
      }

  pub high_stride : (j d v : ℕ) {s : Row} → j ≤ l → v ≡ p → Stride p v r s → FrontRow n j d p s
  high_stride j d v i e (begins h) = high_at j d 22 r.est i (omega arith) (omega arith)
  high_stride j d v i e (looks x k h m) =
      high_at j d r.location (without r.lis x) i (omega arith) (omega arith)
  high_stride j d v i e (ends h m) = high_at j d 23 r.lis i (omega arith) (omega arith)
  high_stride j d v i e (turns_up h b) = absurd ((f.high above).bb_set b)
  high_stride j d v i e (falls h b ne) = absurd (ne e)
  high_stride j d v i e (holds h b k) = high_at j d 21 r.lis i (omega arith) (omega arith)

-- ---- in the front

module _ (n l c p : ℕ) (r : Row) (f : FrontRow n l c p r) (in_front : p ≤ l) where
  own : Low n l c r
  own = f.low in_front

  -- another place in the loop, and another lis
  low-at : (d v x : ℕ) → 21 ≤ v → v ≤ 24 → due n (with_location v (with_lis x r)) ≡ d
      → FrontRow n l d p (with_location v (with_lis x r))
  low-at d v x a b e =
      record {
        act_shown = f.act_shown;
        est_full = f.est_full;
        low = λ k. record { from_21 = a; to_24 = b; level_is = own.level_is; due_is = e };
        high = λ k. absurd (omega arith);
      }

  pub low_stride : (d v : ℕ) {s : Row} → c ≡ suc d → 1 ≤ d → Stride p v r s → FrontRow n l d p s
  low_stride d v i k (begins h) =
      low-at d 22 r.est (omega arith) (omega arith) (omega (arith, own.due_is, left_21 r h))
  low_stride d v i k (looks x m h g) =
      low-at d r.location (without r.lis x) (omega arith) (omega arith)
      (let fewer = size_without_in r.lis x m g in
      omega (arith, own.due_is, left_22 r h, left_22 (with_lis (without r.lis x) r) h))
  low_stride d v i k (ends h z) =
      low-at d 23 r.lis (omega arith) (omega arith)
      (omega (arith, own.due_is, left_22 r h, ap size z ∙ size_zero))
  low_stride d v i k (turns_up h b) =
      low-at d 24 r.lis (omega arith) (omega arith) (omega (arith, own.due_is, left_23 r h))
  low_stride d v i k (falls h b ne) = absurd (omega (arith, own.due_is, left_23 r h, due_set r n b))
  low_stride d v i k (holds h b e) = absurd (omega (arith, own.due_is, left_23 r h, due_set r n b))

  -- v is turn[l], and j is the level below l
  pub last_stride : (j v : ℕ) {s : Row} → c ≡ 1 → l ≡ suc j → v ≡ l → Stride p v r s → FrontRow n j (phase n) p s
  last_stride j v i k e (begins h) = absurd (omega (arith, own.due_is, left_21 r h))
  last_stride j v i k e (looks x m h g) = absurd (omega (arith, own.due_is, left_22 r h))
  last_stride j v i k e (ends h z) = absurd (omega (arith, own.due_is, left_22 r h))
  last_stride j v i k e (turns_up h b) = absurd (omega (arith, own.due_is, left_23 r h, due_unset r n b))
  last_stride j v i k e (falls h b ne) =
      record {
        act_shown = f.act_shown;
        est_full = f.est_full;
        low =
            λ m.
            record {
              from_21 = omega arith;
              to_24 = omega arith;
              level_is = omega (arith, own.level_is);
              due_is = omega (arith, f.est_full);
            };
        high = λ m. absurd (ne (omega arith));
      }
  last_stride j v i k e (holds h b g) =
      record {
        act_shown = f.act_shown;
        est_full = f.est_full;
        low = λ m. absurd (omega arith);
        high =
            λ m.
            record { from_21 = omega arith; to_23 = omega arith; level_is = omega (arith, own.level_is); bb_set = b };
      }

  -- ---- the push

  pub low_push : 1 ≤ c → r.location ≡ 24 → c ≡ n + 3
  low_push i e = go (ℕ_discrete r.bb 0)
    where
      go : Dec (r.bb ≡ 0) → c ≡ n + 3
      go (yes z) = omega (arith, own.due_is, left_24 r e, due_unset r n z)
      go (no s) = absurd (omega (arith, own.due_is, left_24 r e, due_set r n s))

  pub pushed_low : (t : Table) → length t ≡ n → n ≤ 16 → p < n → FrontRow n l (n + 2) p (pushed_row t p r)
  pushed_low t e few m =
      let others-are = size-others (length t) p (omega arith) (omega arith) in
      record {
        act_shown = f.act_shown;
        est_full = omega arith;
        low =
            λ k.
            record { from_21 = omega arith; to_24 = omega arith; level_is = own.level_is; due_is = omega arith };
        high = λ k. absurd (omega arith);
      }

  stride_left : (v : ℕ) {s : Row} → size r.lis ≤ n → Stride p v r s → (1 ≤ left r) × (left r ≤ n + 2)
  stride_left v i (begins h) = (omega (arith, left_21 r h), omega (arith, left_21 r h, f.est_full))
  stride_left v i (looks x m h g) = (omega (arith, left_22 r h), omega (arith, left_22 r h))
  stride_left v i (ends h z) = (omega (arith, left_22 r h), omega (arith, left_22 r h))
  stride_left v i (turns_up h b) = (omega (arith, left_23 r h), omega (arith, left_23 r h))
  stride_left v i (falls h b ne) = (omega (arith, left_23 r h), omega (arith, left_23 r h))
  stride_left v i (holds h b e) = (omega (arith, left_23 r h), omega (arith, left_23 r h))

  pub stride_due : (v : ℕ) {s : Row} → size r.lis ≤ n → Stride p v r s → c ≢ n + 3
  stride_due v i x e = go (ℕ_discrete r.bb 0)
    where
      go : Dec (r.bb ≡ 0) → ⊥
      go (yes z) = omega (arith, own.due_is, due_unset r n z, (stride_left v i x).0, e)
      go (no s) = omega (arith, own.due_is, due_set r n s, (stride_left v i x).1, e)
