-- Figure i + 1 counts a row where i has reached its threshold.
--
--   below_reached, held_reached   for i below 16; figure 0 counts no row: below_none, held_none
--   below_from_le, held_from_le   a threshold is at most 16 where the level is
--   below_from_is, held_from_is   a threshold as the code finds it
--   held_from_none                the threshold for `held` at level 0
--   below_from_out, held_from_out, out_critical    a row that does not compete
--
-- Assumes nothing.
use Prim.Native.Nat.{ℕ, suc, ◌≤◌, ◌<◌}
use mathlib.Core.Path.{◌≡◌, refl, ap, sym, ◌∙◌}
use mathlib.Core.Bool.{Bool, true, false, cond, ◌&&◌, ◌||◌, not, or-false, or-true, and-false, false≢true}
use native.Mathlib.Decide.{dec_lt}
use native.Mathlib.Omega.{arith}
use lib.Dec.{eqb, leb, ltb, leb-suc-suc, leb-suc-zero}
use borrow.Author.Tests.{eqb-true, lt-ltb, le-ltb, lt-leb}
use Rattle.counting.specs.Sets.{size}
use Rattle.counting.proofs.SizeLaws.{size_le_all}
use Rattle.machine.specs.Tables.{competes}
use Rattle.machine.specs.Census.{is_below, is_held, is_critical}
use Rattle.machine.specs.declared.Row.{Row}
use Rattle.census.specs.Series.{below_from, held_from}
use Rattle.counting.proofs.TestLaws.{fails, cond_le}

-- 16 is reached by no i below 16
reached : (b : Bool) (v i : ℕ) → i < 16 → leb (cond b v 16) i ≡ (b && ltb v (suc i))
reached true v i l = sym (leb-suc-suc v i)
reached false v i l = lt-leb 16 i l

-- the lesser of two numbers is under k where one of them is
lesser_under : (d : Bool) (m v k : ℕ) → ltb (cond (d && ltb m v) m v) k ≡ (ltb v k || (d && ltb m k))
lesser_under false m v k = sym (or-false (ltb v k))
lesser_under true m v k = go (dec_lt m v) (dec_lt m k) (dec_lt v k)
  where
    go : Dec (m < v) → Dec (m < k) → Dec (v < k) → ltb (cond (ltb m v) m v) k ≡ (ltb v k || ltb m k)
    go (yes a) (yes b) c = simp (lt-ltb m v a, lt-ltb m k b, or-true)
    go (yes a) (no b) c = simp (lt-ltb m v a, le-ltb m k (omega (arith, b)), le-ltb v k (omega (arith, a, b)))
    go (no a) b (yes c) = simp (le-ltb m v (omega (arith, a)), lt-ltb v k c)
    go (no a) b (no c) =
        simp (le-ltb m v (omega (arith, a)), le-ltb v k (omega (arith, c)), le-ltb m k (omega (arith, a, c)))

module _ (r : Row) where
  -- what `held_from` chooses by
  abbrev away : Bool
  away = not (eqb r.location 24)

  abbrev members : ℕ
  members = size r.ahead

  pub below_none : is_below 0 r ≡ false
  below_none = rw (leb-suc-zero r.level) (and-false (competes r))

  pub held_none : is_held 0 r ≡ false
  held_none = simp (leb-suc-zero, and-false)

  pub below_reached : (i : ℕ) → i < 16 → leb (below_from r) i ≡ is_below (suc i) r
  below_reached i l = reached (competes r) r.level i l

  pub held_reached : (i : ℕ) → i < 16 → leb (held_from r) i ≡ is_held (suc i) r
  held_reached i l =
      reached (competes r) (cond (away && ltb members r.level) members r.level) i l
      ∙ ap (λ (b : Bool). competes r && b) (lesser_under away members r.level (suc i))

  pub below_from_le : r.level ≤ 16 → below_from r ≤ 16
  below_from_le h = cond_le (competes r) r.level 16 16 h (omega arith)

  pub held_from_le : r.level ≤ 16 → held_from r ≤ 16
  held_from_le h =
      let less = away && ltb members r.level in
      cond_le (competes r) (cond less members r.level) 16 16
      (cond_le less members r.level 16 (size_le_all r.ahead) h) (omega arith)

  pub held_from_is : (m : ℕ) (b : Bool) → competes r ≡ true → m ≡ size r.ahead → (away && ltb m r.level) ≡ b
      → cond b m r.level ≡ held_from r
  held_from_is m b c e t = rw (sym t, e, c) refl

  pub below_from_is : competes r ≡ true → r.level ≡ below_from r
  below_from_is c = rw c refl

  pub held_from_none : competes r ≡ true → r.level ≡ 0 → 0 ≡ held_from r
  held_from_none c z =
      let less : (away && ltb members r.level) ≡ false =
      ap (λ (v : ℕ). away && ltb members v) z ∙ ap (λ (b : Bool). away && b) (le-ltb members 0 (omega arith))
      ∙ and-false away in
      sym (rw (c, less) z)

  pub below_from_out : competes r ≡ false → below_from r ≡ 16
  below_from_out c = rw c refl

  pub held_from_out : competes r ≡ false → held_from r ≡ 16
  held_from_out c = rw c refl

  pub out_critical : competes r ≡ false → is_critical r ≡ false
  out_critical c =
      fails (is_critical r)
      (λ e. false≢true (sym c ∙ ap (λ (l : ℕ). leb 21 l && leb l 30) (eqb-true r.location 30 e)))
