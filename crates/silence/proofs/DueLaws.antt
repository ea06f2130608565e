-- Laws of `left` and `due`.
--
--   left_21 .. left_24        what is left at each location
--   left_pos                  away from 24 the decision at 23 is to come
--   due_set, due_unset        with bb set no more than that is due, and with bb 0 a push and a second scan
--   due_falls                 a move nearer to 23 is one move less
--
-- Assumes nothing.
use Prim.Native.Nat.{ℕ, ◌+◌, ◌≤◌}
use mathlib.Core.Path.{◌≡◌, ap}
use mathlib.Core.Bool.{Bool, cond}
use native.Mathlib.Omega.{arith}
use lib.Dec.{eqb}
use borrow.Author.Tests.{eq-eqb, ne_eqb}
use Rattle.counting.specs.Sets.{size}
use Rattle.counting.proofs.TestLaws.{split}
use Rattle.machine.specs.declared.Row.{Row}
use Rattle.silence.proofs.Due.{left, due}

module _ (r : Row) where
  pub left_21 : r.location ≡ 21 → left r ≡ size r.est + 3
  left_21 e = rw e

  pub left_22 : r.location ≡ 22 → left r ≡ size r.lis + 2
  left_22 e = rw e

  pub left_23 : r.location ≡ 23 → left r ≡ 1
  left_23 e = rw e

  pub left_24 : r.location ≡ 24 → left r ≡ 0
  left_24 e = rw e

  pub left_pos : (r.location ≡ 24 → ⊥) → 1 ≤ left r
  left_pos ne =
      rw (ne_eqb _ _ ne)
      (split (λ b. 1 ≤ cond b 1 (cond (eqb r.location 22) (size r.lis + 2) (size r.est + 3)))
      (eqb r.location 23)
      (λ h. omega arith)
      (λ h.
      split (λ b. 1 ≤ cond b (size r.lis + 2) (size r.est + 3)) (eqb r.location 22)
      (λ i. omega arith) (λ i. omega arith)))

  pub due_set : (n : ℕ) → (r.bb ≡ 0 → ⊥) → due n r ≡ left r
  due_set n ne = let e = ap (λ (b : Bool). cond b (n + 3) 0) (ne_eqb _ _ ne) in omega arith

  pub due_unset : (n : ℕ) → r.bb ≡ 0 → due n r ≡ left r + (n + 3)
  due_unset n e = ap (λ (b : Bool). left r + cond b (n + 3) 0) (eq-eqb _ _ e)

-- s is r one move later
pub due_falls : (n : ℕ) (r s : Row) → s.bb ≡ r.bb → left s + 1 ≤ left r → due n s + 1 ≤ due n r
due_falls n r s e h = let i = ap (λ (b : ℕ). cond (eqb b 0) (n + 3) 0) e in omega arith
