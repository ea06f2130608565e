-- The rounds that each process has left, while the processes of a round move one after the other.
--
--   Spends p j f g   <=>  p spends one of its suc j rounds, and no other process has fewer than j: f before, g after.
--   pace j p q       ==   what process q has after the moves of those below p: j if it has moved, suc j if not yet.
--   pace_first, pace_last, pace_spends    before the first move, after the last, and the move of p
--
-- Assumes nothing.
use Prim.Native.Nat.{ℕ, suc, ◌≤◌, ◌<◌}
use mathlib.Core.Path.{◌≡◌, ap}
use mathlib.Core.Bool.{Bool, cond}
use native.Mathlib.Decide.{dec_lt}
use native.Mathlib.Omega.{arith}
use lib.Dec.{ltb}
use borrow.Author.Tests.{le-ltb, lt-ltb}

pub record Spends (p j : ℕ) (f g : ℕ → ℕ) : Type 0 where
  pub before : f p ≡ suc j
  pub after : g p ≡ j
  pub same : (q : ℕ) → (q ≡ p → ⊥) → g q ≡ f q
  pub least : (q : ℕ) → j ≤ f q

abbrev pub pace : ℕ → ℕ → ℕ → ℕ
pace j p q = cond (ltb q p) j (suc j)

module _ (j : ℕ) where
  pace_moved : (p q : ℕ) → q < p → pace j p q ≡ j
  pace_moved p q h = ap (λ (b : Bool). cond b j (suc j)) (lt-ltb q p h)

  pace_waits : (p q : ℕ) → p ≤ q → pace j p q ≡ suc j
  pace_waits p q h = ap (λ (b : Bool). cond b j (suc j)) (le-ltb q p h)

  pub pace_first : (q : ℕ) → pace j 0 q ≡ suc j
  pace_first q = pace_waits 0 q (omega arith)

  pub pace_last : (n q : ℕ) → q < n → pace j n q ≡ j
  pace_last = pace_moved

  pub pace_spends : (p : ℕ) → Spends p j (pace j p) (pace j (suc p))
  pace_spends p =
      record {
        before = pace_waits p p (omega arith);
        after = pace_moved (suc p) p (omega arith);
        same = λ q ne. same q ne (dec_lt q p);
        least = λ q. least q (dec_lt q p);
      }
    where
      same : (q : ℕ) → (q ≡ p → ⊥) → Dec (q < p) → pace j (suc p) q ≡ pace j p q
      same q ne (yes h) = omega (arith, pace_moved (suc p) q (omega arith), pace_moved p q h)
      same q ne (no nh) =
          omega (arith, pace_waits (suc p) q (omega (arith, ne, nh)), pace_waits p q (omega (arith, nh)))

      least : (q : ℕ) → Dec (q < p) → j ≤ pace j p q
      least q (yes h) = omega (arith, pace_moved p q h)
      least q (no nh) = omega (arith, pace_waits p q (omega (arith, nh)))
