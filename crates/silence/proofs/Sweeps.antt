-- Rows that change one after another, in number order.
--
--   Swept B A n p t        <=>  of n processes those below p have come to A, and the others are still at B.
--   swept_none, swept_all  nobody has changed; all have
--   swept_set              p is next, and its row is set to one with A
--
-- Assumes nothing.
use Prim.Native.Nat.{ℕ, suc, ◌≤◌, ◌<◌}
use native.Mathlib.Omega.{arith}
use lib.ListN.{length, set}
use Rattle.machine.specs.Tables.{Table, row}
use Rattle.machine.specs.declared.Row.{Row}
use Rattle.machine.proofs.TableLaws.{row_cases}

-- B is what rows have before, A what they have after; both may speak of the number of the process
abbrev pub Swept : (ℕ → Row → Type 0) → (ℕ → Row → Type 0) → ℕ → ℕ → Table → Type 0
Swept B A n p t = (q : ℕ) → q < n → (q < p → A q (row t q)) × (p ≤ q → B q (row t q))

module _ (B A : ℕ → Row → Type 0) (n : ℕ) (t : Table) where
  pub swept_none : ((q : ℕ) → q < n → B q (row t q)) → Swept B A n 0 t
  swept_none h q l = (λ i. absurd (omega arith), λ i. h q l)

  pub swept_all : Swept B A n n t → (q : ℕ) → q < n → A q (row t q)
  swept_all h q l = (h q l).0 l

  pub swept_set : (p : ℕ) (s : Row) → p < length t → Swept B A n p t → A p s → Swept B A n (suc p) (set t p s)
  swept_set p s l h a =
      row_cases (λ q r. q < n → (q < suc p → A q r) × (suc p ≤ q → B q r)) t p s l
      (λ i. (λ j. a, λ j. absurd (omega arith)))
      (λ q ne i. (λ j. (h q i).0 (omega (arith, ne)), λ j. (h q i).1 (omega arith)))
