-- One of some numbers: what holds at each of them holds at it.
--
--   by_one      by a case for each of them
--   by_test     by one computed test that each of them passes
--   one_of_at    a number that equals one of them
--
-- Assumes nothing.
use Prim.Native.Nat.{ℕ}
use mathlib.Core.Path.{◌≡◌, ap, ◌∙◌}
use mathlib.Core.Bool.{Bool, true, ◌&&◌, false≢true, and-eq-true_iff}
use mathlib.Core.Logic.{⊎_elim}
use mathlib.Core.List.{List, [], ◌∷◌}
use lib.Dec.{eqb}
use borrow.Author.Tests.{eqb-true}
use Rattle.counting.proofs.TestLaws.{or_cases}
use Rattle.machine.specs.Tables.{one_of}

-- a case for each of them
abbrev pub Cases : ℕ → List ℕ → Type 0 → Type 0
Cases x [] M = Unit {0}
Cases x (v ∷ vs) M = (x ≡ v → M) × Cases x vs M

pub by_one : (x : ℕ) (vs : List ℕ) {M : Type 0} → Cases x vs M → one_of x vs ≡ true → M
by_one x [] c h = absurd (false≢true h)
by_one x (v ∷ vs) c h =
    ⊎_elim (λ e. c.0 (eqb-true x v e)) (λ e. by_one x vs c.1 e) (or_cases (eqb x v) (one_of x vs) h)

-- each of them passes a test
abbrev pub each_passes : (ℕ → Bool) → List ℕ → Bool
each_passes P [] = true
each_passes P (v ∷ vs) = P v && each_passes P vs

pub by_test : (P : ℕ → Bool) (x : ℕ) (vs : List ℕ) → each_passes P vs ≡ true → one_of x vs ≡ true → P x ≡ true
by_test P x [] t h = absurd (false≢true h)
by_test P x (v ∷ vs) t h =
    let each = (and-eq-true_iff (P v) (each_passes P vs)).0 t in
    ⊎_elim (λ e. ap P (eqb-true x v e) ∙ each.0) (by_test P x vs each.1) (or_cases (eqb x v) (one_of x vs) h)

-- x is one of them where it equals one of them
pub one_of_at : (x v : ℕ) (vs : List ℕ) → x ≡ v → one_of v vs ≡ true → one_of x vs ≡ true
one_of_at x v vs e h = ap (λ (y : ℕ). one_of y vs) e ∙ h
