-- The numbers that have P, less p: the members of `without`, and the count of the others.
--
--   less P p                             <=>  has P and is not p
--   less_same, less_other, less_implies  at p, elsewhere, and in P
--   count_less                           a count is that of the others, and what p counts
--   count_less_in                        and one more than that of the others, where p has P
--   count_swap                           Q, which misses at most one of P and has one more, counts no less
--
-- Assumes nothing.
use Prim.Native.Nat.{ℕ, ◌+◌, ◌≤◌, ◌<◌}
use mathlib.Core.Path.{◌≡◌, refl, sym, ap, ◌∙◌, subst}
use mathlib.Core.Bool.{Bool, true, false, ◌&&◌, not, false≢true, and-true, and-false, and-eq-true_iff}
use native.Mathlib.Omega.{arith}
use lib.Dec.{eqb}
use borrow.Author.Tests.{eq-eqb, ne_eqb}
use Rattle.counting.specs.Sums.{bit, count}
use Rattle.counting.proofs.CountLaws.{count_same_but, count_one}

-- has P and is not p
abbrev pub less : (ℕ → Bool) → ℕ → ℕ → Bool
less P p q = P q && not (eqb q p)

module _ (P : ℕ → Bool) (p : ℕ) where
  pub less_same : less P p p ≡ false
  less_same = ap (λ (b : Bool). P p && not b) (eq-eqb p p refl) ∙ and-false (P p)

  pub less_other : (q : ℕ) → (q ≡ p → ⊥) → less P p q ≡ P q
  less_other q ne = ap (λ (b : Bool). P q && not b) (ne_eqb q p ne) ∙ and-true (P q)

  pub less_implies : (q : ℕ) → less P p q ≡ true → P q ≡ true
  less_implies q h = ((and-eq-true_iff (P q) (not (eqb q p))).0 h).0

  -- a count is that of the others, and what p counts
  pub count_less : (n : ℕ) → p < n → count P n ≡ count (less P p) n + bit (P p)
  count_less n l =
      let e = count_same_but P (less P p) n p (λ q k ne. sym (less_other q ne)) l in
      let z = ap bit less_same in
      omega arith

  pub count_less_in : (n : ℕ) → p < n → P p ≡ true → count P n ≡ count (less P p) n + 1
  count_less_in n l h = count_less n l ∙ ap (λ (b : Bool). count (less P p) n + bit b) h

-- Q has all of P but perhaps r, and p besides; r may be any number, p or one past the end too
pub count_swap : (P Q : ℕ → Bool) (n p r : ℕ)
    → ((q : ℕ) → q < n → (q ≡ r → ⊥) → P q ≡ true → Q q ≡ true)
    → p < n
    → Q p ≡ true
    → P p ≡ false
    → count P n ≤ count Q n
count_swap P Q n p r h l hq hp =
    let not-p : (q : ℕ) → P q ≡ true → q ≡ p → ⊥ =
    λ q a e. false≢true (sym hp ∙ subst (λ (x : ℕ). P x ≡ true) e a) in
    let a = count_one P (less Q p) n r (λ q k ne i. less_other Q p q (not-p q i) ∙ h q k ne i) in
    let b = count_less_in Q p n l hq in
    omega arith
