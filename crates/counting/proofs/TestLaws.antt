-- Laws of tests and choices, beside those of mathlib.Core.Bool and borrow.Author.Tests.
--
--   or_cases, implied, implies      what a disjunction and an implication say
--   fails                           a test that cannot hold fails
--   same_test, beq_true             tests that imply each other are equal, and so are tests that compare as equal
--   at_one                          from a to a is a itself
--   split                           a test by cases, with the equation kept
--   choice_on, choice_off           a choice whose test is known
--   cond_same                       a choice of one thing
--   cond_zero, cond_le, times_bit   a chain of refusals, a bound of a choice, a choice as a product
--   every_at, same_at               a rule of the numbers below a bound, by one test that antt computes
--
-- Assumes nothing.
use Prim.Native.Nat.{ℕ, zero, suc, ◌*◌, ◌≤◌, ◌<◌}
use mathlib.Core.Path.{◌≡◌, refl, sym, ap, ◌∙◌, subst}
use mathlib.Core.Bool.{Bool, true, false, cond, ◌&&◌, ◌||◌, not, beq, and-eq-true_iff, false≢true}
use mathlib.Core.Logic.{◌⊎◌, inl, inr}
use native.Mathlib.Decide.{ℕ_discrete, dec_le}
use native.Mathlib.Omega.{arith}
use lib.Dec.{eqb, leb}
use borrow.Author.Tests.{le-leb, lt-leb, eq-eqb, ne_eqb}
use Rattle.counting.specs.Sums.{bit}

-- ---- tests

pub or_cases : (a b : Bool) → (a || b) ≡ true → (a ≡ true) ⊎ (b ≡ true)
or_cases true b h = inl refl
or_cases false b h = inr h

-- `not a || b` is the implication
pub implied : (a b : Bool) → (not a || b) ≡ true → a ≡ true → b ≡ true
implied true b h e = h
implied false b h e = absurd (false≢true e)

pub implies : (a b : Bool) → (a ≡ true → b ≡ true) → (not a || b) ≡ true
implies true b f = f refl
implies false b f = refl

-- a test that cannot hold fails
pub fails : (a : Bool) → (a ≡ true → ⊥) → a ≡ false
fails true h = absurd (h refl)
fails false h = refl

-- tests that imply each other
pub same_test : (a b : Bool) → (a ≡ true → b ≡ true) → (b ≡ true → a ≡ true) → a ≡ b
same_test true b f g = sym (f refl)
same_test false true f g = g refl
same_test false false f g = refl

-- from a to a is a itself
pub at_one : (a l : ℕ) → (leb a l && leb l a) ≡ eqb l a
at_one a l = go (dec_le a l) (dec_le l a)
  where
    go : Dec (a ≤ l) → Dec (l ≤ a) → (leb a l && leb l a) ≡ eqb l a
    go (yes h) (yes k) = simp (le-leb a l h, le-leb l a k, eq-eqb l a (omega (arith, h, k)))
    go (yes h) (no k) =
        simp (le-leb a l h, lt-leb l a (omega (arith, k)), ne_eqb l a (λ e. absurd (omega (arith, k, e))))
    go (no h) k = simp (lt-leb a l (omega (arith, h)), ne_eqb l a (λ e. absurd (omega (arith, h, e))))

-- ---- choices

-- a test is true or false, with the equation kept
pub split : (P : Bool → Type 0) (b : Bool) → (b ≡ true → P true) → (b ≡ false → P false) → P b
split P true f g = f refl
split P false f g = g refl

pub choice_on : (b : Bool) (v x : ℕ) → b ≡ true → cond b v x ≡ v
choice_on b v x e = rw e

pub choice_off : (b : Bool) (v x : ℕ) → b ≡ false → cond b v x ≡ x
choice_off b v x e = rw e

pub cond_same : {A : Type 0} (b : Bool) (x : A) → cond b x x ≡ x
cond_same true x = refl
cond_same false x = refl

-- a chain of refusals ends in 0 only past each of them
pub cond_zero : (b : Bool) (v x : ℕ) → cond (not b) (suc v) x ≡ 0 → (b ≡ true) × (x ≡ 0)
cond_zero true v x h = (refl, h)
cond_zero false v x h = absurd (omega arith)

pub cond_le : (b : Bool) (x y m : ℕ) → x ≤ m → y ≤ m → cond b x y ≤ m
cond_le true x y m h k = h
cond_le false x y m h k = k

-- a product with a test is a choice
pub times_bit : (b : Bool) (x v : ℕ) → v ≡ bit b → x * v ≡ cond b x 0
times_bit b x v e = ap (λ (w : ℕ). x * w) e ∙ go b
  where
    go : (b : Bool) → x * bit b ≡ cond b x 0
    go true = omega arith
    go false = omega arith

-- ---- a rule proved by one computed test

-- P holds at each number below n
unfoldable pub every : (ℕ → Bool) → ℕ → Bool
every P zero = true
every P (suc n) = P n && every P n

pub every_at : (P : ℕ → Bool) (n : ℕ) → every P n ≡ true → (k : ℕ) → k < n → P k ≡ true
unfolding every
every_at P zero t k h = absurd (omega arith)
every_at P (suc n) t k h = go (ℕ_discrete k n) (every_at P n ((and-eq-true_iff (P n) (every P n)).0 t).1 k)
  where
    go : Dec (k ≡ n) → (k < n → P k ≡ true) → P k ≡ true
    go (yes e) below = subst (λ (x : ℕ). P x ≡ true) (sym e) ((and-eq-true_iff (P n) (every P n)).0 t).0
    go (no ne) below = below (omega (arith, ne))

pub beq_true : (a b : Bool) → beq a b ≡ true → a ≡ b
beq_true true true h = refl
beq_true false false h = refl
beq_true true false h = sym h
beq_true false true h = h

pub same_at : (P Q : ℕ → Bool) (n : ℕ)
    → every (λ k. beq (P k) (Q k)) n ≡ true
    → (k : ℕ) → k < n → P k ≡ Q k
same_at P Q n t k h = beq_true (P k) (Q k) (every_at (λ k. beq (P k) (Q k)) n t k h)
