-- Laws of `sum`, the one recursion that counts and sets are made of.
--
--   sum_zero, sum_suc, sum_next   the sum over no number, and what a new last number adds (`n + 1` in a loop)
--   sum_cong            functions that agree below n have the same sum
--   sum-parts           a function that is the sum of two has the sum of their sums
--   sum_mono            functions in order below n have sums in order
--   sum_strict          and strictly, where one place is strict
--   sum_one             but for one place p, a sum is at most the other and f p
--   sum_bound           values of at most b give a sum of at most n * b
--   sum_up              a sum over more numbers is no smaller
--   sum_over            places of value 0 past n add nothing
--
-- Assumes nothing.
use Prim.Native.Nat.{ℕ, zero, suc, ◌+◌, ◌*◌, ◌≤◌, ◌<◌}
use mathlib.Core.Path.{◌≡◌, refl, sym, ap₂, subst}
use native.Mathlib.Nat.{add-le-add, le_refl, suc-mul}
use native.Mathlib.Numerals.{add-one}
use native.Mathlib.Decide.{ℕ_discrete}
use native.Mathlib.Omega.{arith}
use Rattle.counting.specs.Sums.{sum}

pub sum_zero : (f : ℕ → ℕ) → sum f 0 ≡ 0
unfolding sum
sum_zero f = refl

pub sum_suc : (f : ℕ → ℕ) (n : ℕ) → sum f (suc n) ≡ sum f n + f n
unfolding sum
sum_suc f n = refl

pub sum_next : (f : ℕ → ℕ) (n : ℕ) → sum f (n + 1) ≡ sum f n + f n
sum_next f n = rw (add-one n) (sum_suc f n)

pub sum_cong : (f g : ℕ → ℕ) (n : ℕ) → ((q : ℕ) → q < n → f q ≡ g q) → sum f n ≡ sum g n
unfolding sum
sum_cong f g zero h = refl
sum_cong f g (suc n) h =
    ap₂ (λ (a b : ℕ). a + b) (sum_cong f g n (λ q l. h q (omega arith))) (h n (omega arith))

pub sum-parts : (f g h : ℕ → ℕ) (n : ℕ) → ((q : ℕ) → q < n → f q ≡ g q + h q) → sum f n ≡ sum g n + sum h n
unfolding sum
sum-parts f g h zero e = refl
sum-parts f g h (suc n) e =
    let before = sum-parts f g h n (λ q l. e q (omega arith)) in
    let last = e n (omega arith) in
    omega arith

pub sum_mono : (f g : ℕ → ℕ) (n : ℕ) → ((q : ℕ) → q < n → f q ≤ g q) → sum f n ≤ sum g n
unfolding sum
sum_mono f g zero h = omega arith
sum_mono f g (suc n) h = add-le-add (sum_mono f g n (λ q l. h q (omega arith))) (h n (omega arith))

-- in order but for p: what f has at p pays for it, less what g has there
pub sum_one : (f g : ℕ → ℕ) (n p : ℕ)
    → ((q : ℕ) → q < n → (q ≡ p → ⊥) → f q ≤ g q)
    → p < n
    → sum f n + g p ≤ sum g n + f p
unfolding sum
sum_one f g zero p h l = absurd (omega arith)
sum_one f g (suc n) p h l = go (ℕ_discrete p n) (sum_one f g n p (λ q k. h q (omega arith)))
  where
    go : Dec (p ≡ n) → (p < n → sum f n + g p ≤ sum g n + f p) → sum f n + f n + g p ≤ sum g n + g n + f p
    go (yes e) ih =
        let before = sum_mono f g n (λ q k. h q (omega arith) (λ i. absurd (omega arith))) in
        subst (λ (x : ℕ). sum f n + f n + g x ≤ sum g n + g n + f x) (sym e) (omega arith)
    go (no ne) ih = let before = ih (omega (arith, ne)) in let last = h n (omega arith) (λ i. ne (sym i)) in omega arith

pub sum_strict : (f g : ℕ → ℕ) (n p : ℕ)
    → ((q : ℕ) → q < n → f q ≤ g q)
    → p < n
    → f p < g p
    → sum f n < sum g n
sum_strict f g n p h l k = omega (arith, sum_one f g n p (λ q j ne. h q j) l)

pub sum_bound : (f : ℕ → ℕ) (n b : ℕ) → ((q : ℕ) → q < n → f q ≤ b) → sum f n ≤ n * b
unfolding sum
sum_bound f zero b h = omega arith
sum_bound f (suc n) b h =
    let before = sum_bound f n b (λ q l. h q (omega arith)) in
    let last = h n (omega arith) in
    rw (suc-mul n b) (omega arith)

pub sum_up : (f : ℕ → ℕ) (n m : ℕ) → n ≤ m → sum f n ≤ sum f m
unfolding sum
sum_up f n zero l = let e : n ≡ 0 = omega arith in subst (λ (x : ℕ). sum f x ≤ 0) (sym e) (le_refl 0)
sum_up f n (suc m) l = go (ℕ_discrete n (suc m)) (sum_up f n m)
  where
    go : Dec (n ≡ suc m) → (n ≤ m → sum f n ≤ sum f m) → sum f n ≤ sum f m + f m
    go (yes e) ih = subst (λ (x : ℕ). sum f x ≤ sum f m + f m) (sym e) (le_refl (sum f m + f m))
    go (no ne) ih = omega (arith, ih (omega (arith, ne)))

pub sum_over : (f : ℕ → ℕ) (n m : ℕ)
    → n ≤ m
    → ((q : ℕ) → n ≤ q → q < m → f q ≡ 0)
    → sum f m ≡ sum f n
unfolding sum
sum_over f n zero l h = let e : n ≡ 0 = omega arith in subst (λ (x : ℕ). 0 ≡ sum f x) (sym e) refl
sum_over f n (suc m) l h = go (ℕ_discrete n (suc m)) (λ k. sum_over f n m k (λ q a b. h q a (omega arith)))
  where
    go : Dec (n ≡ suc m) → (n ≤ m → sum f m ≡ sum f n) → sum f m + f m ≡ sum f n
    go (yes e) ih = subst (λ (x : ℕ). sum f m + f m ≡ sum f x) (sym e) refl
    go (no ne) ih =
        let k : n ≤ m = omega (arith, ne) in
        let before = ih k in
        let last = h m k (omega arith) in
        omega arith
