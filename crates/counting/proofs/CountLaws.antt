-- Laws of `count`: how many numbers below n have P. Each comes from the law of `sum` of the same name.
--
--   count_zero, count_suc, count_next    none below 0, and what a new last number adds (`suc n`, and `n + 1` of a loop)
--   count_suc_in, -out        the same where the last number has P, and where it has not
--   count_cong, count_mono    the same numbers, and some of the numbers
--   count-parts               numbers that have one of two properties, never both
--   count_strict, count_one   fewer by one number p, and more by at most one number p
--   count_same_but            counts that agree but at p
--   count_le, count_none, count_all, count_pos   at most n; 0 where none has P; n where all have; over 0 where one has
--   count_find, count_witness    a number below n that has P, or none; and one, where the count is over 0
--   count_up, count_over      more numbers, and more numbers without P
--
-- Assumes nothing.
use Prim.Native.Nat.{ℕ, zero, suc, ◌+◌, ◌≤◌, ◌<◌}
use mathlib.Core.Path.{◌≡◌, refl, sym, ap, ◌∙◌, subst}
use mathlib.Core.Logic.{◌⊎◌, inl, inr}
use mathlib.Core.Bool.{Bool, true, false, false≢true}
use native.Mathlib.Nat.{le_refl, mul-one}
use native.Mathlib.Numerals.{add-one}
use native.Mathlib.Decide.{ℕ_discrete, dec_lt}
use native.Mathlib.Omega.{arith}
use Rattle.counting.specs.Sums.{bit, sum, count}
use Rattle.counting.proofs.SumLaws.{sum_cong, sum-parts, sum_mono, sum_one, sum_strict, sum_bound, sum_up, sum_over}

-- P implies Q at each number below n
abbrev pub Implies : (ℕ → Bool) → (ℕ → Bool) → ℕ → Type 0
Implies P Q n = (q : ℕ) → q < n → P q ≡ true → Q q ≡ true

pub bit_le_one : (a : Bool) → bit a ≤ 1
bit_le_one true = omega arith
bit_le_one false = omega arith

pub bit_mono : (a b : Bool) → (a ≡ true → b ≡ true) → bit a ≤ bit b
bit_mono true b h = subst (λ (x : Bool). 1 ≤ bit x) (sym (h refl)) (le_refl 1)
bit_mono false true h = omega arith
bit_mono false false h = omega arith

pub count_zero : (P : ℕ → Bool) → count P 0 ≡ 0
unfolding count sum
count_zero P = refl

pub count_suc : (P : ℕ → Bool) (n : ℕ) → count P (suc n) ≡ count P n + bit (P n)
unfolding count sum
count_suc P n = refl

pub count_next : (P : ℕ → Bool) (n : ℕ) → count P (n + 1) ≡ count P n + bit (P n)
count_next P n = rw (add-one n) (count_suc P n)

pub count_suc_in : (P : ℕ → Bool) (n : ℕ) → P n ≡ true → count P (suc n) ≡ count P n + 1
count_suc_in P n h = count_suc P n ∙ ap (λ (b : Bool). count P n + bit b) h

pub count_suc_out : (P : ℕ → Bool) (n : ℕ) → P n ≡ false → count P (suc n) ≡ count P n
count_suc_out P n h = let e = count_suc P n ∙ ap (λ (b : Bool). count P n + bit b) h in omega arith

pub count_cong : (P Q : ℕ → Bool) (n : ℕ) → ((q : ℕ) → q < n → P q ≡ Q q) → count P n ≡ count Q n
unfolding count
count_cong P Q n h = sum_cong (λ q. bit (P q)) (λ q. bit (Q q)) n (λ q l. ap bit (h q l))

pub count-parts : (P Q R : ℕ → Bool) (n : ℕ)
    → ((q : ℕ) → q < n → bit (P q) ≡ bit (Q q) + bit (R q))
    → count P n ≡ count Q n + count R n
unfolding count
count-parts P Q R n h = sum-parts (λ q. bit (P q)) (λ q. bit (Q q)) (λ q. bit (R q)) n h

pub count_mono : (P Q : ℕ → Bool) (n : ℕ) → Implies P Q n → count P n ≤ count Q n
unfolding count
count_mono P Q n h = sum_mono (λ q. bit (P q)) (λ q. bit (Q q)) n (λ q l. bit_mono (P q) (Q q) (h q l))

pub count_up : (P : ℕ → Bool) (n m : ℕ) → n ≤ m → count P n ≤ count P m
unfolding count
count_up P n m l = sum_up (λ q. bit (P q)) n m l

pub count_over : (P : ℕ → Bool) (n m : ℕ)
    → n ≤ m
    → ((q : ℕ) → n ≤ q → q < m → P q ≡ false)
    → count P m ≡ count P n
unfolding count
count_over P n m l h = sum_over (λ q. bit (P q)) n m l (λ q a b. ap bit (h q a b))

pub count_le : (P : ℕ → Bool) (n : ℕ) → count P n ≤ n
unfolding count
count_le P n = let h = sum_bound (λ q. bit (P q)) n 1 (λ q l. bit_le_one (P q)) in let e = mul-one n in omega arith

pub count_none : (P : ℕ → Bool) (n : ℕ) → ((q : ℕ) → q < n → P q ≡ false) → count P n ≡ 0
count_none P n h = count_over P 0 n (omega arith) (λ q a l. h q l) ∙ count_zero P

pub count_all : (P : ℕ → Bool) (n : ℕ) → ((q : ℕ) → q < n → P q ≡ true) → count P n ≡ n
count_all P zero h = count_zero P
count_all P (suc n) h =
    let before = count_all P n (λ q l. h q (omega arith)) in
    let last = count_suc_in P n (h n (omega arith)) in
    omega arith

-- ---- one number apart

-- counts that agree but at p differ by what they have there
pub count_same_but : (P Q : ℕ → Bool) (n p : ℕ)
    → ((q : ℕ) → q < n → (q ≡ p → ⊥) → P q ≡ Q q)
    → p < n
    → count P n + bit (Q p) ≡ count Q n + bit (P p)
unfolding count
count_same_but P Q n p h l =
    let le : (a b : Bool) → a ≡ b → bit a ≤ bit b = λ a b e. bit_mono a b (λ t. sym e ∙ t) in
    let a = sum_one (λ q. bit (P q)) (λ q. bit (Q q)) n p (λ q k ne. le (P q) (Q q) (h q k ne)) l in
    let b = sum_one (λ q. bit (Q q)) (λ q. bit (P q)) n p (λ q k ne. le (Q q) (P q) (sym (h q k ne))) l in
    omega arith

-- P, of which Q misses at most p
pub count_one : (P Q : ℕ → Bool) (n p : ℕ)
    → ((q : ℕ) → q < n → (q ≡ p → ⊥) → P q ≡ true → Q q ≡ true)
    → count P n ≤ count Q n + 1
unfolding count
count_one P Q n p h = go (dec_lt p n)
  where
    go : Dec (p < n) → sum (λ q. bit (P q)) n ≤ sum (λ q. bit (Q q)) n + 1
    go (yes l) =
        let a = sum_one (λ q. bit (P q)) (λ q. bit (Q q)) n p (λ q k ne. bit_mono (P q) (Q q) (h q k ne)) l in
        omega (arith, bit_le_one (P p))
    go (no nl) = omega (arith, count_mono P Q n (λ q k. h q k (λ e. nl (subst (λ (x : ℕ). x < n) e k))))

pub count_strict : (P Q : ℕ → Bool) (n p : ℕ)
    → Implies P Q n
    → p < n
    → P p ≡ false
    → Q p ≡ true
    → count P n + 1 ≤ count Q n
unfolding count
count_strict P Q n p h l hp hq =
    let a = ap bit hp in
    let b = ap bit hq in
    let le : (q : ℕ) → q < n → bit (P q) ≤ bit (Q q) = λ q k. bit_mono (P q) (Q q) (h q k) in
    omega (arith, sum_strict (λ q. bit (P q)) (λ q. bit (Q q)) n p le l (omega arith))

pub count_pos : (P : ℕ → Bool) (n p : ℕ) → p < n → P p ≡ true → 1 ≤ count P n
count_pos P n p l h =
    let none = count_none (λ q. false) n (λ q k. refl) in
    let more = count_strict (λ q. false) P n p (λ q k e. absurd (false≢true e)) l refl h in
    omega arith

-- ---- a number that has P, found

-- a number below n that has P, or none
pub count_find : (P : ℕ → Bool) (n : ℕ)
    → ((q : ℕ) × (q < n) × (P q ≡ true)) ⊎ ((q : ℕ) → q < n → P q ≡ false)
count_find P zero = inr (λ q l. absurd (omega arith))
count_find P (suc n) = last (P n) refl (count_find P n)
  where
    last : (b : Bool) → P n ≡ b
        → ((q : ℕ) × (q < n) × (P q ≡ true)) ⊎ ((q : ℕ) → q < n → P q ≡ false)
        → ((q : ℕ) × (q < suc n) × (P q ≡ true)) ⊎ ((q : ℕ) → q < suc n → P q ≡ false)
    last true e r = inl (n, omega arith, e)
    last false e (inl (q, l, h)) = inl (q, omega arith, h)
    last false e (inr h) = inr (λ q l. at q l (ℕ_discrete q n))
      where
        at : (q : ℕ) → q < suc n → Dec (q ≡ n) → P q ≡ false
        at q l (yes i) = ap P i ∙ e
        at q l (no ne) = h q (omega (arith, ne))

-- a count over 0 has a number
pub count_witness : (P : ℕ → Bool) (n : ℕ) → 1 ≤ count P n → (q : ℕ) × (q < n) × (P q ≡ true)
count_witness P n l = go (count_find P n)
  where
    go : ((q : ℕ) × (q < n) × (P q ≡ true)) ⊎ ((q : ℕ) → q < n → P q ≡ false) → (q : ℕ) × (q < n) × (P q ≡ true)
    go (inl w) = w
    go (inr h) = absurd (omega (arith, count_none P n h))
