-- What the machine's operations on 16-bit numbers compute of sets.
--
--   has_and         the members of `a & b` are those of both
--   ones_size       `count_ones` gives the size
--   zeros_lowest    `trailing_zeros` gives the lowest member
--   one_shl         `1 << i` is 2 ^ i where the width holds it
--   others_is       all but p is `(1 << n) - 1 - (1 << p)`
--   and_without     `s & !(1 << q)` is s less q
--   gather_fits_digit, gather_digit    a loop that gathers a set, one number a turn
--
-- Assumes nothing.
use Prim.Native.Nat.{ℕ, zero, suc, ◌+◌, ◌-◌, ◌*◌, ◌/◌, ◌%◌, ◌^◌, ◌≤◌, ◌<◌}
use mathlib.Core.Path.{◌≡◌, refl, sym, ap, ap₂, ◌∙◌, subst}
use mathlib.Core.Bool.{Bool, true, false, ◌&&◌, not}
use native.Mathlib.Nat.{lt_of_le_of_lt, le_of_suc-le-suc, not-suc-le-zero, mul-le-mul_right}
use native.Mathlib.Nat.{mod-eq_of_lt, mod-lt, mod-one, div-one, add_comm, pow-suc}
use native.Mathlib.Numerals.{add-one, one-add}
use native.Mathlib.Decide.{ℕ_discrete}
use native.Mathlib.Omega.{arith}
use lib.Dec.{eqb}
use lib.Bits.{bit_and, and_le_l, and_shr, and_mod}
use lib.Count.{ones, ones_cat, count_trailing_zeros, under}
use lib.Pow.{pow_pos, pow_mono, mod-pow-add, shr-shr, shl_exact}
use borrow.Author.Tests.{eq-eqb, ne_eqb}
use Rattle.counting.specs.Sums.{bit, count}
use Rattle.counting.specs.Sets.{has, set_of, size, without, others}
use Rattle.counting.proofs.CountLaws.{bit_le_one, count_zero, count_suc}
use Rattle.counting.proofs.SetLaws.{bit-has, set_of_zero, set_of_suc, set_of_cong, set_of_lt, set_ext}
use Rattle.counting.proofs.SetLaws.{has-others, has-without, without_lt}

-- ---- members of both

and_digits : (x y : ℕ) → x < 2 → y < 2 → eqb (bit_and x y) 1 ≡ (eqb x 1 && eqb y 1)
and_digits zero zero h k = refl
and_digits zero (suc zero) h k = refl
and_digits (suc zero) zero h k = refl
and_digits (suc zero) (suc zero) h k = refl
and_digits zero (suc (suc y)) h k = absurd (omega arith)
and_digits (suc zero) (suc (suc y)) h k = absurd (omega arith)
and_digits (suc (suc x)) y h k = absurd (omega arith)

pub has_and : (a b q : ℕ) → has (bit_and a b) q ≡ (has a q && has b q)
unfolding has
has_and a b q =
    ap (λ (x : ℕ). eqb (x % 2) 1) (and_shr a b q)
    ∙ ap (λ (x : ℕ). eqb x 1) (and_mod (a / 2 ^ q) (b / 2 ^ q) 1)
    ∙ and_digits (a / 2 ^ q % 2) (b / 2 ^ q % 2) (omega arith) (omega arith)

-- ---- how many

ones_digit : (x : ℕ) → x < 2 → ones x ≡ x
unfolding ones
ones_digit zero h = refl
ones_digit (suc zero) h = refl
ones_digit (suc (suc x)) h = absurd (omega arith)

ones_count : (s n : ℕ) → ones (s % 2 ^ n) ≡ count (has s) n
ones_count s zero = ap ones (mod-one s) ∙ ones_digit 0 (omega arith) ∙ sym (count_zero (has s))
ones_count s (suc n) =
    ap (λ (k : ℕ). ones (s % 2 ^ k)) (sym (one-add n))
    ∙ ap ones (mod-pow-add s 1 n)
    ∙ ones_cat n (s / 2 ^ n % 2) (s % 2 ^ n) (mod-lt s (pow_pos n))
    ∙ add_comm (ones (s / 2 ^ n % 2)) (ones (s % 2 ^ n))
    ∙ ap₂ (λ (a b : ℕ). a + b) (ones_count s n) (ones_digit (s / 2 ^ n % 2) (omega arith) ∙ sym (bit-has s n))
    ∙ sym (count_suc (has s) n)

pub ones_size : (s : ℕ) → s < 2 ^ 16 → ones s ≡ size s
unfolding size
ones_size s h = ap ones (sym (mod-eq_of_lt h)) ∙ ones_count s 16

-- ---- the lowest member

-- q is the lowest member of s, below n
pub record IsLowest (n s q : ℕ) : Type 0 where
  pub within : q < n
  pub member : has s q ≡ true
  pub least : (r : ℕ) → r < q → has s r ≡ false

has_first : (s : ℕ) → has s 0 ≡ eqb (s % 2) 1
unfolding has
has_first s = ap (λ (x : ℕ). eqb (x % 2) 1) (div-one s)

-- the other members are those of the half
has_rest : (s q : ℕ) → has s (suc q) ≡ has (s / 2) q
unfolding has
has_rest s q =
    ap (λ (x : ℕ). eqb (x % 2) 1) (sym (shr-shr s 1 q ∙ ap (λ (k : ℕ). s / 2 ^ k) (omega arith)))

least_suc : (s q : ℕ) → s % 2 ≡ 0 → ((r : ℕ) → r < q → has (s / 2) r ≡ false) → (r : ℕ) → r < suc q → has s r ≡ false
least_suc s q e h zero l = has_first s ∙ ap (λ (x : ℕ). eqb x 1) e
least_suc s q e h (suc r) l = has_rest s r ∙ h r (le_of_suc-le-suc l)

lowest_step : (n s q d : ℕ)
    → s % 2 ≡ d
    → (0 < s / 2 % 2 ^ n → IsLowest n (s / 2) q)
    → 0 < s / 2 % 2 ^ n * 2 + s % 2
    → IsLowest (suc n) s (under d q)
lowest_step n s q zero e ih h =
    let l = ih (omega arith) in
    record { within = omega arith; member = has_rest s q ∙ l.member; least = least_suc s q e l.least }
lowest_step n s q (suc d) e ih h =
    let one : s % 2 ≡ 1 = let m : s % 2 < 2 = omega arith in omega arith in
    let none : (r : ℕ) → r < 0 → has s r ≡ false = λ r l. absurd (not-suc-le-zero l) in
    record { within = omega arith; member = has_first s ∙ ap (λ (x : ℕ). eqb x 1) one; least = none }

zeros_low : (n s : ℕ) → 0 < s % 2 ^ n → IsLowest n s (count_trailing_zeros n s)
unfolding count_trailing_zeros
zeros_low zero s h = let z = mod-one s in absurd (omega arith)
zeros_low (suc n) s h =
    let e : s % 2 ^ suc n ≡ s / 2 % 2 ^ n * 2 + s % 2 =
    ap (λ (m : ℕ). s % 2 ^ m) (sym (add-one n)) ∙ mod-pow-add s n 1 in
    lowest_step n s (count_trailing_zeros n (s / 2)) (s % 2) refl (zeros_low n (s / 2)) (subst (λ (m : ℕ). 0 < m) e h)

pub zeros_lowest : (s : ℕ) → s < 2 ^ 16 → 0 < s → IsLowest 16 s (count_trailing_zeros 16 s)
zeros_lowest s h l = zeros_low 16 s (subst (λ (x : ℕ). 0 < x) (sym (mod-eq_of_lt h)) l)

-- ---- masks

-- `1 << i` at w bits
pub one_shl : (w i : ℕ) → i < w → 1 * 2 ^ i % 2 ^ w ≡ 2 ^ i
one_shl w i l = let e = shl_exact {a = 1} 1 i w (omega arith) (omega arith) in e ∙ omega arith

-- all of n processes are 2 ^ n - 1
pub all_is : (n : ℕ) → set_of (λ q. true) n + 1 ≡ 2 ^ n
all_is zero = rw (set_of_zero (λ q. true)) refl
all_is (suc n) = let h = all_is n in rw (set_of_suc (λ q. true) n, pow-suc 2 n) (omega arith)

-- all but p are `(1 << n) - 1 - (1 << p)`
pub others_is : (n p : ℕ) → p < n → others n p + 2 ^ p + 1 ≡ 2 ^ n
unfolding others
others_is zero p l = absurd (omega arith)
others_is (suc n) p l = rw (set_of_suc (λ q. not (eqb q p)) n, pow-suc 2 n) (go (ℕ_discrete n p) (others_is n p))
  where
    go : Dec (n ≡ p) → (p < n → others n p + 2 ^ p + 1 ≡ 2 ^ n)
        → others n p + bit (not (eqb n p)) * 2 ^ n + 2 ^ p + 1 ≡ 2 ^ n * 2
    go (yes e) ih =
        let a : others n p ≡ set_of (λ q. true) n =
        set_of_cong (λ q. not (eqb q p)) (λ q. true) n (λ q k. ap not (ne_eqb q p (omega arith))) in
        let b = ap (λ (x : Bool). bit (not x) * 2 ^ n) (eq-eqb n p e) in
        let d = ap (λ (x : ℕ). 2 ^ x) e in
        omega (arith, all_is n)
    go (no ne) ih =
        let b = ap (λ (x : Bool). bit (not x) * 2 ^ n) (ne_eqb n p ne) in
        let d = ih (omega (arith, ne)) in
        omega arith

-- `s & !(1 << q)` at 16 bits
pub and_without : (s q : ℕ) → s < 2 ^ 16 → q < 16 → bit_and s (65535 - 1 * 2 ^ q % 65536) ≡ without s q
and_without s q h l =
    let o : 65535 - 1 * 2 ^ q % 65536 ≡ others 16 q = let m = one_shl 16 q l in omega (arith, others_is 16 q l) in
    rw o
    (set_ext 16 (bit_and s (others 16 q)) (without s q) (lt_of_le_of_lt (and_le_l s (others 16 q)) h) (without_lt s q)
    (λ r k.
    has_and s (others 16 q) r ∙ ap (λ (b : Bool). has s r && b) (has-others 16 q r k) ∙ sym (has-without s q r k)))

-- ---- a loop that gathers a set at 16 bits, one number a turn: the digit d of i, shifted to its place, is added

module _ (P : ℕ → Bool) (i : ℕ) (l : i < 16) where
  gather_shl : (d : ℕ) → d < 2 → d * 2 ^ i % 65536 ≡ d * 2 ^ i
  gather_shl d h = shl_exact 1 i 16 h (omega arith)

  pub gather_digit : (d : ℕ) → d ≡ bit (P i) → set_of P i + d * 2 ^ i % 65536 ≡ set_of P (i + 1)
  gather_digit d h =
      let small : d < 2 = omega (arith, bit_le_one (P i)) in
      rw (add-one i, set_of_suc P i, gather_shl d small, h) refl

  pub gather_fits_digit : (d : ℕ) → d < 2 → set_of P i + d * 2 ^ i % 65536 < 65536
  gather_fits_digit d h =
      let most = mul-le-mul_right (2 ^ i) (le_of_suc-le-suc h) in
      let exact = gather_shl d h in
      let end : 2 ^ suc i ≤ 2 ^ 16 = pow_mono {i = suc i} {j = 16} l in
      let double = pow-suc 2 i in
      omega (arith, set_of_lt P i)
