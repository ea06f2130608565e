-- Laws of sets: their members, their bounds, and equality by members.
--
--   set_of_zero, set_of_suc        the set of none, and what a new last number adds
--   set_of_cong, set_of_lt         the same set, and a bound
--   has-set_of, set_of-has         members of a set that was made; a set made of its own members
--   has_over, has_zero           no member past the bound, none in the empty set
--   member_below                 so a member is below it
--   set_ext, set_empty           sets with the same members are equal; a set with no member is 0
--   has-without, has-others      members of a set less p, and of all but p
--   without_lt, others_lt        their bounds
--   without_same, without_other, without_sub, without_none    at p, elsewhere, in s, and where p is no member
--   others_same, others_other    at p, and elsewhere
--   without_injective            members a and b whose removal leaves the same are the same
--
-- Assumes nothing.
use Prim.Native.Nat.{ℕ, zero, suc, ◌+◌, ◌-◌, ◌*◌, ◌/◌, ◌%◌, ◌^◌, ◌≤◌, ◌<◌}
use mathlib.Core.Path.{◌≡◌, refl, sym, ap, ◌∙◌, subst}
use mathlib.Core.Bool.{Bool, true, false, ◌&&◌, not, false≢true}
use native.Mathlib.Nat.{div-eq_of_lt, lt_of_lt_of_le, mod-eq_of_lt, mod-one, add_comm, pow-suc}
use native.Mathlib.Numerals.{one-add}
use native.Mathlib.Decide.{ℕ_discrete, dec_lt}
use native.Mathlib.Omega.{arith}
use lib.Dec.{eqb}
use lib.Pow.{pow_pos, pow_mono, mod-pow-add, high, low, field, mod-mod-pow}
use borrow.Author.Tests.{eq-eqb, ne_eqb}
use Rattle.counting.specs.Sums.{bit, sum}
use Rattle.counting.specs.Sets.{has, set_of, without, others}
use Rattle.counting.proofs.SumLaws.{sum_cong}
use Rattle.counting.proofs.LessLaws.{less, less_same, less_other, less_implies}

-- ---- the set of the numbers that have P

pub set_of_zero : (P : ℕ → Bool) → set_of P 0 ≡ 0
unfolding set_of sum
set_of_zero P = refl

pub set_of_suc : (P : ℕ → Bool) (n : ℕ) → set_of P (suc n) ≡ set_of P n + bit (P n) * 2 ^ n
unfolding set_of sum
set_of_suc P n = refl

pub set_of_cong : (P Q : ℕ → Bool) (n : ℕ) → ((q : ℕ) → q < n → P q ≡ Q q) → set_of P n ≡ set_of Q n
unfolding set_of
set_of_cong P Q n h =
    sum_cong (λ q. bit (P q) * 2 ^ q) (λ q. bit (Q q) * 2 ^ q) n (λ q l. ap (λ (b : Bool). bit b * 2 ^ q) (h q l))

pub set_of_lt : (P : ℕ → Bool) (n : ℕ) → set_of P n < 2 ^ n
set_of_lt P zero = rw (set_of_zero P) (omega arith)
set_of_lt P (suc n) = rw (set_of_suc P n, pow-suc 2 n) (double (P n) (set_of P n) (2 ^ n) (set_of_lt P n))
  where
    double : (b : Bool) (x y : ℕ) → x < y → x + bit b * y < y * 2
    double true x y h = omega arith
    double false x y h = omega arith

-- ---- members

bit_of : (x : ℕ) → x < 2 → bit (eqb x 1) ≡ x
bit_of x h = go (ℕ_discrete x 1)
  where
    go : Dec (x ≡ 1) → bit (eqb x 1) ≡ x
    go (yes e) = ap bit (eq-eqb x 1 e) ∙ sym e
    go (no ne) = ap bit (ne_eqb x 1 ne) ∙ omega (arith, ne)

-- the digit of s at q is the test of the member q
pub bit-has : (s q : ℕ) → bit (has s q) ≡ s / 2 ^ q % 2
unfolding has
bit-has s q = bit_of (s / 2 ^ q % 2) (omega arith)

-- no member stands past the bound
pub has_over : (s n q : ℕ) → s < 2 ^ n → n ≤ q → has s q ≡ false
unfolding has
has_over s n q h l = ap (λ (x : ℕ). eqb (x % 2) 1) (div-eq_of_lt (lt_of_lt_of_le h (pow_mono l)))

pub has_zero : (q : ℕ) → has 0 q ≡ false
has_zero q = has_over 0 0 q (omega arith) (omega arith)

pub member_below : (s n q : ℕ) → s < 2 ^ n → has s q ≡ true → q < n
member_below s n q h m = go (dec_lt q n)
  where
    go : Dec (q < n) → q < n
    go (yes l) = l
    go (no nl) = absurd (false≢true (sym (has_over s n q h (omega (arith, nl))) ∙ m))

-- a member below n is a member of the lowest n digits
pub has_low : (s n q : ℕ) → q < n → has (s % 2 ^ n) q ≡ has s q
unfolding has
has_low s n q l =
    ap (λ (x : ℕ). eqb x 1)
    (subst (λ (m : ℕ). s % 2 ^ m / 2 ^ q % 2 ≡ s / 2 ^ q % 2) (omega arith)
    (ap (λ (x : ℕ). x % 2) (field s (n - q - 1 + 1) q) ∙ mod-mod-pow (s / 2 ^ q) (n - q - 1) 1))

-- a new highest digit n, above all members of x: itself, and those below it
module _ (x n : ℕ) (b : Bool) (l : x < 2 ^ n) where
  pub has_top : has (x + bit b * 2 ^ n) n ≡ b
  unfolding has
  has_top =
      ap (λ (y : ℕ). eqb (y % 2) 1) (ap (λ (y : ℕ). y / 2 ^ n) (add_comm x (bit b * 2 ^ n)) ∙ high (bit b) n l)
      ∙ two b
    where
      two : (b : Bool) → eqb (bit b % 2) 1 ≡ b
      two true = refl
      two false = refl

  pub has-below : (q : ℕ) → q < n → has (x + bit b * 2 ^ n) q ≡ has x q
  has-below q k =
      sym (has_low (x + bit b * 2 ^ n) n q k)
      ∙ ap (λ (y : ℕ). has y q) (ap (λ (y : ℕ). y % 2 ^ n) (add_comm x (bit b * 2 ^ n)) ∙ low (bit b) n l)

-- the members of the set of the numbers below n that have P
pub has-set_of : (P : ℕ → Bool) (n q : ℕ) → q < n → has (set_of P n) q ≡ P q
has-set_of P zero q l = absurd (omega arith)
has-set_of P (suc n) q l = rw (set_of_suc P n) (go (ℕ_discrete q n) (has-set_of P n q))
  where
    go : Dec (q ≡ n) → (q < n → has (set_of P n) q ≡ P q) → has (set_of P n + bit (P n) * 2 ^ n) q ≡ P q
    go (yes e) ih =
        let top = has_top (set_of P n) n (P n) (set_of_lt P n) in
        subst (λ (x : ℕ). has (set_of P n + bit (P n) * 2 ^ n) x ≡ P x) (sym e) top
    go (no ne) ih = let k : q < n = omega (arith, ne) in has-below (set_of P n) n (P n) (set_of_lt P n) q k ∙ ih k

-- the members of s below n are s's lowest n digits
pub set_of_low : (s n : ℕ) → set_of (has s) n ≡ s % 2 ^ n
set_of_low s zero = set_of_zero (has s) ∙ sym (mod-one s)
set_of_low s (suc n) =
    rw (set_of_suc (has s) n, set_of_low s n, bit-has s n)
    (add_comm (s % 2 ^ n) (s / 2 ^ n % 2 * 2 ^ n) ∙ sym (mod-pow-add s 1 n) ∙ ap (λ (k : ℕ). s % 2 ^ k) (one-add n))

-- a set is the set of its members
pub set_of-has : (s n : ℕ) → s < 2 ^ n → set_of (has s) n ≡ s
set_of-has s n h = set_of_low s n ∙ mod-eq_of_lt h

-- sets with the same members are equal
pub set_ext : (n a b : ℕ) → a < 2 ^ n → b < 2 ^ n → ((q : ℕ) → q < n → has a q ≡ has b q) → a ≡ b
set_ext n a b ha hb h = sym (set_of-has a n ha) ∙ set_of_cong (has a) (has b) n h ∙ set_of-has b n hb

-- a set without members is 0
pub set_empty : (n s : ℕ) → s < 2 ^ n → ((q : ℕ) → q < n → has s q ≡ false) → s ≡ 0
set_empty n s l h = set_ext n s 0 l (pow_pos n) (λ q k. h q k ∙ sym (has_zero q))

-- ---- a set less p, and all but p

module _ (s p : ℕ) where
  pub has-without : (q : ℕ) → q < 16 → has (without s p) q ≡ (has s q && not (eqb q p))
  unfolding without
  has-without q l = has-set_of (less (has s) p) 16 q l

  pub without_lt : without s p < 2 ^ 16
  unfolding without
  without_lt = set_of_lt (less (has s) p) 16

  -- p is no member any more
  pub without_same : has (without s p) p ≡ false
  without_same = go (dec_lt p 16)
    where
      go : Dec (p < 16) → has (without s p) p ≡ false
      go (yes l) = has-without p l ∙ less_same (has s) p
      go (no nl) = has_over (without s p) 16 p without_lt (omega (arith, nl))

  -- any other number is a member as before
  pub without_other : (q : ℕ) → q < 16 → (q ≡ p → ⊥) → has (without s p) q ≡ has s q
  without_other q l ne = has-without q l ∙ less_other (has s) p q ne

  -- what is left was a member
  pub without_sub : (q : ℕ) → q < 16 → has (without s p) q ≡ true → has s q ≡ true
  without_sub q l h = less_implies (has s) p q (sym (has-without q l) ∙ h)

  -- nothing changes where p is no member
  pub without_none : s < 2 ^ 16 → has s p ≡ false → without s p ≡ s
  without_none l h = set_ext 16 (without s p) s without_lt l (λ q k. at q k (ℕ_discrete q p))
    where
      at : (q : ℕ) → q < 16 → Dec (q ≡ p) → has (without s p) q ≡ has s q
      at q k (yes e) = subst (λ (x : ℕ). has (without s p) x ≡ has s x) (sym e) (without_same ∙ sym h)
      at q k (no ne) = without_other q k ne

-- removals of members a and b that leave the same set are the same removal
pub without_injective : (s a b : ℕ)
    → s < 2 ^ 16
    → has s a ≡ true
    → has s b ≡ true
    → without s a ≡ without s b
    → a ≡ b
without_injective s a b l ha hb e = go (dec_lt a 16) (ℕ_discrete a b)
  where
    go : Dec (a < 16) → Dec (a ≡ b) → a ≡ b
    go k (yes i) = i
    go (no nk) (no ne) = absurd (false≢true (sym (has_over s 16 a l (omega (arith, nk))) ∙ ha))
    go (yes k) (no ne) =
        absurd (false≢true (sym (without_same s a) ∙ ap (λ (x : ℕ). has x a) e ∙ without_other s b a k ne ∙ ha))

module _ (n p : ℕ) where
  pub has-others : (q : ℕ) → q < n → has (others n p) q ≡ not (eqb q p)
  unfolding others
  has-others q l = has-set_of (λ x. not (eqb x p)) n q l

  pub others_lt : others n p < 2 ^ n
  unfolding others
  others_lt = set_of_lt (λ q. not (eqb q p)) n

  -- p is not among the others
  pub others_same : has (others n p) p ≡ false
  others_same = go (dec_lt p n)
    where
      go : Dec (p < n) → has (others n p) p ≡ false
      go (yes l) = has-others p l ∙ ap not (eq-eqb p p refl)
      go (no nl) = has_over (others n p) n p others_lt (omega (arith, nl))

  pub others_other : (q : ℕ) → q < n → (q ≡ p → ⊥) → has (others n p) q ≡ true
  others_other q l ne = has-others q l ∙ ap not (ne_eqb q p ne)
