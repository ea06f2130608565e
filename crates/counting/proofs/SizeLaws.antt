-- Laws of `size`: how many members a set has.
--
--   size-count                    the size of a set below 2 ^ n is a count below n
--   size-set_of                    the size of a set that was made is the count of what it was made of
--   size_mono, size_le, size_zero    some of the members; at most n of n processes; none in the empty set
--   size-without, size_without_in, size_without_le, size_le_without    a removal, and how far it changes the size
--   size-others                   all of n processes but p are n - 1
--   size_under                    a set of some of the numbers that have P, less one of them, has fewer members
--   size_pos, size_member         a member makes the size at least 1, and a size of at least 1 has a member
--
-- Assumes nothing.
use Prim.Native.Nat.{ℕ, ◌+◌, ◌^◌, ◌≤◌, ◌<◌}
use mathlib.Core.Path.{◌≡◌, refl, sym, ap, ◌∙◌}
use mathlib.Core.Bool.{Bool, true, false, not}
use native.Mathlib.Omega.{arith}
use lib.Dec.{eqb}
use borrow.Author.Tests.{eq-eqb, ne_eqb}
use Rattle.counting.specs.Sums.{bit, count}
use Rattle.counting.specs.Sets.{has, set_of, size, without, others}
use Rattle.counting.proofs.CountLaws.{Implies, count_cong, count_mono, count_le, count_all, count_none}
use Rattle.counting.proofs.CountLaws.{count_over, count_one, count_same_but, count_strict, count_pos}
use Rattle.counting.proofs.CountLaws.{count_witness}
use Rattle.counting.proofs.SetLaws.{set_of_lt, has-set_of, has_over, has_zero}
use Rattle.counting.proofs.SetLaws.{without_same, without_other, without_sub}

-- the members of a set of processes below n are counted below n
pub size-count : (s n : ℕ) → s < 2 ^ n → n ≤ 16 → size s ≡ count (has s) n
unfolding size
size-count s n h l = count_over (has s) n 16 l (λ q a b. has_over s n q h a)

pub size-set_of : (P : ℕ → Bool) (n : ℕ) → n ≤ 16 → size (set_of P n) ≡ count P n
size-set_of P n l =
    size-count (set_of P n) n (set_of_lt P n) l ∙ count_cong (has (set_of P n)) P n (λ q k. has-set_of P n q k)

pub size_cong : (s t : ℕ) → ((q : ℕ) → q < 16 → has s q ≡ has t q) → size s ≡ size t
unfolding size
size_cong s t h = count_cong (has s) (has t) 16 h

pub size_mono : (s t : ℕ) → Implies (has s) (has t) 16 → size s ≤ size t
unfolding size
size_mono s t h = count_mono (has s) (has t) 16 h

pub size_le : (s n : ℕ) → s < 2 ^ n → n ≤ 16 → size s ≤ n
size_le s n h l = rw (size-count s n h l) (count_le (has s) n)

-- and no set has more than 16 members
pub size_le_all : (s : ℕ) → size s ≤ 16
unfolding size
size_le_all s = count_le (has s) 16

-- every member has P, and q has P and is no member
pub size_under : (s n q : ℕ) (P : ℕ → Bool)
    → s < 2 ^ n
    → n ≤ 16
    → q < n
    → has s q ≡ false
    → ((x : ℕ) → x < n → has s x ≡ true → P x ≡ true)
    → P q ≡ true
    → size s + 1 ≤ count P n
size_under s n q P h l k out in-P hq =
    rw (size-count s n h l) (count_strict (has s) P n q in-P k out hq)

pub size_zero : size 0 ≡ 0
unfolding size
size_zero = count_none (has 0) 16 (λ q l. has_zero q)

pub size_pos : (s q : ℕ) → q < 16 → has s q ≡ true → 1 ≤ size s
unfolding size
size_pos s q l h = count_pos (has s) 16 q l h

pub size_member : (s : ℕ) → 1 ≤ size s → (q : ℕ) × (q < 16) × (has s q ≡ true)
unfolding size
size_member s l = count_witness (has s) 16 l

-- ---- a removal

module _ (s p : ℕ) where
  -- a removal takes what p counted
  pub size-without : p < 16 → size s ≡ size (without s p) + bit (has s p)
  unfolding size
  size-without l =
      let e = count_same_but (has s) (has (without s p)) 16 p (λ q k ne. sym (without_other s p q k ne)) l in
      let z = ap bit (without_same s p) in
      omega arith

  -- a removal of a member takes one
  pub size_without_in : p < 16 → has s p ≡ true → size s ≡ size (without s p) + 1
  size_without_in l h = size-without l ∙ ap (λ (b : Bool). size (without s p) + bit b) h

  pub size_without_le : size (without s p) ≤ size s
  size_without_le = size_mono (without s p) s (λ q l. without_sub s p q l)

  pub size_le_without : size s ≤ size (without s p) + 1
  unfolding size
  size_le_without =
      count_one (has s) (has (without s p)) 16 p (λ q k ne h. without_other s p q k ne ∙ h)

-- all of n processes but p are one less than n
pub size-others : (n p : ℕ) → n ≤ 16 → p < n → size (others n p) + 1 ≡ n
unfolding others
size-others n p l k =
    let e = size-set_of (λ q. not (eqb q p)) n l in
    let f = count_same_but (λ q. not (eqb q p)) (λ q. true) n p (λ q j ne. ap not (ne_eqb q p ne)) k in
    let z = ap (λ (b : Bool). bit (not b)) (eq-eqb p p refl) in
    let a = count_all (λ q. true) n (λ q j. refl) in
    omega arith
