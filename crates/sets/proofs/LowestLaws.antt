-- Laws of `lowest_of`: that it answers the least member, and None for the empty set only.
--
--   lowest_first   a member below which there is none is the answer
--   lowest_zero    the empty set has none
--   lowest_told    what the answer tells: a least member, or no member
--   lowest_same    a member that is answered is `lowest`
--
-- Assumes nothing.
use Prim.Native.Nat.{ℕ, zero, suc, ◌<◌}
use mathlib.Core.Path.{◌≡◌, refl, sym, ap, ap₂, ◌∙◌, subst}
use mathlib.Core.Bool.{Bool, true, false, cond}
use native.Mathlib.Decide.{ℕ_discrete}
use native.Mathlib.Omega.{arith}
use Rattle.counting.specs.Sets.{has, lowest}
use Rattle.counting.proofs.SetLaws.{has_zero}
use Rattle.counting.proofs.BitLaws.{IsLowest}
use Rattle.counting.proofs.LowestLaws.{lowest_is}
use Rattle.std.specs.Prelude.{Option, Some, None}
use Rattle.sets.specs.Answers.{first_of, lowest_below, lowest_of}

-- no number below n is in s
abbrev pub NoneBelow : ℕ → ℕ → Type 0
NoneBelow s n = (q : ℕ) → q < n → has s q ≡ false

below_none : (s n : ℕ) → NoneBelow s n → lowest_below s n ≡ None
unfolding lowest_below
below_none s zero h = refl
below_none s (suc n) h = rw (h n (omega arith), below_none s n (λ q l. h q (omega arith))) refl

below_first : (s n q : ℕ) → IsLowest n s q → lowest_below s n ≡ Some q
unfolding lowest_below
below_first s zero q h = absurd (omega arith)
below_first s (suc n) q h = go (ℕ_discrete q n) (below_first s n q)
  where
    go : Dec (q ≡ n) → (IsLowest n s q → lowest_below s n ≡ Some q)
        → first_of (lowest_below s n) (cond (has s n) (Some n) None) ≡ Some q
    go (yes e) ih =
        ap₂ (λ (a : Option ℕ) (b : Bool). first_of a (cond b (Some n) None))
        (below_none s n (λ r l. h.least r (omega arith)))
        (ap (has s) (sym e) ∙ h.member)
        ∙ ap Some (sym e)
    go (no ne) ih =
        ap (λ (a : Option ℕ). first_of a (cond (has s n) (Some n) None))
        (ih (record { within = omega (arith, ne, h.within); member = h.member; least = h.least }))

-- a member below which there is none is the answer
pub lowest_first : (s q : ℕ) → IsLowest 16 s q → lowest_of s ≡ Some q
unfolding lowest_of
lowest_first s q h = below_first s 16 q h

pub lowest_zero : lowest_of 0 ≡ None
unfolding lowest_of
lowest_zero = below_none 0 16 (λ q l. has_zero q)

-- what an answer about the members of s below n tells
abbrev pub Tells : ℕ → ℕ → Option ℕ → Type 0
Tells s n (Some q) = IsLowest n s q
Tells s n None = NoneBelow s n

below_told : (s n : ℕ) → Tells s n (lowest_below s n)
unfolding lowest_below
below_told s zero = λ q l. absurd (omega arith)
below_told s (suc n) = go (lowest_below s n) (has s n) refl (below_told s n)
  where
    go : (a : Option ℕ) (b : Bool) → has s n ≡ b → Tells s n a → Tells s (suc n) (first_of a (cond b (Some n) None))
    go (Some q) b e h = record { within = omega (arith, h.within); member = h.member; least = h.least }
    go None true e h = record { within = omega arith; member = e; least = h }
    go None false e h = λ q l. at q l (ℕ_discrete q n)
      where
        at : (q : ℕ) → q < suc n → Dec (q ≡ n) → has s q ≡ false
        at q l (yes i) = ap (has s) i ∙ e
        at q l (no ne) = h q (omega (arith, ne))

-- the answer is the least member of s, or s has none
pub lowest_told : (s : ℕ) → Tells s 16 (lowest_of s)
unfolding lowest_of
lowest_told s = below_told s 16

pub lowest_same : (s q : ℕ) → lowest_of s ≡ Some q → lowest s ≡ q
lowest_same s q e = lowest_is s q (subst (Tells s 16) e (lowest_told s))
