-- Laws of `lowest`: a set that has a member has a lowest one, and `lowest` is it.
--
--   lowest_least    it is a member, below 16, and no member is below it
--   lowest_is       a member below which there is none is it
--   lowest_member   a set that is not empty has it
--
-- Assumes nothing.
use Prim.Native.Nat.{ℕ, zero, suc, ◌+◌, ◌^◌, ◌≤◌, ◌<◌}
use mathlib.Core.Path.{◌≡◌, refl, sym, ap, ◌∙◌}
use mathlib.Core.Bool.{Bool, true, false, cond, false≢true}
use mathlib.Core.Logic.{◌≢◌}
use native.Mathlib.Decide.{ℕ_discrete, dec_lt}
use native.Mathlib.Omega.{arith}
use Rattle.counting.specs.Sets.{has, lowest_from, lowest}
use Rattle.counting.proofs.BitLaws.{IsLowest, zeros_lowest}

-- x is the lowest member of s among q and the n - 1 numbers after it
record LowestIn (s q n x : ℕ) : Type 0 where
  from : q ≤ x
  below : x < q + n
  member : has s x ≡ true
  least : (y : ℕ) → q ≤ y → y < x → has s y ≡ false

from_lowest : (s q n x : ℕ) → q ≤ x → x < q + n → has s x ≡ true → LowestIn s q n (lowest_from s q n)
unfolding lowest_from
from_lowest s q zero x a b h = absurd (omega arith)
from_lowest s q (suc n) x a b h = go (has s q) refl (λ i. from_lowest s (suc q) n x i (omega arith) h)
  where
    go : (c : Bool)
        → has s q ≡ c
        → (suc q ≤ x → LowestIn s (suc q) n (lowest_from s (suc q) n))
        → LowestIn s q (suc n) (cond c q (lowest_from s (suc q) n))
    go true e ih = record { from = omega arith; below = omega arith; member = e; least = λ y i j. absurd (omega arith) }
    go false e ih =
        let ne : x ≡ q → ⊥ = λ i. false≢true (sym e ∙ ap (has s) (sym i) ∙ h) in
        let r = ih (omega (arith, ne)) in
        record {
          from = omega (arith, r.from);
          below = omega (arith, r.below);
          member = r.member;
          least = λ y i j. at y i j (ℕ_discrete y q) r;
        }
      where
        at : (y : ℕ)
            → q ≤ y
            → y < lowest_from s (suc q) n
            → Dec (y ≡ q)
            → LowestIn s (suc q) n (lowest_from s (suc q) n)
            → has s y ≡ false
        at y i j (yes k) r = ap (has s) k ∙ e
        at y i j (no k) r = r.least y (omega (arith, k)) j

pub lowest_least : (s x : ℕ) → x < 16 → has s x ≡ true → IsLowest 16 s (lowest s)
unfolding lowest
lowest_least s x l h =
    let r = from_lowest s 0 16 x (omega arith) (omega arith) h in
    record { within = r.below; member = r.member; least = λ y j. r.least y (omega arith) j }

pub lowest_is : (s x : ℕ) → IsLowest 16 s x → lowest s ≡ x
lowest_is s x h = go (dec_lt (lowest s) x) (dec_lt x (lowest s))
  where
    m : IsLowest 16 s (lowest s)
    m = lowest_least s x h.within h.member

    go : Dec (lowest s < x) → Dec (x < lowest s) → lowest s ≡ x
    go (yes l) d = absurd (false≢true (sym (h.least (lowest s) l) ∙ m.member))
    go (no nl) (yes l) = absurd (false≢true (sym (m.least x l) ∙ h.member))
    go (no nl) (no nk) = omega (arith, nl, nk)

pub lowest_member : (s : ℕ) → s < 2 ^ 16 → s ≢ 0 → has s (lowest s) ≡ true
lowest_member s l ne =
    let z = zeros_lowest s l (omega (arith, ne)) in (lowest_least s _ z.within z.member).member
