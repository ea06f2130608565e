-- Locations and their codes name each other: code_location, at_place, place_below, known_at. Assumes nothing.
use Prim.Native.Nat.{ℕ, zero, suc, ◌<◌}
use mathlib.Core.Path.{◌≡◌, refl, sym}
use mathlib.Core.Bool.{Bool, true, false, cond, ◌||◌, false≢true, or-eq-true_iff}
use mathlib.Core.Logic.Or
use mathlib.Core.List.{List, [], ◌∷◌}
use native.Mathlib.Omega.{arith}
use lib.Dec.{eqb}
use lib.ListN.{length, get_or}
use borrow.Author.Tests.{eqb-true, eq-eqb}
use Rattle.machine.specs.Images.{place_in, code_of}
use Rattle.machine.specs.Tables.{locations, one_of}
use Rattle.counting.proofs.TestLaws.{every, every_at}

-- a code and its location name each other
pub code_location : (c : ℕ) → c < 8 → code_of (get_or locations c 0) ≡ c
unfolding every
code_location c h =
    eqb-true (code_of (get_or locations c 0)) c (every_at (λ c. eqb (code_of (get_or locations c 0)) c) 8 refl c h)

module _ (x v : ℕ) (vs : List ℕ) where
  below_more : (b : Bool) → (b || one_of x vs) ≡ true → (one_of x vs ≡ true → place_in x vs < length vs)
      → cond b 0 (suc (place_in x vs)) < suc (length vs)
  below_more true h f = omega arith
  below_more false h f = omega (arith, f h)

  at_more : (b : Bool) → eqb x v ≡ b → (b || one_of x vs) ≡ true → (one_of x vs ≡ true → get_or vs (place_in x vs) 0 ≡ x)
      → get_or (v ∷ vs) (cond b 0 (suc (place_in x vs))) 0 ≡ x
  at_more true e h f = sym (eqb-true x v e)
  at_more false e h f = f h

pub place_below : (x : ℕ) (vs : List ℕ) → one_of x vs ≡ true → place_in x vs < length vs
place_below x [] h = absurd (false≢true h)
place_below x (v ∷ vs) h = below_more x v vs (eqb x v) h (place_below x vs)

pub at_place : (x : ℕ) (vs : List ℕ) → one_of x vs ≡ true → get_or vs (place_in x vs) 0 ≡ x
at_place x [] h = absurd (false≢true h)
at_place x (v ∷ vs) h = at_more x v vs (eqb x v) refl h (at_place x vs)

pub known_at : (vs : List ℕ) (c : ℕ) → c < length vs → one_of (get_or vs c 0) vs ≡ true
known_at [] c h = absurd (omega arith)
known_at (v ∷ vs) zero h = (or-eq-true_iff (eqb v v) (one_of v vs)).1 (Or.inl (eq-eqb v v refl))
known_at (v ∷ vs) (suc c) h =
    (or-eq-true_iff (eqb (get_or vs c 0) v) (one_of (get_or vs c 0) vs)).1 (Or.inr (known_at vs c (omega arith)))
