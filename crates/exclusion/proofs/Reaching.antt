-- The sets of section 3.5 of the paper, as facts and tests of one row.
--
--   Held k r        <=>  r is in A(k), which the census counts.
--   Reaches k r     <=>  r is in B(k): held at k, or at level k and, at 24 or with bb, about to leave it downwards.
--   Stops v k q r   <=>  r, of process q, is in T(k) where turn[k] is v: it reaches k and is not held there.
--   held_of_is_held, is_held_of_held, reaches_of_is_reaching, is_reaching_of_reaches    the tests say the same
--
-- Assumes nothing.
use Prim.Native.Nat.{ℕ, ◌+◌, ◌≤◌, ◌<◌}
use mathlib.Core.Path.{◌≡◌, ap}
use mathlib.Core.Bool.{Bool, true, ◌&&◌, ◌||◌, not, and-eq-true_iff, or-eq-true_iff}
use mathlib.Core.Logic.Or
use mathlib.Core.Logic.{◌⊎◌, inl, inr}
use native.Mathlib.Omega.{arith}
use lib.Dec.{eqb, ltb}
use borrow.Author.Tests.{eqb-true, eqb-false, ltb-true, eq-eqb, ne_eqb, lt-ltb, not-true}
use Rattle.counting.specs.Sets.{size}
use Rattle.machine.specs.Tables.{competes}
use Rattle.machine.specs.Census.{is_held}
use Rattle.machine.specs.declared.Row.{Row}
use Rattle.counting.proofs.TestLaws.{or_cases}

-- not at 24, with fewer than k ahead
abbrev pub Few : ℕ → Row → Type 0
Few k r = (r.location ≡ 24 → ⊥) × (size r.ahead < k)

abbrev pub Held : ℕ → Row → Type 0
Held k r = (competes r ≡ true) × ((r.level < k) ⊎ Few k r)

-- at 24, or pushed since its level last changed
abbrev pub Pushing : Row → Type 0
Pushing r = (r.location ≡ 24) ⊎ (r.bb ≡ 0 → ⊥)

abbrev pub Reaches : ℕ → Row → Type 0
Reaches k r = Held k r ⊎ ((competes r ≡ true) × (r.level ≡ k) × Pushing r)

abbrev pub Stops : ℕ → ℕ → ℕ → Row → Type 0
Stops v k q r =
    (competes r ≡ true) × (r.level ≡ k)
    × ((r.location ≡ 24) ⊎ ((v ≡ q) × (r.bb ≡ 0 → ⊥) × (k ≤ size r.ahead)))

-- ---- how they are related

pub reaches_competes : (k : ℕ) (r : Row) → Reaches k r → competes r ≡ true
reaches_competes k r (inl h) = h.0
reaches_competes k r (inr h) = h.0

-- B(k) is within A(k + 1)
pub reaches_held : (k : ℕ) (r : Row) → Reaches k r → Held (k + 1) r
reaches_held k r (inl (c, inl h)) = (c, inl (omega arith))
reaches_held k r (inl (c, inr (n, h))) = (c, inr (n, omega arith))
reaches_held k r (inr (c, e, h)) = (c, inl (omega arith))

-- T(k) is within B(k) and has none of A(k)
module _ (v k q : ℕ) (r : Row) where
  pub stops_reaches : Stops v k q r → Reaches k r
  stops_reaches (c, e, inl h) = inr (c, e, inl h)
  stops_reaches (c, e, inr (a, b, h)) = inr (c, e, inr b)

  pub stops_not_held : Stops v k q r → Held k r → ⊥
  stops_not_held (c, e, h) (d, inl i) = omega arith
  stops_not_held (c, e, inl h) (d, inr (n, i)) = n h
  stops_not_held (c, e, inr (a, b, h)) (d, inr (n, i)) = omega arith

-- ---- the tests

differs : (a b : ℕ) → not (eqb a b) ≡ true → a ≡ b → ⊥
differs a b h = eqb-false a b (not-true (eqb a b) h)

module _ (k : ℕ) (r : Row) where
  abbrev is_few : Bool
  is_few = not (eqb r.location 24) && ltb (size r.ahead) k

  abbrev is_pushing : Bool
  is_pushing = eqb r.location 24 || not (eqb r.bb 0)

  abbrev pub is_reaching : Bool
  is_reaching = is_held k r || (competes r && (eqb r.level k && is_pushing))

  held_cases : (ltb r.level k ≡ true) ⊎ (is_few ≡ true) → (r.level < k) ⊎ Few k r
  held_cases (inl e) = inl (ltb-true _ _ e)
  held_cases (inr e) =
      let both = (and-eq-true_iff (not (eqb r.location 24)) (ltb (size r.ahead) k)).0 e in
      inr (differs _ _ both.0, ltb-true _ _ both.1)

  pub held_of_is_held : is_held k r ≡ true → Held k r
  held_of_is_held h =
      let both = (and-eq-true_iff (competes r) (ltb r.level k || is_few)).0 h in
      (both.0, held_cases (or_cases (ltb r.level k) is_few both.1))

  is_few_of_few : Few k r → is_few ≡ true
  is_few_of_few (n, h) = (and-eq-true_iff _ _).1 (ap not (ne_eqb _ _ n), lt-ltb _ _ h)

  pub is_held_of_held : Held k r → is_held k r ≡ true
  is_held_of_held (c, inl h) = (and-eq-true_iff _ _).1 (c, (or-eq-true_iff _ is_few).1 (Or.inl (lt-ltb _ _ h)))
  is_held_of_held (c, inr h) =
      (and-eq-true_iff _ _).1 (c, (or-eq-true_iff (ltb r.level k) _).1 (Or.inr (is_few_of_few h)))

  pushing_cases : (eqb r.location 24 ≡ true) ⊎ (not (eqb r.bb 0) ≡ true) → Pushing r
  pushing_cases (inl e) = inl (eqb-true _ _ e)
  pushing_cases (inr e) = inr (differs _ _ e)

  is_pushing_of_pushing : Pushing r → is_pushing ≡ true
  is_pushing_of_pushing (inl i) = (or-eq-true_iff _ (not (eqb r.bb 0))).1 (Or.inl (eq-eqb _ _ i))
  is_pushing_of_pushing (inr n) = (or-eq-true_iff (eqb r.location 24) _).1 (Or.inr (ap not (ne_eqb _ _ n)))

  pub reaches_of_is_reaching : is_reaching ≡ true → Reaches k r
  reaches_of_is_reaching h = go (or_cases (is_held k r) (competes r && (eqb r.level k && is_pushing)) h)
    where
      go : (is_held k r ≡ true) ⊎ ((competes r && (eqb r.level k && is_pushing)) ≡ true) → Reaches k r
      go (inl e) = inl (held_of_is_held e)
      go (inr e) =
          let both = (and-eq-true_iff (competes r) (eqb r.level k && is_pushing)).0 e in
          let there = (and-eq-true_iff (eqb r.level k) is_pushing).0 both.1 in
          let pushing = pushing_cases (or_cases (eqb r.location 24) (not (eqb r.bb 0)) there.1) in
          inr (both.0, eqb-true _ _ there.0, pushing)

  pub is_reaching_of_reaches : Reaches k r → is_reaching ≡ true
  is_reaching_of_reaches (inl h) =
      (or-eq-true_iff _ (competes r && (eqb r.level k && is_pushing))).1 (Or.inl (is_held_of_held h))
  is_reaching_of_reaches (inr (c, e, h)) =
      let there = (and-eq-true_iff _ _).1 (eq-eqb _ _ e, is_pushing_of_pushing h) in
      (or-eq-true_iff (is_held k r) _).1 (Or.inr ((and-eq-true_iff _ _).1 (c, there)))
