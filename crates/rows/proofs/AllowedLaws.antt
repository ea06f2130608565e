-- The code's test of a kind of word, a mask of locations and a test of lis, is `allowed`.
--
--   lis_fits k e l   what the code asks of lis beside the mask; e is true where lis is empty
--   allowed_with    the two are `allowed`
--   allowed_plain   .. where lis does not matter
--   kind_tests      .. for each kind
--   look_tests      LOOK with an argument
--
-- Assumes nothing.
use Prim.Native.Nat.{ℕ, ◌≤◌, ◌<◌}
use mathlib.Core.Path.{◌≡◌, refl, sym, ap, ◌∙◌}
use mathlib.Core.Bool.{Bool, true, false, cond, ◌&&◌, ◌||◌, not, and-true, beq}
use native.Mathlib.Decide.{dec_lt, ℕ_discrete}
use native.Mathlib.Omega.{arith}
use lib.Dec.{eqb}
use borrow.Author.Tests.{ne_eqb}
use Rattle.counting.specs.Sets.{has}
use Rattle.counting.proofs.SetLaws.{has_zero}
use Rattle.counting.proofs.TestLaws.{cond_same, every, same_at}
use Rattle.machine.specs.Rows.{blank, with_location, with_lis}
use Rattle.machine.specs.Words.{STAY, COME, FLICKER, GO, LOOK, CANCEL, is_kind}
use Rattle.machine.specs.Steps.{allowed}
use Rattle.machine.specs.declared.Row.{Row}
use Rattle.machine.proofs.KindLaws.{by_kind}
use Rattle.rows.specs.Masks.{mask_of, allowed_at}
use Rattle.rows.proofs.MaskLaws.{past, over_none, located, marks, mask_marks}

-- ---- `allowed` looks at the location, and whether lis is empty

abbrev stands : Bool → ℕ → Row
stands e l = with_location l (with_lis (cond e 0 1) blank)

allowed_stands : (k : ℕ) (r : Row) → allowed k r ≡ allowed k (stands (eqb r.lis 0) r.location)
unfolding allowed
allowed_stands k r = go (eqb r.lis 0) refl
  where
    go : (e : Bool) → eqb r.lis 0 ≡ e → allowed k r ≡ allowed k (stands e r.location)
    go true i = rw i
    go false i = rw i

allowed_over : (k : ℕ) (r : Row) → 41 ≤ r.location → allowed k r ≡ false
unfolding allowed
allowed_over k r h =
    let l = r.location in
    simp (
      past l h 10 (omega arith),
      past l h 20 (omega arith),
      past l h 21 (omega arith),
      past l h 22 (omega arith),
      past l h 23 (omega arith),
      past l h 24 (omega arith),
      past l h 30 (omega arith),
      past l h 40 (omega arith),
      cond_same,
    )

-- ---- what the code computes

-- LOOK wants a lis that is not empty, GO at 22 one that is
abbrev lis_fits : ℕ → Bool → ℕ → Bool
lis_fits k e l = cond (eqb k LOOK) (not e) (cond (eqb k GO) (not (eqb l 22) || e) true)

abbrev computed : ℕ → Bool → ℕ → Bool
computed k e l = located (allowed_at k) l && lis_fits k e l

abbrev rule : ℕ → Bool → ℕ → Bool
rule k e l = allowed k (stands e l)

-- by one test for each kind, with lis empty or not
agrees : (e : Bool) (k : ℕ) → is_kind k ≡ true → every (λ l. beq (computed k e l) (rule k e l)) 41 ≡ true
unfolding every allowed allowed_at
agrees true =
    by_kind (λ k. every (λ l. beq (computed k true l) (rule k true l)) 41 ≡ true) refl refl refl refl refl refl
agrees false =
    by_kind (λ k. every (λ l. beq (computed k false l) (rule k false l)) 41 ≡ true) refl refl refl refl refl refl

computed_right : (k : ℕ) (e : Bool) (l : ℕ) → is_kind k ≡ true → computed k e l ≡ rule k e l
computed_right k e l kind = go (dec_lt l 41)
  where
    go : Dec (l < 41) → computed k e l ≡ rule k e l
    go (yes h) = same_at (computed k e) (rule k e) 41 (agrees e k kind) l h
    go (no h) = rw (over_none l (omega (arith, h)), allowed_over k (stands e l) (omega (arith, h)))

module _ (k m : ℕ) (r : Row) (kind : is_kind k ≡ true) (f : m ≡ mask_of (allowed_at k)) where
  abbrev lis_test : Bool
  lis_test = lis_fits k (eqb r.lis 0) r.location

  pub allowed_with : (marks m r.location && lis_test) ≡ allowed k r
  allowed_with =
      ap (λ (m : ℕ). marks m r.location && lis_test) f
      ∙ ap (λ (b : Bool). b && lis_test) (mask_marks (allowed_at k) r.location)
      ∙ computed_right k (eqb r.lis 0) r.location kind
      ∙ sym (allowed_stands k r)

  pub allowed_plain : lis_test ≡ true → marks m r.location ≡ allowed k r
  allowed_plain t =
      sym (and-true (marks m r.location))
      ∙ ap (λ (b : Bool). marks m r.location && b) (sym t)
      ∙ allowed_with

-- .. for each kind
pub stay_allowed : (m : ℕ) (r : Row) → m ≡ mask_of (allowed_at STAY) → marks m r.location ≡ allowed STAY r
stay_allowed m r f = allowed_plain STAY m r refl f refl

pub come_allowed : (m : ℕ) (r : Row) → m ≡ mask_of (allowed_at COME) → marks m r.location ≡ allowed COME r
come_allowed m r f = allowed_plain COME m r refl f refl

pub flicker_allowed : (m : ℕ) (r : Row) → m ≡ mask_of (allowed_at FLICKER) → marks m r.location ≡ allowed FLICKER r
flicker_allowed m r f = allowed_plain FLICKER m r refl f refl

pub cancel_allowed : (m : ℕ) (r : Row) → m ≡ mask_of (allowed_at CANCEL) → marks m r.location ≡ allowed CANCEL r
cancel_allowed m r f = allowed_plain CANCEL m r refl f refl

pub go_allowed : (m : ℕ) (r : Row) → m ≡ mask_of (allowed_at GO)
    → (marks m r.location && (not (eqb r.location 22) || eqb r.lis 0)) ≡ allowed GO r
go_allowed m r f = allowed_with GO m r refl f

pub look_allowed : (m : ℕ) (r : Row) → m ≡ mask_of (allowed_at LOOK) → (marks m r.location && not (eqb r.lis 0)) ≡ allowed LOOK r
look_allowed m r f = allowed_with LOOK m r refl f

pub ruleset kind_tests = (stay_allowed, come_allowed, flicker_allowed, go_allowed, look_allowed, cancel_allowed)

-- ---- LOOK with an argument

-- a lis that has a member is not empty
member_some : (s a : ℕ) → (not (eqb s 0) && has s a) ≡ has s a
member_some s a = go (ℕ_discrete s 0)
  where
    go : Dec (s ≡ 0) → (not (eqb s 0) && has s a) ≡ has s a
    go (yes e) = rw e (sym (has_zero a))
    go (no ne) = rw (ne_eqb s 0 ne)

module _ (m : ℕ) (r : Row) (a : ℕ) (f : m ≡ mask_of (allowed_at LOOK)) where
  look_is : (b : Bool) → marks m r.location ≡ b → allowed LOOK r ≡ (b && not (eqb r.lis 0))
  look_is b e = sym (allowed_with LOOK m r refl f) ∙ ap (λ (b : Bool). b && not (eqb r.lis 0)) e

  pub looks_not : marks m r.location ≡ false → (allowed LOOK r && has r.lis a) ≡ false
  looks_not e = ap (λ (b : Bool). b && has r.lis a) (look_is false e)

  pub looks_so : marks m r.location ≡ true → (allowed LOOK r && has r.lis a) ≡ has r.lis a
  looks_so e = ap (λ (b : Bool). b && has r.lis a) (look_is true e) ∙ member_some r.lis a

pub ruleset look_tests = (looks_not, looks_so)
