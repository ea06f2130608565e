-- Masks of locations.
--
--   over_none      past 40 nothing is a location
--   marking        no bit is lost where a location is put into a mask
--   filling        a mask is filled from the first code on
--   mask_set       a mask is the set of the locations that have P
--   mask_marks     .. and marks them
--   says_kind      a list of sets of kinds that says at every code what `allowed` says may be read for it
--   level_tests    .. and marks a location just where a level goes with it
--
-- Assumes nothing.
use Prim.Native.Nat.{ℕ, ◌+◌, ◌*◌, ◌/◌, ◌%◌, ◌^◌, ◌≤◌, ◌<◌}
use mathlib.Core.Path.{◌≡◌, refl, sym, ap, ◌∙◌}
use mathlib.Core.Bool.{Bool, true, false, cond, ◌&&◌, beq}
use mathlib.Core.List.{List}
use native.Mathlib.Decide.{dec_lt}
use native.Mathlib.Nat.{mod-eq_of_lt}
use native.Mathlib.Omega.{arith}
use lib.Dec.{eqb, ltb}
use lib.ListN.{get_or}
use denote.Enum.Declared.{tag_of}
use lib.Pow.{pow_mono}
use mir.Val.{bool_byte}
use borrow.Author.Tests.{ltb-true, lt-ltb, le-ltb, ne_eqb}
use Rattle.counting.specs.Sums.{sum}
use Rattle.counting.specs.Sets.{has, set_of}
use Rattle.counting.proofs.SumLaws.{sum_next}
use Rattle.counting.proofs.SetLaws.{has-set_of, has_over, set_of_lt}
use Rattle.counting.proofs.BitLaws.{one_shl}
use Rattle.counting.proofs.TestLaws.{split, every, every_at, same_at}
use Rattle.machine.specs.Tables.{one_of, locations, level_fits}
use Rattle.machine.specs.Words.{STAY, COME, FLICKER, GO, LOOK, CANCEL, kind_number}
use Rattle.machine.specs.declared.Kind.{Kind}
use Rattle.machine.specs.declared.Kind.TheVariants.{Stay, Come, Flicker, Go, Look, Cancel}
use Rattle.machine.specs.contracts.Kind.{the_type}
use Rattle.rows.specs.Masks.{mark_of, marks_to, mask_of, allowed_at}

-- ---- past the last location

module _ (l : ℕ) (h : 41 ≤ l) where
  pub past : (x : ℕ) → x < 41 → eqb l x ≡ false
  past x k = ne_eqb l x (λ e. omega arith)

  pub over_none : one_of l locations ≡ false
  over_none =
      simp (
        past 10 (omega arith),
        past 20 (omega arith),
        past 21 (omega arith),
        past 22 (omega arith),
        past 23 (omega arith),
        past 24 (omega arith),
        past 30 (omega arith),
        past 40 (omega arith),
      )

-- ---- masks

pub location_low : (i : ℕ) → i < 8 → get_or locations i 0 < 41
unfolding every
location_low i h = ltb-true (get_or locations i 0) 41 (every_at (λ i. ltb (get_or locations i 0) 41) 8 refl i h)

-- no bit is lost where a location is put into a mask
pub mark_exact : (i : ℕ) (b : Bool) → i < 8 → bool_byte b * 2 ^ get_or locations i 0 % 2 ^ 64 ≡ mark_of i b
mark_exact i true h = let e = one_shl 64 (get_or locations i 0) (omega (arith, location_low i h)) in omega arith
mark_exact i false h = omega arith

pub mark_low : (i : ℕ) (b : Bool) → i < 8 → mark_of i b ≤ 2 ^ 40
mark_low i true h = let l = location_low i h in omega (arith, pow_mono {i = get_or locations i 0} {j = 40} (omega arith))
mark_low i false h = omega arith

-- a mask that is filled from the first code on
pub none_marked : (P : ℕ → Bool) → marks_to P 0 ≡ 0
unfolding marks_to sum
none_marked P = refl

pub next_marked : (P : ℕ → Bool) (i : ℕ) → marks_to P (i + 1) ≡ marks_to P i + mark_of i (P (get_or locations i 0))
unfolding marks_to
next_marked P i = sum_next (λ i. mark_of i (P (get_or locations i 0))) i

pub ruleset marking = (location_low, mark_exact)

pub ruleset filling = (none_marked, next_marked, mark_low)

-- the locations that have P
abbrev pub located : (ℕ → Bool) → ℕ → Bool
located P l = one_of l locations && P l

pub mask_set : (P : ℕ → Bool) → mask_of P ≡ set_of (located P) 41
unfolding marks_to set_of sum
mask_set P = omega arith

-- what `marked` computes
abbrev pub marks : ℕ → ℕ → Bool
marks mask l = ltb l 64 && eqb (mask / 2 ^ (l % 64) % 2) 1

pub mask_marks : (P : ℕ → Bool) (l : ℕ) → marks (mask_of P) l ≡ located P l
unfolding has
mask_marks P l = ap (λ (m : ℕ). marks m l) (mask_set P) ∙ go (dec_lt l 64) (dec_lt l 41)
  where
    go : Dec (l < 64) → Dec (l < 41) → marks (set_of (located P) 41) l ≡ located P l
    go (yes h) (yes k) = rw (lt-ltb l 64 h, mod-eq_of_lt h) (has-set_of (located P) 41 l k)
    go (yes h) (no k) =
        let far : 41 ≤ l = omega (arith, k) in
        rw (lt-ltb l 64 h, mod-eq_of_lt h, over_none l far)
        (has_over (set_of (located P) 41) 41 l (set_of_lt (located P) 41) far)
    go (no h) k = rw (le-ltb l 64 (omega (arith, h)), over_none l (omega (arith, h)))

-- ---- the kinds allowed at each location

-- whether a list of sets of kinds says at every code what `allowed` says, a test over all codes and kinds
abbrev says : List ℕ → ℕ → ℕ → Bool
says kinds i k = eqb (get_or kinds i 0 / 2 ^ k % 2) 1

abbrev rule : ℕ → ℕ → Bool
rule i k = allowed_at k (get_or locations i 0)

unfoldable pub right : List ℕ → Bool
unfolding every
right kinds = every (λ i. every (λ k. beq (says kinds i k) (rule i k)) 16) 8

-- one that does may be read for the rule
pub says_rule : (kinds : List ℕ) (i k : ℕ) → i < 8 → k < 16
    → eqb (get_or kinds i 0 / 2 ^ k % 2) 1 ≡ cond (right kinds) (rule i k) (says kinds i k)
unfolding right
says_rule kinds i k h j =
    split (λ b. says kinds i k ≡ cond b (rule i k) (says kinds i k)) (right kinds)
    (λ t.
    same_at (says kinds i) (rule i) 16
    (every_at (λ i. every (λ k. beq (says kinds i k) (rule i k)) 16) 8 t i h) k j)
    (λ t. refl)

-- .. as the code reads it, by the place of a kind among the six
pub says_kind : (kinds : List ℕ) (i : ℕ) (k : Kind) → i < 8
    → eqb (get_or kinds i 0 / 2 ^ (tag_of the_type k + 1) % 2) 1
    ≡ cond (right kinds) (rule i (kind_number k)) (says kinds i (kind_number k))
says_kind kinds i Stay h = says_rule kinds i STAY h (omega arith)
says_kind kinds i Come h = says_rule kinds i COME h (omega arith)
says_kind kinds i Flicker h = says_rule kinds i FLICKER h (omega arith)
says_kind kinds i Go h = says_rule kinds i GO h (omega arith)
says_kind kinds i Look h = says_rule kinds i LOOK h (omega arith)
says_kind kinds i Cancel h = says_rule kinds i CANCEL h (omega arith)

-- ---- the level that goes with a location

-- every level above 0 is as level 1
pub fits_above : (l v : ℕ) → 0 < v → level_fits l 1 ≡ level_fits l v
fits_above l v h = sym (simp (lt-ltb 0 v h, ne_eqb v 0 (λ e. omega arith)))

pub ruleset level_tests = (mask_marks, fits_above)
