-- The check of one word of an image, as plain facts.
--
--   Passes n s w  <=>  the word w is accepted at the slot s, in an image of n processes.
--   passes, refused_none    no refusal just where it passes
--   parts_made              a word that was put together has its own parts
--   made_again              a word that passes is put together again of its lower half
--
-- Assumes nothing.
use Prim.Native.Nat.{ℕ, ◌/◌, ◌%◌, ◌^◌, ◌<◌}
use mathlib.Core.Path.{◌≡◌, refl, ap, ◌∙◌}
use mathlib.Core.Bool.{Bool, true, false, cond, ◌&&◌, not, and-eq-true_iff}
use native.Mathlib.Omega.{arith}
use lib.Dec.{eqb}
use borrow.Author.Tests.{eqb-true, eq-eqb}
use Rattle.machine.specs.Images.{Slot, STATE, level_in, location_in, spare_body, in_range, off_diagonal, fits_slot}
use Rattle.machine.specs.Images.{slot_refusal}
use Rattle.machine.specs.Tables.{level_fits}
use Rattle.counting.proofs.TestLaws.{cond_zero}
use Rattle.image_theorems.proofs.Packing.{word_of, Packed, packed, unpacked}

pub record Passes (n : ℕ) (s : Slot) (w : ℕ) : Type 0 where
  pub parts : Packed s (w % 2 ^ 16) w
  pub body_spare : spare_body s.kind w ≡ true
  pub off_diagonal_lem : off_diagonal s w ≡ true
  pub in_range_lem : in_range n s.kind w ≡ true
  pub level_fits_lem : (eqb s.kind STATE && not (level_fits (location_in w) (level_in w))) ≡ false

-- the last of the refusals
cond_none : (b : Bool) → ◌≡◌ {A = ℕ} (cond b 5 0) 0 → b ≡ false
cond_none true h = absurd (omega arith)
cond_none false h = refl

module _ (n : ℕ) (s : Slot) (w : ℕ) where
  abbrev is_kind : Bool
  is_kind = eqb (w / 2 ^ 28) s.kind

  abbrev is_passer : Bool
  is_passer = eqb (w / 2 ^ 24 % 2 ^ 4) s.passer

  abbrev is_number : Bool
  is_number = eqb (w / 2 ^ 16 % 2 ^ 8) s.number

  abbrev is_spare : Bool
  is_spare = spare_body s.kind w

  abbrev is_low : Bool
  is_low = in_range n s.kind w

  abbrev misfit : Bool
  misfit = eqb s.kind STATE && not (level_fits (location_in w) (level_in w))

  pub passes : slot_refusal n s w ≡ 0 → Passes n s w
  unfolding slot_refusal
  passes z =
      let a = cond_zero (fits_slot s w) 2 (cond (not (off_diagonal s w && is_low)) 4 (cond misfit 5 0)) z in
      let b = cond_zero (off_diagonal s w && is_low) 3 (cond misfit 5 0) a.1 in
      let c = (and-eq-true_iff (off_diagonal s w) is_low).0 b.0 in
      let h3 = ((and-eq-true_iff (is_kind && is_passer && is_number) is_spare).0 a.0).0 in
      let h2 = ((and-eq-true_iff (is_kind && is_passer) is_number).0 h3).0 in
      record {
        parts =
            record {
              kind_is = eqb-true _ _ ((and-eq-true_iff is_kind is_passer).0 h2).0;
              passer_is = eqb-true _ _ ((and-eq-true_iff is_kind is_passer).0 h2).1;
              number_is = eqb-true _ _ ((and-eq-true_iff (is_kind && is_passer) is_number).0 h3).1;
              body_is = refl;
            };
        body_spare = ((and-eq-true_iff (is_kind && is_passer && is_number) is_spare).0 a.0).1;
        off_diagonal_lem = c.0;
        in_range_lem = c.1;
        level_fits_lem = cond_none misfit b.1;
      }

  pub refused_none : Passes n s w → slot_refusal n s w ≡ 0
  unfolding slot_refusal
  refused_none p =
      let h2 = (and-eq-true_iff is_kind is_passer).1 (eq-eqb _ _ p.parts.kind_is, eq-eqb _ _ p.parts.passer_is) in
      let h3 = (and-eq-true_iff (is_kind && is_passer) is_number).1 (h2, eq-eqb _ _ p.parts.number_is) in
      let h = (and-eq-true_iff (is_kind && is_passer && is_number) is_spare).1 (h3, p.body_spare) in
      let c = (and-eq-true_iff (off_diagonal s w) is_low).1 (p.off_diagonal_lem, p.in_range_lem) in
      rw (h, c, p.level_fits_lem)

-- a word that was put together has its own parts
pub parts_made : (s : Slot) (b : ℕ) → s.passer < 16 → s.number < 16 → b < 2 ^ 16
    → Packed s (word_of s b % 2 ^ 16) (word_of s b)
parts_made s b h k l =
    let p = packed s b (omega arith) (omega arith) l in
    record { kind_is = p.kind_is; passer_is = p.passer_is; number_is = p.number_is; body_is = refl }

-- a word that passes is put together again of a lower half that is its own
pub made_again : (n : ℕ) (s : Slot) (w b : ℕ) → Passes n s w → b ≡ w % 2 ^ 16 → word_of s b ≡ w
made_again n s w b p e = ap (word_of s) e ∙ unpacked s (w % 2 ^ 16) w p.parts
