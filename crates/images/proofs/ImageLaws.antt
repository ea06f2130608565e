-- The header of an image; and its words as rows, turn cells and passes.
--
--   Headed, headed, unheaded    what the size that a first word names says of it
--   found_unheaded, found_misfit, found_words    what refuses an image by its first word
--   image_rows, image_turns, image_bare, image_counts    all words: the rows decide where they refuse, else the turn
--                               cells, else the passes, where there are such words
--
-- Assumes nothing.
use Prim.Native.Nat.{ℕ, ◌-◌, ◌≤◌, min}
use mathlib.Core.Path.{◌≡◌, refl, sym, ap, ◌∙◌}
use mathlib.Core.Bool.{Bool, true, false, cond}
use mathlib.Core.List.{List}
use native.Mathlib.Omega.{arith}
use lib.ListN.{length, get_or, drop}
use Rattle.std.specs.Prelude.{Option, Some, None}
use Rattle.machine.specs.Images.{
  bare_length,
  turn_place,
  says_passes,
  size_in,
  is_header,
  length_in,
  slots_in,
  row_slots,
  turn_slots,
  pass_slots,
  bare_slots,
  slots,
  Found,
  first_refusal,
  image_refusal,
}
use Rattle.image_theorems.proofs.Slots.{length-row_slots, length-bare_slots}
use Rattle.image_theorems.proofs.Headers.{header_facts}
use Rattle.image_theorems.proofs.Reading.{first_some, refused_header, refused_length, refused_words}
use Rattle.images.specs.Inner.{words_refusal}
use Rattle.images.proofs.SlotLaws.{none_found}
use Rattle.images.proofs.WalkLaws.{part_on}

-- ---- the header

-- the size n that the first word w names
pub record Headed (w n : ℕ) : Type 0 where
  pub is : is_header w ≡ true
  pub size_is : n ≡ size_in w
  pub some : 2 ≤ n
  pub few : n ≤ 16

module _ (w : ℕ) where
  named : Bool → Option ℕ
  named b = cond b (Some (size_in w)) None

  pub unheaded : cond (is_header w) (Some (size_in w)) None ≡ None → is_header w ≡ false
  unfolding named
  unheaded h = go (is_header w) h
    where
      go : (b : Bool) → named b ≡ None → b ≡ false
      go true e = absurd (let z : ◌≡◌ {A = ℕ} 0 1 = cc in omega arith)
      go false e = refl

  pub headed : (n : ℕ) → cond (is_header w) (Some (size_in w)) None ≡ Some n → Headed w n
  unfolding named
  headed n h = go (is_header w) refl h
    where
      go : (b : Bool) → is_header w ≡ b → named b ≡ Some n → Headed w n
      go true e k =
          let f = header_facts w e in
          let size : n ≡ size_in w = cc in
          record { is = e; size_is = size; some = omega (arith, f.some); few = omega (arith, f.few) }
      go false e k = absurd (let z : ◌≡◌ {A = ℕ} 0 1 = cc in omega arith)

-- what refuses an image with the first word w
module _ (ws : List ℕ) (w : ℕ) (head : w ≡ get_or ws 0 0) where
  pub found_unheaded : is_header w ≡ false → record { refusal = 1; place = 0 } ≡ image_refusal ws
  found_unheaded none = sym (refused_header ws (ap is_header (sym head) ∙ none))

  module _ (n : ℕ) (h : Headed w n) where
    is : is_header (get_or ws 0 0) ≡ true
    is = ap is_header (sym head) ∙ h.is

    pub found_misfit : (all p : ℕ) → all ≡ length_in w → (length ws ≡ all → ⊥) → p ≡ min (length ws) all
        → record { refusal = 2; place = p } ≡ image_refusal ws
    found_misfit all p long ne here =
        let same = long ∙ ap length_in head in
        sym
        (refused_length ws is (λ e. ne (e ∙ sym same))
        ∙ (λ i. record { refusal = 2; place = (ap (min (length ws)) (sym same) ∙ sym here) i }))

    pub found_words : length ws ≡ length_in w → image_refusal ws ≡ words_refusal ws n (says_passes w)
    found_words long =
        refused_words ws is (long ∙ ap length_in head)
        ∙ ap (λ (x : ℕ). first_refusal (size_in x) 1 (slots_in x) (drop 1 ws)) (sym head)
        ∙ ap (λ (m : ℕ). first_refusal m 1 (cond (says_passes w) (slots m) (bare_slots m)) (drop 1 ws)) (sym h.size_is)

-- ---- the words

module _ (n : ℕ) (ws : List ℕ) where
  -- the first refusal of each part, of the words of a bare image, and of all words
  abbrev of_rows : Found
  of_rows = first_refusal n 1 (row_slots 0 n) (drop 1 ws)

  abbrev of_turns : Found
  of_turns = first_refusal n (turn_place n 1) (turn_slots 1 (n - 1)) (drop (turn_place n 1) ws)

  abbrev of_counts : Found
  of_counts = first_refusal n (bare_length n) (pass_slots n 0 n) (drop (bare_length n) ws)

  abbrev of_bare : Found
  of_bare = first_refusal n 1 (bare_slots n) (drop 1 ws)

  abbrev pub of_all : Bool → Found
  of_all b = words_refusal ws n b

  bare_rows : (of_rows.refusal ≡ 0 → ⊥) → of_bare ≡ of_rows
  unfolding bare_slots
  bare_rows some = first_some n 1 (row_slots 0 n) (turn_slots 1 (n - 1)) (drop 1 ws) some

  bare_turns : 2 ≤ n → bare_length n ≤ length ws → of_rows.refusal ≡ 0 → of_bare ≡ of_turns
  unfolding bare_slots
  bare_turns some long none =
      part_on n 1 (turn_place n 1) (row_slots 0 n) (turn_slots 1 (n - 1)) ws (omega (arith, length-row_slots 0 n))
      (omega arith) none

  all_bare : (b : Bool) → (of_bare.refusal ≡ 0 → ⊥) → of_all b ≡ of_bare
  unfolding slots
  all_bare false some = refl
  all_bare true some = first_some n 1 (bare_slots n) (pass_slots n 0 n) (drop 1 ws) some

  pub image_rows : (b : Bool) → (of_rows.refusal ≡ 0 → ⊥) → of_all b ≡ of_rows
  image_rows b some = all_bare b (λ z. some (none_found (bare_rows some) z)) ∙ bare_rows some

  module _ (some : 2 ≤ n) (long : bare_length n ≤ length ws) (none : of_rows.refusal ≡ 0) where
    pub image_turns : (b : Bool) → (of_turns.refusal ≡ 0 → ⊥) → of_all b ≡ of_turns
    image_turns b bad =
        let turns = bare_turns some long none in
        all_bare b (λ z. bad (none_found turns z)) ∙ turns

    pub image_bare : of_all false ≡ of_turns
    image_bare = bare_turns some long none

    pub image_counts : of_turns.refusal ≡ 0 → of_all true ≡ of_counts
    unfolding slots
    image_counts good =
        part_on n 1 (bare_length n) (bare_slots n) (pass_slots n 0 n) ws
        (omega (arith, length-bare_slots n (omega arith))) long (none_found (sym (bare_turns some long none)) good)
