-- The walk through the words of an image, as the loops make it: what is left decides.
--
--   row_found                    the first refusal of a row is that of its four words
--   row_passes                   a row that passes has a location code
--   part_on                      slots that pass leave the refusal to those after them
--   groups_on, groups_stop, groups_end    a loop over groups of slots; rows_start, rows_on, .. over rows
--   run_on, run_stop, run_end             a loop over single slots; turns_on, .. over turn cells
--
-- Assumes nothing.
use Prim.Native.Nat.{ℕ, suc, ◌+◌, ◌-◌, ◌*◌, ◌≤◌, ◌<◌}
use mathlib.Core.Path.{◌≡◌, refl, sym, ap, ap₂, ◌∙◌}
use mathlib.Core.Bool.{Bool, true, false, cond}
use mathlib.Core.List.{List, [], ◌∷◌, ◌++◌}
use native.Mathlib.Omega.{arith}
use lib.ListN.{length, get_or, drop, length-drop}
use lib.Seq.{drop-cons, drop-drop}
use Rattle.machine.specs.Images.{
  Slot,
  slot,
  STATE,
  EST,
  LIS,
  AHEAD,
  TURN,
  bare_length,
  image_length,
  row_place,
  turn_place,
  code_in,
  row_slots,
  turn_slots,
  Found,
  slot_refusal,
  first_refusal,
}
use Rattle.image_theorems.proofs.Slots.{length-row_slots}
use Rattle.image_theorems.proofs.WordChecks.{passes}
use Rattle.image_theorems.proofs.Fields.{state_kept}
use Rattle.image_theorems.proofs.Reading.{first_zero, first_some, first_none}
use Rattle.images.specs.Inner.{Sized, found_at}
use Rattle.images.specs.RowWords.{four_at, four}
use Rattle.images.specs.declared.checks.RowWords.{RowWords}
use Rattle.images.proofs.SlotLaws.{stop_at, pass_at}

-- ---- the words of a row

-- the next word of several
next_word : (ws : List ℕ) (i j : ℕ) → suc i ≡ j → i < length ws → drop i ws ≡ get_or ws i 0 ∷ drop j ws
next_word ws i j e h = drop-cons ws i 0 h ∙ ap (λ (x : ℕ). get_or ws i 0 ∷ drop x ws) e

-- the four words from place i on, before others
abbrev four_words : List ℕ → ℕ → List ℕ → List ℕ
four_words ws i vs = get_or ws i 0 ∷ get_or ws (i + 1) 0 ∷ get_or ws (i + 2) 0 ∷ get_or ws (i + 3) 0 ∷ vs

four_words_lem : (ws : List ℕ) (i : ℕ) → i + 4 ≤ length ws → drop i ws ≡ four_words ws i (drop (i + 4) ws)
four_words_lem ws i h =
    next_word ws i (i + 1) (omega arith) (omega arith)
    ∙ ap (λ (l : List ℕ). get_or ws i 0 ∷ l)
    (next_word ws (i + 1) (i + 2) (omega arith) (omega arith)
    ∙ ap (λ (l : List ℕ). get_or ws (i + 1) 0 ∷ l)
    (next_word ws (i + 2) (i + 3) (omega arith) (omega arith)
    ∙ ap (λ (l : List ℕ). get_or ws (i + 2) 0 ∷ l) (next_word ws (i + 3) (i + 4) (omega arith) (omega arith))))

-- they stand within the image, of either form
pub row_within : (ws : List ℕ) (n : ℕ) (b : Bool) (q : ℕ) → Sized ws n b → q < n → row_place q + 4 ≤ length ws
row_within ws n b q s l = go b s.length_is
  where
    go : (b : Bool) → length ws ≡ cond b (image_length n) (bare_length n) → row_place q + 4 ≤ length ws
    go true e = omega (arith, e)
    go false e = omega (arith, e)

-- the four words of a row, and what follows of a row that passes
module _ (n q : ℕ) (w : RowWords) where
  abbrev of_words : List ℕ → Found
  of_words v = first_refusal n (row_place q) (row_slots q 1) v

  pub row_found : (ws : List ℕ) → row_place q + 4 ≤ length ws → w ≡ four_at ws (row_place q)
      → of_words (four w) ≡ of_words (drop (row_place q) ws)
  unfolding first_refusal row_slots
  row_found ws within is =
      ap (λ (v : RowWords). of_words (four v)) is ∙ sym (ap of_words (four_words_lem ws (row_place q) within))

  pub row_passes : (of_words (four w)).refusal ≡ 0 → code_in w.state < 8
  unfolding row_slots
  row_passes z =
      let ss = slot EST q ∷ slot LIS q ∷ slot AHEAD q ∷ [] in
      let vs = w.est ∷ w.lis ∷ w.ahead ∷ [] in
      (state_kept n q w.state (passes n (slot STATE q) w.state
      (first_zero n (row_place q) (slot STATE q) ss w.state vs z))).code_low

-- ---- some of the slots, then others

-- where the first slots pass, what stands from j on decides
pub part_on : (n i j : ℕ) (ss us : List Slot) (ws : List ℕ) → i + length ss ≡ j → j ≤ length ws
    → (first_refusal n i ss (drop i ws)).refusal ≡ 0
    → first_refusal n i (ss ++ us) (drop i ws) ≡ first_refusal n j us (drop j ws)
part_on n i j ss us ws e h none =
    first_none n i ss us (drop i ws) (omega (arith, length-drop i ws)) none
    ∙ ap (first_refusal n (i + length ss) us) (drop-drop (length ss) i ws)
    ∙ ap (λ (x : ℕ). first_refusal n x us (drop x ws)) e

-- ---- a loop over groups of slots

module _ (n : ℕ) (ws : List ℕ) (place : ℕ → ℕ) (group : ℕ → List Slot) (groups : ℕ → ℕ → List Slot)
    (nothing : (q : ℕ) → groups q 0 ≡ []) (first : (q m : ℕ) → groups q (suc m) ≡ group q ++ groups (suc q) m) where
  -- the first refusal from group q on, and that of group q
  abbrev pub from_group : ℕ → Found
  from_group q = first_refusal n (place q) (groups q (n - q)) (drop (place q) ws)

  abbrev pub of_group : ℕ → Found
  of_group q = first_refusal n (place q) (group q) (drop (place q) ws)

  pub groups_end : from_group n ≡ record { refusal = 0; place = 0 }
  unfolding first_refusal
  groups_end =
      ap (λ (ss : List Slot). first_refusal n (place n) ss (drop (place n) ws))
      (ap (groups n) {x = n - n} {y = 0} (omega arith) ∙ nothing n)

  module _ (q : ℕ) (l : q < n) where
    split_groups : from_group q
        ≡ first_refusal n (place q) (group q ++ groups (suc q) (n - suc q)) (drop (place q) ws)
    split_groups =
        ap (λ (ss : List Slot). first_refusal n (place q) ss (drop (place q) ws))
        (ap (groups q) {x = n - q} {y = suc (n - suc q)} (omega arith) ∙ first q (n - suc q))

    pub groups_stop : ((of_group q).refusal ≡ 0 → ⊥) → from_group q ≡ of_group q
    groups_stop some =
        split_groups ∙ first_some n (place q) (group q) (groups (suc q) (n - suc q)) (drop (place q) ws) some

    pub groups_on : place q + length (group q) ≡ place (q + 1) → place (q + 1) ≤ length ws → (of_group q).refusal ≡ 0
        → from_group q ≡ from_group (q + 1)
    groups_on here long none =
        split_groups
        ∙ part_on n (place q) (place (q + 1)) (group q) (groups (suc q) (n - suc q)) ws here long none
        ∙ ap (λ (x : ℕ). first_refusal n (place (q + 1)) (groups x (n - x)) (drop (place (q + 1)) ws))
        {x = suc q} {y = q + 1} (omega arith)

-- ---- the loop over rows

module _ (n : ℕ) (ws : List ℕ) where
  abbrev one_row : ℕ → List Slot
  one_row q = row_slots q 1

  no_rows : (q : ℕ) → row_slots q 0 ≡ []
  unfolding row_slots
  no_rows q = refl

  first_row : (q m : ℕ) → row_slots q (suc m) ≡ one_row q ++ row_slots (suc q) m
  unfolding row_slots
  first_row q m = refl

  -- the first refusal from row q on, and that of row q
  abbrev pub from_row : ℕ → Found
  from_row q = first_refusal n (row_place q) (row_slots q (n - q)) (drop (row_place q) ws)

  abbrev pub of_row : ℕ → Found
  of_row q = first_refusal n (row_place q) (row_slots q 1) (drop (row_place q) ws)

  pub rows_start : first_refusal n 1 (row_slots 0 n) (drop 1 ws) ≡ from_row 0
  rows_start = ap (λ (m : ℕ). first_refusal n 1 (row_slots 0 m) (drop 1 ws)) {x = n} {y = n - 0} (omega arith)

  pub rows_end : from_row n ≡ record { refusal = 0; place = 0 }
  rows_end = groups_end n ws row_place one_row row_slots no_rows first_row

  module _ (q : ℕ) (l : q < n) where
    pub rows_stop : ((of_row q).refusal ≡ 0 → ⊥) → from_row q ≡ of_row q
    rows_stop = groups_stop n ws row_place one_row row_slots no_rows first_row q l

    pub rows_on : bare_length n ≤ length ws → (of_row q).refusal ≡ 0 → from_row q ≡ from_row (q + 1)
    rows_on long =
        groups_on n ws row_place one_row row_slots no_rows first_row q l (omega (arith, length-row_slots q 1))
        (omega arith)

-- ---- a loop over single slots

module _ (n : ℕ) (ws : List ℕ) (base : ℕ) (one : ℕ → Slot) (run : ℕ → ℕ → List Slot)
    (nothing : (k : ℕ) → run k 0 ≡ []) (first : (k m : ℕ) → run k (suc m) ≡ one k ∷ run (suc k) m) where
  -- the first refusal from slot k on
  abbrev pub from_slot : ℕ → Found
  from_slot k = first_refusal n (base + k) (run k (n - k)) (drop (base + k) ws)

  pub run_end : from_slot n ≡ record { refusal = 0; place = 0 }
  unfolding first_refusal
  run_end =
      ap (λ (ss : List Slot). first_refusal n (base + n) ss (drop (base + n) ws))
      (ap (run n) {x = n - n} {y = 0} (omega arith) ∙ nothing n)

  -- what was found of slot k, the word at place i
  module _ (k i r : ℕ) (f : Found) (l : k < n) (within : base + k < length ws) (here : i ≡ base + k)
      (slot-is : r ≡ slot_refusal n (one k) (get_or ws i 0)) (is : f ≡ found_at r i) where
    refusal-is : r ≡ slot_refusal n (one k) (get_or ws (base + k) 0)
    refusal-is = slot-is ∙ ap (λ (x : ℕ). slot_refusal n (one k) (get_or ws x 0)) here

    split_run : from_slot k
        ≡ first_refusal n (base + k) (one k ∷ run (suc k) (n - suc k))
        (get_or ws (base + k) 0 ∷ drop (suc (base + k)) ws)
    split_run =
        ap₂ (λ (ss : List Slot) (v : List ℕ). first_refusal n (base + k) ss v)
        (ap (run k) {x = n - k} {y = suc (n - suc k)} (omega arith) ∙ first k (n - suc k))
        (drop-cons ws (base + k) 0 within)

    pub run_stop : (f.refusal ≡ 0 → ⊥) → f ≡ from_slot k
    run_stop some =
        stop_at f r i is n (base + k) (one k) (get_or ws (base + k) 0) (sym here) refusal-is (run (suc k) (n - suc k))
        (drop (suc (base + k)) ws) some
        ∙ sym split_run

    pub run_on : f.refusal ≡ 0 → from_slot k ≡ from_slot (k + 1)
    run_on none =
        split_run
        ∙ pass_at f r i is n (base + k) (one k) (get_or ws (base + k) 0) (sym here) refusal-is
        (run (suc k) (n - suc k)) (drop (suc (base + k)) ws) none
        ∙ ap (λ (x : ℕ). first_refusal n x (run (suc k) (n - suc k)) (drop x ws)) {x = suc (base + k)}
        {y = base + (k + 1)} (omega arith)
        ∙ ap (λ (x : ℕ). first_refusal n (base + (k + 1)) (run x (n - x)) (drop (base + (k + 1)) ws))
        {x = suc k} {y = k + 1} (omega arith)

-- ---- the loop over turn cells

module _ (n : ℕ) (ws : List ℕ) where
  no_turns : (k : ℕ) → turn_slots k 0 ≡ []
  unfolding turn_slots
  no_turns k = refl

  first_turn : (k m : ℕ) → turn_slots k (suc m) ≡ slot TURN k ∷ turn_slots (suc k) m
  unfolding turn_slots
  first_turn k m = refl

  -- the first refusal from turn[k] on
  abbrev pub from_turn : ℕ → Found
  from_turn k = first_refusal n (turn_place n k) (turn_slots k (n - k)) (drop (turn_place n k) ws)

  pub turns_end : from_turn n ≡ record { refusal = 0; place = 0 }
  turns_end = run_end n ws (4 * n) (slot TURN) turn_slots no_turns first_turn

  module _ (k i r : ℕ) (f : Found) (l : k < n) (long : bare_length n ≤ length ws) (here : i ≡ turn_place n k)
      (slot-is : r ≡ slot_refusal n (slot TURN k) (get_or ws i 0)) (is : f ≡ found_at r i) where
    pub turns_stop : (f.refusal ≡ 0 → ⊥) → f ≡ from_turn k
    turns_stop =
        run_stop n ws (4 * n) (slot TURN) turn_slots no_turns first_turn k i r f l (omega arith) here slot-is is

    pub turns_on : f.refusal ≡ 0 → from_turn k ≡ from_turn (k + 1)
    turns_on = run_on n ws (4 * n) (slot TURN) turn_slots no_turns first_turn k i r f l (omega arith) here slot-is is
