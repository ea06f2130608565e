-- Writing an image: the words of its rows, turn cells and passes where they stand, and what writing leaves.
--
--   length-rows_part, length-turns_part, length-passes_part
--                  how many words of the rows, turn cells and passes there are
--   row_words, turn_word, pass_words_lem    which
--   passes_start, passes_next, passes_end    the loop that puts the passes, process by process
--   image_placed           header, rows, turn cells and passes put one after the other are the image
--   packable               the rows of a sound table fit their words
--   written_sound, written_few, written_image    the three outcomes
--
-- Assumes nothing.
use Prim.Native.Nat.{ℕ, zero, suc, ◌+◌, ◌-◌, ◌*◌, ◌≤◌, ◌<◌}
use mathlib.Core.Path.{◌≡◌, refl, sym, ap, ap₂, ◌∙◌}
use mathlib.Core.Bool.{Bool, true, false, cond, not}
use mathlib.Core.List.{List, [], ◌∷◌, ◌++◌, map-append}
use native.Mathlib.Nat.{mul-zero, mul-suc}
use native.Mathlib.Numerals.{add-one}
use native.Mathlib.Omega.{arith}
use lib.Dec.{eqb, leb}
use lib.ListN.{length, get_or, set, length-map, length-append}
use borrow.Author.Tests.{eq-eqb, ne_eqb, le-leb, lt-leb}
use Rattle.counting.specs.Placing.{placed}
use Rattle.counting.proofs.PlacingLaws.{placed_one, placed_then}
use Rattle.counting.proofs.PlacingLaws.{begun, begun_start, begun_more, begun_end}
use Rattle.machine.specs.Tables.{Table, row, locations, table_refusal}
use Rattle.machine.specs.Images.{slot, STATE, TURN, row_slots, turn_slots, pass_slots, bare_slots, slots}
use Rattle.machine.specs.Images.{bare_length, image_length, turn_place, pass_place, header_of, word_in, image_of}
use Rattle.machine.specs.Images.{Written, written_of}
use Rattle.machine.specs.declared.Row.{Row}
use Rattle.machine.specs.Rows.{blank}
use Rattle.std.proofs.lemmas.List.{get_or_default}
use Rattle.machine.proofs.SoundRows.{sound_rows}
use Rattle.image_theorems.proofs.Locations.{place_below}
use Rattle.image_theorems.proofs.Slots.{no_slot, length-row_slots, length-turn_slots, length-pass_slots}
use Rattle.image_theorems.proofs.Slots.{slot_of_row, slot_of_turn, slot_of_count, pair_low}
use Rattle.image_theorems.proofs.RoundTrip.{get_d_map_within}
use Rattle.std.specs.Prelude.{Result, Ok, Err}
use Rattle.machine.specs.Refusals.{refusal_in}
use Rattle.machine.specs.declared.Refusal.{Refusal}
use Rattle.images.specs.Answers.{Writes}
use Rattle.images.specs.Inner.{Packable, word_for, row_words_of, pass_words, rows_part, turns_part, passes_part}
use Rattle.images.proofs.CountLaws.{passes_within, length-pass_words, pass_word_lem}

-- what a table is read with past its end
abbrev pub void : Row
void =
    record { location = 0; act = 0; bb = 0; level = 0; est = 0; lis = 0; ahead = 0; turn = 0; passes = [] }

-- a row that is there
pub row_at : (t : Table) (q : ℕ) → q < length t → get_or t q void ≡ row t q
row_at t q h = get_or_default t q void blank h

-- ---- the parts of an image

module _ (t : Table) where
  pub length-rows_part : length (rows_part t) ≡ 4 * length t
  length-rows_part = length-map (row_slots 0 (length t)) (word_in t) ∙ length-row_slots 0 (length t)

  pub length-turns_part : length (turns_part t) ≡ length t - 1
  length-turns_part = length-map (turn_slots 1 (length t - 1)) (word_in t) ∙ length-turn_slots 1 (length t - 1)

  pub length-passes_part : length (passes_part t) ≡ length t * length t
  length-passes_part =
      length-map (pass_slots (length t) 0 (length t)) (word_in t) ∙ length-pass_slots (length t) 0 (length t)

  -- word k of the four of process q
  pub row_words : (q k : ℕ) → q < length t → k < 4
      → get_or (row_words_of q (row t q)) k 0 ≡ get_or (rows_part t) (4 * q + k) 0
  unfolding word_in
  row_words q k h l =
      pick k l
      ∙ sym
      (get_d_map_within (word_in t) (row_slots 0 (length t)) (4 * q + k) no_slot
      (omega (arith, length-row_slots 0 (length t)))
      ∙ ap (word_in t) (slot_of_row (length t) q k h l))
    where
      pick : (k : ℕ) → k < 4 → get_or (row_words_of q (row t q)) k 0 ≡ word_in t (slot (STATE + k) q)
      pick zero l = refl
      pick (suc zero) l = refl
      pick (suc (suc zero)) l = refl
      pick (suc (suc (suc zero))) l = refl
      pick (suc (suc (suc (suc k)))) l = absurd (omega arith)

  pub turn_word : (k : ℕ) → 0 < k → k < length t → word_for TURN k (row t k) ≡ get_or (turns_part t) (k - 1) 0
  unfolding word_in
  turn_word k g h =
      sym
      (get_d_map_within (word_in t) (turn_slots 1 (length t - 1)) (k - 1) no_slot
      (omega (arith, length-turn_slots 1 (length t - 1)))
      ∙ ap (word_in t) (slot_of_turn (length t) k g h))

  -- the word with the passes of q over r
  pub pass_words_lem : (q r : ℕ) → q < length t → r < length t
      → get_or (pass_words (length t) q (row t q).passes) r 0 ≡ get_or (passes_part t) (length t * q + r) 0
  unfolding word_in
  pass_words_lem q r h l =
      pass_word_lem (length t) q (row t q).passes r l
      ∙ sym
      (get_d_map_within (word_in t) (pass_slots (length t) 0 (length t)) (length t * q + r) no_slot
      (omega (arith, length-pass_slots (length t) 0 (length t), pair_low (length t) q r h l))
      ∙ ap (word_in t) (slot_of_count (length t) q r h l))

  -- those of process q, after those of the processes before it
  next_passes : (o : List ℕ) (q : ℕ) → q < length t → image_length (length t) ≤ length o
      → placed (begun o (bare_length (length t)) (passes_part t) (length t * q)) (pass_place (length t) q 0)
      (pass_words (length t) q (row t q).passes)
      ≡ begun o (bare_length (length t)) (passes_part t) (length t * (q + 1))
  next_passes o q h long =
      let n = length t in
      let words = pass_words n q (row t q).passes in
      let count = length-pass_words n q (row t q).passes in
      let next : n * (q + 1) ≡ n * q + n = ap (λ (x : ℕ). n * x) (add-one q) ∙ mul-suc n q in
      begun_more o (bare_length n) (passes_part t) (omega (arith, length-passes_part, long)) (n * q) (n * (q + 1))
      (pass_place n q 0) words 0 (omega arith) (omega (arith, next, count))
      (omega (arith, length-passes_part, next, passes_within n q h))
      (λ r l. pass_words_lem q r h (omega (arith, count, l)))

  -- the words before the passes
  abbrev first_part : List ℕ
  first_part = (header_of (length t) ∷ rows_part t) ++ turns_part t

  image_parts : image_of t ≡ first_part ++ passes_part t
  unfolding image_of slots bare_slots
  image_parts =
      let n = length t in
      ap (λ (l : List ℕ). header_of n ∷ l)
      (map-append (word_in t) (row_slots 0 n ++ turn_slots 1 (n - 1)) (pass_slots n 0 n)
      ∙ ap (λ (l : List ℕ). l ++ passes_part t) (map-append (word_in t) (row_slots 0 n) (turn_slots 1 (n - 1))))

  module _ (l : List ℕ) (some : 0 < length t) (long : image_length (length t) ≤ length l) where
    first_placed : (k : ℕ) → k ≡ turn_place (length t) 1
        → placed (placed (set l 0 (header_of (length t))) 1 (rows_part t)) k (turns_part t) ≡ placed l 0 first_part
    first_placed k here =
        let h = header_of (length t) in
        ap (λ (v : List ℕ). placed (placed v 1 (rows_part t)) k (turns_part t)) (placed_one l 0 h (omega arith))
        ∙ ap (λ (v : List ℕ). placed v k (turns_part t)) (placed_then l 0 (h ∷ []) (rows_part t) (omega arith))
        ∙ ap (λ (i : ℕ). placed (placed l 0 (h ∷ rows_part t)) i (turns_part t)) {x = k}
        {y = 0 + suc (length (rows_part t))} (omega (arith, length-rows_part))
        ∙ placed_then l 0 (h ∷ rows_part t) (turns_part t) (omega arith)

    pub image_placed : (k i : ℕ) → k ≡ turn_place (length t) 1 → i ≡ bare_length (length t)
        → placed (placed (placed (set l 0 (header_of (length t))) 1 (rows_part t)) k (turns_part t)) i (passes_part t)
        ≡ placed l 0 (image_of t)
    image_placed k i here there =
        let whole = length-append (header_of (length t) ∷ rows_part t) (turns_part t) in
        ap (λ (v : List ℕ). placed v i (passes_part t)) (first_placed k here)
        ∙ ap (λ (x : ℕ). placed (placed l 0 first_part) x (passes_part t)) {x = i} {y = 0 + length first_part}
        (omega (arith, whole, length-rows_part, length-turns_part))
        ∙ placed_then l 0 first_part (passes_part t) (omega arith)
        ∙ ap (placed l 0) (sym image_parts)

-- ---- the loop over processes

module _ (t : Table) (o : List ℕ) where
  -- after the passes of q processes
  abbrev pub passes_put : ℕ → List ℕ
  passes_put q = begun o (bare_length (length t)) (passes_part t) (length t * q)

  pub passes_start : o ≡ passes_put 0
  passes_start =
      begun_start o (bare_length (length t)) (passes_part t)
      ∙ ap (begun o (bare_length (length t)) (passes_part t)) (sym (mul-zero (length t)))

  pub passes_next : (q : ℕ) → q < length t → image_length (length t) ≤ length o
      → placed (passes_put q) (pass_place (length t) q 0) (pass_words (length t) q (row t q).passes) ≡ passes_put (q + 1)
  passes_next = next_passes t o

  pub passes_end : (q : ℕ) → q ≡ length t → passes_put q ≡ placed o (bare_length (length t)) (passes_part t)
  passes_end q end =
      let whole : length t * q ≡ length t * length t = ap (λ (k : ℕ). length t * k) end in
      begun_end o (bare_length (length t)) (passes_part t) (length t * q) (omega (arith, whole, length-passes_part t))

-- ---- the fields of a sound row

pub packable : (t : Table) → table_refusal t ≡ 0 → (q : ℕ) → q < length t → Packable (row t q)
packable t ok q l =
    let all = sound_rows t ok in
    let s = all.2 q l in
    record {
      code_low = place_below (row t q).location locations s.location_known;
      act_low = s.act_low;
      bb_low = s.bb_low;
      level_low = omega (arith, s.level_low, all.1);
    }

-- ---- the outcomes

module _ (t : Table) (l : List ℕ) where
  abbrev outcome : Bool → Bool → Written
  outcome a b =
      cond (not a) (record { refusal = table_refusal t; words = l })
      (cond (not b) (record { refusal = 13; words = l })
      (record { refusal = 0; words = placed l 0 (image_of t) }))

  -- it wrote what there is to write, and answers so
  writes : (m : List ℕ) (r : Result (Unit {0}) Refusal) (a b : Bool) → eqb (table_refusal t) 0 ≡ a
      → leb (image_length (length t)) (length l) ≡ b
      → outcome a b ≡ record { refusal = refusal_in r; words = m }
      → Writes t l m r
  unfolding written_of
  writes m r a b sound fits is =
      let e = ap₂ outcome sound fits ∙ is in
      record {
        refusal_is = sym (ap (λ (w : Written). w.refusal) e);
        words_are = sym (ap (λ (w : Written). w.words) e);
      }

  pub written_sound : (r : Result (Unit {0}) Refusal) → refusal_in r ≡ table_refusal t → (refusal_in r ≡ 0 → ⊥)
      → Writes t l l r
  written_sound r is ne =
      writes l r false (leb (image_length (length t)) (length l)) (ne_eqb (table_refusal t) 0 (λ z. ne (is ∙ z))) refl
      (λ i. record { refusal = sym is i; words = l })

  module _ (sound : table_refusal t ≡ 0) where
    pub written_few : length l < image_length (length t) → Writes t l l (Err Refusal.TooFewLent)
    written_few few =
        writes l (Err Refusal.TooFewLent) true false (eq-eqb (table_refusal t) 0 sound)
        (lt-leb (image_length (length t)) (length l) few) refl

    pub written_image : (m : List ℕ) → image_length (length t) ≤ length l → m ≡ placed l 0 (image_of t)
        → Writes t l m (Ok (tt {0}))
    written_image m long words =
        writes m (Ok (tt {0})) true true (eq-eqb (table_refusal t) 0 sound)
        (le-leb (image_length (length t)) (length l) long) (λ i. record { refusal = 0; words = sym words i })
