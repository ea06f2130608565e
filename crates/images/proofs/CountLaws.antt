-- The words with passes, as the loops go through them.
--
--   sized_long, sized_counted, sized_bare   how many words there are in either form
--   passes_within               the words of a process stand within the image
--   image_mono, image_low, either_low    which is not long
--   counts_start, counts_on, counts_stop, counts_end     the loop over processes: what is left decides
--   counts_none                 no word is refused where none of any process is
--   passes_start, passes_on, passes_stop, passes_end     the loop over the words of one process
--   upper_joined   no digit of the upper half stands in one of two words alone just where the halves are equal
--   fit_none       no word of a process is refused where each has its upper half, and that over itself is 0
--   fit_start, fit_next                whether the words of the rows so far fit
--   read_count, read_all, read_bare    the counts that are read, put place by place
--   length-pass_words, pass_word_lem        the words that are written
--
-- Assumes nothing.
use Prim.Native.Nat.{ℕ, zero, suc, ◌+◌, ◌-◌, ◌*◌, ◌/◌, ◌%◌, ◌≤◌, ◌<◌}
use mathlib.Core.Path.{◌≡◌, refl, sym, ap, ap₂, ◌∙◌}
use mathlib.Core.Bool.{Bool, true, false, cond, ◌&&◌, and-eq-true_iff}
use mathlib.Core.List.{List, [], ◌∷◌, ◌++◌}
use mathlib.Core.Logic.{inl, inr}
use native.Mathlib.Nat.{mul-zero, mul-suc, mul-le-mul, mul-le-mul_left, eq-or-lt_of_le}
use native.Mathlib.Numerals.{add-one}
use native.Mathlib.Omega.{arith}
use lib.Bits.{bit_or, bit_xor, and_le_l, and_le_r, or_add_and, xor_add_and, xor_self, or_shr, xor_shr}
use lib.Dec.{eqb, ltb}
use lib.ListN.{length, get_or, take, drop, replicate, length-drop, length-replicate, get_or-replicate, take-append-drop}
use lib.Seq.{get_or-drop, ext_get_or, length-take-le}
use borrow.Author.Tests.{eqb-true, eq-eqb, lt-ltb, le-ltb}
use Rattle.counting.specs.Ranges.{up_to, every}
use Rattle.counting.proofs.TestLaws.{same_test, implies, cond_same, cond_le}
use Rattle.counting.proofs.PlacingLaws.{placed_padded}
use Rattle.counting.proofs.RangeLaws.{up_to_length, up_to_at, every_at, filled}
use Rattle.machine.specs.Images.{Slot, pass_slot, PASSES, pass_row, pass_slots, bare_length, image_length, pass_place}
use Rattle.machine.specs.Images.{count_in, Found, slot_refusal, first_refusal, passes_in}
use Rattle.image_theorems.proofs.Slots.{no_slot, length-pass_row, count_at}
use Rattle.image_theorems.proofs.RowWords.{readAt}
use Rattle.image_theorems.proofs.Reading.{none_refused}
use Rattle.image_theorems.proofs.RoundTrip.{bare_count}
use Rattle.images.specs.Inner.{Sized, Fits, AllFit, found_at, passes_refusal, pass_word, pass_words}
use Rattle.images.proofs.SlotLaws.{count-slot}
use Rattle.images.proofs.WalkLaws.{groups_on, groups_stop, groups_end, run_on, run_stop, run_end}

-- ---- how many there are, and where they stand

module _ (ws : List ℕ) (n : ℕ) where
  pub sized_long : (b : Bool) → Sized ws n b → bare_length n ≤ length ws
  sized_long b s = go b s.length_is
    where
      go : (b : Bool) → length ws ≡ cond b (image_length n) (bare_length n) → bare_length n ≤ length ws
      go true e = omega (arith, e)
      go false e = omega (arith, e)

  pub sized_counted : (b : Bool) → Sized ws n b → b ≡ true → image_length n ≤ length ws
  sized_counted b s is =
      omega (arith, s.length_is ∙ ap (λ (x : Bool). cond x (image_length n) (bare_length n)) is)

  pub sized_bare : (b : Bool) → Sized ws n b → b ≡ false → length ws ≡ bare_length n
  sized_bare b s is = s.length_is ∙ ap (λ (x : Bool). cond x (image_length n) (bare_length n)) is

pub passes_within : (n q : ℕ) → q < n → pass_place n q 0 + n ≤ image_length n
passes_within n q l =
    let up : n * suc q ≤ n * n = mul-le-mul_left n (omega arith) in
    omega (arith, up, mul-suc n q)

pub image_mono : (n m : ℕ) → n ≤ m → image_length n ≤ image_length m
image_mono n m h =
    let square : n * n ≤ m * m = mul-le-mul h h in
    omega (arith, square)

pub image_low : (n : ℕ) → n ≤ 16 → image_length n ≤ 336
image_low n few = image_mono n 16 few

pub either_low : (b : Bool) (n : ℕ) → n ≤ 16 → cond b (image_length n) (bare_length n) ≤ 336
either_low b n few = cond_le b (image_length n) (bare_length n) 336 (image_low n few) (omega arith)

-- ---- the loop over the passes of all rows

module _ (n : ℕ) (ws : List ℕ) where
  abbrev passes_at : ℕ → ℕ
  passes_at q = pass_place n q 0

  abbrev one_passes : ℕ → List Slot
  one_passes q = pass_row q 0 n

  no_passes : (q : ℕ) → pass_slots n q 0 ≡ []
  unfolding pass_slots
  no_passes q = refl

  first_passes : (q m : ℕ) → pass_slots n q (suc m) ≡ one_passes q ++ pass_slots n (suc q) m
  unfolding pass_slots
  first_passes q m = refl

  -- the first refusal from the passes of process q on
  abbrev pub from_passes : ℕ → Found
  from_passes q = first_refusal n (pass_place n q 0) (pass_slots n q (n - q)) (drop (pass_place n q 0) ws)

  pub counts_start : first_refusal n (bare_length n) (pass_slots n 0 n) (drop (bare_length n) ws) ≡ from_passes 0
  counts_start =
      ap₂ (λ (i m : ℕ). first_refusal n i (pass_slots n 0 m) (drop i ws)) {x = bare_length n} {y = pass_place n 0 0}
      (omega (arith, mul-zero n))
      (omega arith)

  pub counts_end : from_passes n ≡ record { refusal = 0; place = 0 }
  counts_end = groups_end n ws passes_at one_passes (pass_slots n) no_passes first_passes

  module _ (q : ℕ) (l : q < n) where
    pub counts_stop : ((passes_refusal ws n q).refusal ≡ 0 → ⊥) → from_passes q ≡ passes_refusal ws n q
    unfolding passes_refusal
    counts_stop = groups_stop n ws passes_at one_passes (pass_slots n) no_passes first_passes q l

    pub counts_on : image_length n ≤ length ws → (passes_refusal ws n q).refusal ≡ 0 → from_passes q ≡ from_passes (q + 1)
    unfolding passes_refusal
    counts_on long =
        let next : n * (q + 1) ≡ n * q + n = ap (λ (x : ℕ). n * x) (add-one q) ∙ mul-suc n q in
        groups_on n ws passes_at one_passes (pass_slots n) no_passes first_passes q l
        (omega (arith, length-pass_row q 0 n, next)) (omega (arith, next, passes_within n q l))

  pub counts_none : image_length n ≤ length ws
      → ((q : ℕ) → q < n → (passes_refusal ws n q).refusal ≡ 0)
      → first_refusal n (bare_length n) (pass_slots n 0 n) (drop (bare_length n) ws) ≡ record { refusal = 0; place = 0 }
  counts_none long each = counts_start ∙ to n (omega arith) ∙ counts_end
    where
      to : (k : ℕ) → k ≤ n → from_passes 0 ≡ from_passes k
      to zero h = refl
      to (suc k) h =
          to k (omega arith) ∙ counts_on k (omega arith) long (each k (omega arith)) ∙ ap from_passes (add-one k)

-- ---- the loop over the passes of one process

module _ (n : ℕ) (ws : List ℕ) (q : ℕ) where
  no_counts : (r : ℕ) → pass_row q r 0 ≡ []
  unfolding pass_row
  no_counts r = refl

  first_count : (r m : ℕ) → pass_row q r (suc m) ≡ pass_slot q r ∷ pass_row q (suc r) m
  unfolding pass_row
  first_count r m = refl

  -- the first refusal from the passes over r on
  abbrev pub from_count : ℕ → Found
  from_count r = first_refusal n (pass_place n q r) (pass_row q r (n - r)) (drop (pass_place n q r) ws)

  pub passes_start : passes_refusal ws n q ≡ from_count 0
  unfolding passes_refusal
  passes_start =
      ap (λ (m : ℕ). first_refusal n (pass_place n q 0) (pass_row q 0 m) (drop (pass_place n q 0) ws)) {x = n}
      {y = n - 0}
      (omega arith)

  pub passes_end : from_count n ≡ record { refusal = 0; place = 0 }
  passes_end = run_end n ws (bare_length n + n * q) (pass_slot q) (pass_row q) no_counts first_count

  module _ (k i r : ℕ) (f : Found) (l : k < n) (within : pass_place n q k < length ws) (here : i ≡ pass_place n q k)
      (slot-is : r ≡ slot_refusal n (pass_slot q k) (get_or ws i 0)) (is : f ≡ found_at r i) where
    pub passes_stop : (f.refusal ≡ 0 → ⊥) → f ≡ from_count k
    passes_stop =
        run_stop n ws (bare_length n + n * q) (pass_slot q) (pass_row q) no_counts first_count k i r f l within here
        slot-is is

    pub passes_on : f.refusal ≡ 0 → from_count k ≡ from_count (k + 1)
    passes_on =
        run_on n ws (bare_length n + n * q) (pass_slot q) (pass_row q) no_counts first_count k i r f l within here
        slot-is is

-- ---- whether none of them is refused

joined_none : (odd x y : ℕ) → eqb (bit_or odd (bit_xor x y)) 0 ≡ (eqb odd 0 && eqb x y)
joined_none odd x y =
    let d : ℕ = bit_xor x y in
    same_test (eqb (bit_or odd d) 0) (eqb odd 0 && eqb x y)
    (λ h.
    let none = eqb-true (bit_or odd d) 0 h in
    let sum = or_add_and odd d in
    (and-eq-true_iff (eqb odd 0) (eqb x y)).1 (
      eq-eqb odd 0 (omega (arith, none, sum, and_le_r odd d)),
      eq-eqb x y (omega (arith, none, sum, and_le_l odd d, xor_add_and x y, and_le_l x y, and_le_r x y)),
    ))
    (λ h.
    let both = (and-eq-true_iff (eqb odd 0) (eqb x y)).0 h in
    let same = ap (λ (z : ℕ). bit_xor z y) (eqb-true x y both.1) ∙ xor_self y in
    eq-eqb _ 0 (ap₂ bit_or (eqb-true odd 0 both.0) same))

pub upper_joined : (odd w u : ℕ)
    → eqb (bit_or odd (bit_xor w (u * 65536)) / 65536) 0 ≡ (eqb (odd / 65536) 0 && eqb (w / 65536) u)
upper_joined odd w u =
    let back : u * 65536 / 65536 ≡ u = omega arith in
    let half = xor_shr w (u * 65536) 16 ∙ ap (bit_xor (w / 65536)) back in
    ap (λ (x : ℕ). eqb x 0) (or_shr odd (bit_xor w (u * 65536)) 16 ∙ ap (bit_or (odd / 65536)) half)
    ∙ joined_none (odd / 65536) (w / 65536) u

module _ (n : ℕ) (ws : List ℕ) (q : ℕ) (few : n ≤ 16) (l : q < n) (long : image_length n ≤ length ws)
    (at u : ℕ) (here : at ≡ pass_place n q 0) (upper : u ≡ PASSES * 4096 + q * 256) where
  -- the word over r, whether it has its upper half, and whether that over q is 0
  abbrev word : ℕ → ℕ
  word r = get_or ws (at + r) 0

  abbrev pub has_upper : ℕ → Bool
  has_upper r = eqb (word r / 65536) (u + r)

  abbrev own_none : Bool
  own_none = eqb (word q % 65536) 0

  same_slot : (r : ℕ) → r < n
      → slot_refusal n (get_or (pass_row q 0 n) r no_slot) (get_or (drop (pass_place n q 0) ws) r 0)
      ≡ slot_refusal n (pass_slot q r) (word r)
  same_slot r h =
      ap₂ (slot_refusal n) (count_at q 0 n r h ∙ ap (pass_slot q) (omega arith))
      (get_or-drop (pass_place n q 0) ws r 0 ∙ ap (λ (i : ℕ). get_or ws (i + r) 0) (sym here))

  enough : length (pass_row q 0 n) ≤ length (drop (pass_place n q 0) ws)
  enough = omega (arith, length-pass_row q 0 n, length-drop (pass_place n q 0) ws, passes_within n q l, long)

  -- by its tests
  none-at : (r : ℕ) → r < n → has_upper r ≡ true → own_none ≡ true → slot_refusal n (pass_slot q r) (word r) ≡ 0
  none-at r h up own =
      let off =
      implies (eqb q r) (eqb (word r % 65536) 0)
      (λ e. ap (λ (j : ℕ). eqb (word j % 65536) 0) (sym (eqb-true q r e)) ∙ own) in
      count-slot n q r (word r) (u + r) (omega arith) (omega arith) (omega (arith, upper)) ∙ rw (up, off)

  pub fit_none : (every has_upper n && own_none) ≡ true → (passes_refusal ws n q).refusal ≡ 0
  unfolding passes_refusal
  fit_none h =
      let both = (and-eq-true_iff (every has_upper n) own_none).0 h in
      let at_each = every_at has_upper n both.0 in
      let fine =
      none_refused n (pass_place n q 0) (pass_row q 0 n) (drop (pass_place n q 0) ws) enough
      (λ r k.
      let low : r < n = omega (arith, length-pass_row q 0 n) in
      same_slot r low ∙ none-at r low (at_each r low) both.1) in
      ap (λ (f : Found). f.refusal) fine

-- ---- whether those of the rows so far fit

pub fit_start : (ws : List ℕ) (n : ℕ) (b : Bool) → AllFit ws n 0 b true
fit_start ws n b = record { none = λ t h q l. absurd (omega arith); bare = λ t. refl }

pub fit_next : (ws : List ℕ) (n q : ℕ) (b f g : Bool) → AllFit ws n q b f → Fits ws n q b g
    → AllFit ws n (q + 1) b (f && g)
fit_next ws n q b f g all one =
    record {
      none =
          λ t h j l.
          let both = (and-eq-true_iff f g).0 h in
          let up : j ≤ q = omega arith in
          elim (eq-or-lt_of_le up) [
            | inl e ↦ ap (λ (k : ℕ). (passes_refusal ws n k).refusal) e ∙ one.none t both.1
            | inr k ↦ all.none t both.0 j k
          ];
      bare = λ t. (and-eq-true_iff f g).1 (all.bare t, one.bare t);
    }

-- ---- the counts that are read

-- the rest of a list of numbers that are 0 there
rest_zero : (g : ℕ → ℕ) (m k : ℕ) → ((i : ℕ) → k ≤ i → i < m → g i ≡ 0) → drop k (up_to g m) ≡ replicate (m - k) 0
rest_zero g m k zeros =
    let count = up_to_length g m in
    ext_get_or 0 (drop k (up_to g m)) (replicate (m - k) 0)
    (length-drop k (up_to g m) ∙ ap (λ (x : ℕ). x - k) count ∙ sym (length-replicate {A = ℕ} (m - k) 0))
    (λ i small.
    let low : k + i < m = omega (arith, length-drop k (up_to g m), count, small) in
    get_or-drop k (up_to g m) i 0 ∙ up_to_at g m (k + i) low ∙ zeros (k + i) (omega arith) low
    ∙ sym (get_or-replicate (m - k) i 0 0 (omega arith)))

-- an array that was filled up to place k, where the others are 0
filled_rest : (g : ℕ → ℕ) (m k : ℕ) → k ≤ m → ((i : ℕ) → k ≤ i → i < m → g i ≡ 0) → filled g m k ≡ up_to g m
filled_rest g m k h zeros =
    let first : length (take k (up_to g m)) ≡ k = length-take-le k (up_to g m) (omega (arith, up_to_length g m)) in
    placed_padded m 0 (take k (up_to g m))
    ∙ ap (λ (x : ℕ). take k (up_to g m) ++ replicate (m - x) 0) first
    ∙ ap (λ (v : List ℕ). take k (up_to g m) ++ v) (sym (rest_zero g m k zeros))
    ∙ take-append-drop k (up_to g m)

module _ (n : ℕ) (ws : List ℕ) (q : ℕ) where
  pub read_count : (at r : ℕ) → at ≡ pass_place n q 0 → r < n
      → count_in (get_or ws (at + r) 0) ≡ readAt n ws q r
  read_count at r here h =
      ap (λ (i : ℕ). count_in (get_or ws i 0)) {x = at + r} {y = pass_place n q r} (omega (arith, here))
      ∙ sym (ap (λ (b : Bool). cond b (count_in (get_or ws (pass_place n q r) 0)) 0) (lt-ltb r n h))

  pub read_all : (r : ℕ) → n ≤ 16 → r ≡ n → filled (readAt n ws q) 16 r ≡ passes_in n ws q
  read_all r few end =
      filled_rest (readAt n ws q) 16 r (omega arith)
      (λ i h k.
      ap (λ (b : Bool). cond b (count_in (get_or ws (pass_place n q i) 0)) 0) (le-ltb i n (omega arith)))

  pub read_bare : length ws ≡ bare_length n → filled (readAt n ws q) 16 0 ≡ passes_in n ws q
  read_bare long =
      filled_rest (readAt n ws q) 16 0 (omega arith)
      (λ i h k.
      ap (λ (v : ℕ). cond (ltb i n) v 0) (bare_count ws n q i long) ∙ cond_same (ltb i n) 0)

-- ---- the words that are written

module _ (n q : ℕ) (l : List ℕ) where
  pub length-pass_words : length (pass_words n q l) ≡ n
  unfolding pass_words
  length-pass_words = up_to_length (λ r. pass_word q r (get_or l r 0)) n

  pub pass_word_lem : (r : ℕ) → r < n → get_or (pass_words n q l) r 0 ≡ pass_word q r (get_or l r 0)
  unfolding pass_words
  pass_word_lem r h = up_to_at (λ i. pass_word q i (get_or l i 0)) n r h
