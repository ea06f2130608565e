-- Slots: where the word of each slot stands in an image, and that there are no others.
--
--   header_for b n, length_for b n, slots_for b n  ==  of an image of n processes, which is bare where b is false.
--   Placed n b i s  <=>  in such an image the word at place i is that of the slot s.
--   slot_at              the list of slots says the same
--   placed_at            each place past the header has such a word
--
-- Assumes nothing.
use Prim.Native.Nat.{ℕ, zero, suc, ◌+◌, ◌-◌, ◌*◌, ◌/◌, ◌%◌, ◌≤◌, ◌<◌}
use mathlib.Core.Path.{◌≡◌, refl, sym, ap, ap₂, ◌∙◌, subst}
use mathlib.Core.Bool.{Bool, true, false, cond}
use mathlib.Core.List.{List, ◌++◌}
use native.Mathlib.Decide.{dec_le}
use native.Mathlib.Nat.{mul-zero, mul-suc, mod-lt, div-add-mod, div-lt_iff_lt-mul, mul-le-mul_left}
use native.Mathlib.Omega.{arith}
use lib.ListN.{length, get_or, length-append, get_or-append}
use lib.Seq.{get_or-append-add}
use Rattle.machine.specs.Images.{Slot, slot, pass_slot, STATE, EST, LIS, AHEAD, TURN}
use Rattle.machine.specs.Images.{row_slots, turn_slots, pass_row, pass_slots, bare_slots, slots}
use Rattle.machine.specs.Images.{bare_length, image_length, bare_header_of, header_of, row_place, turn_place}
use Rattle.machine.specs.Images.{pass_place}

-- ---- by whether passes follow

abbrev pub header_for : Bool → ℕ → ℕ
header_for b n = cond b (header_of n) (bare_header_of n)

abbrev pub length_for : Bool → ℕ → ℕ
length_for b n = cond b (image_length n) (bare_length n)

abbrev pub slots_for : Bool → ℕ → List Slot
slots_for b n = cond b (slots n) (bare_slots n)

pub data Placed (n : ℕ) (b : Bool) : ℕ → Slot → Type 0 where
  state : (q : ℕ) → q < n → Placed n b (row_place q) (slot STATE q)
  est : (q : ℕ) → q < n → Placed n b (row_place q + 1) (slot EST q)
  lis : (q : ℕ) → q < n → Placed n b (row_place q + 2) (slot LIS q)
  ahead : (q : ℕ) → q < n → Placed n b (row_place q + 3) (slot AHEAD q)
  turn : (k : ℕ) → 0 < k → k < n → Placed n b (turn_place n k) (slot TURN k)
  count : (q r : ℕ) → b ≡ true → q < n → r < n → Placed n b (pass_place n q r) (pass_slot q r)

-- what is read past the last slot
abbrev pub no_slot : Slot
no_slot = slot 0 0

-- ---- how many

pub length-row_slots : (q m : ℕ) → length (row_slots q m) ≡ 4 * m
unfolding row_slots
length-row_slots q zero = refl
length-row_slots q (suc m) = ap (λ (x : ℕ). suc (suc (suc (suc x)))) (length-row_slots (suc q) m) ∙ omega arith

pub length-turn_slots : (k m : ℕ) → length (turn_slots k m) ≡ m
unfolding turn_slots
length-turn_slots k zero = refl
length-turn_slots k (suc m) = ap suc (length-turn_slots (suc k) m)

pub length-pass_row : (q r m : ℕ) → length (pass_row q r m) ≡ m
unfolding pass_row
length-pass_row q r zero = refl
length-pass_row q r (suc m) = ap suc (length-pass_row q (suc r) m)

pub length-pass_slots : (n q m : ℕ) → length (pass_slots n q m) ≡ n * m
unfolding pass_slots
length-pass_slots n q zero = sym (mul-zero n)
length-pass_slots n q (suc m) =
    omega (
      arith,
      length-append (pass_row q 0 n) (pass_slots n (suc q) m),
      length-pass_row q 0 n,
      length-pass_slots n (suc q) m,
      mul-suc n m,
    )

pub length-bare_slots : (n : ℕ) → 0 < n → suc (length (bare_slots n)) ≡ bare_length n
unfolding bare_slots
length-bare_slots n h =
    omega (arith, length-append (row_slots 0 n) (turn_slots 1 (n - 1)), length-row_slots 0 n, length-turn_slots 1 (n - 1))

pub length-slots : (b : Bool) (n : ℕ) → 0 < n → suc (length (slots_for b n)) ≡ length_for b n
unfolding slots
length-slots false n h = length-bare_slots n h
length-slots true n h =
    omega (
      arith,
      length-append (bare_slots n) (pass_slots n 0 n),
      length-bare_slots n h,
      length-pass_slots n 0 n,
    )

-- ---- which

-- the word j of the four of process q + r
row_at : (q m r j : ℕ) → r < m → j < 4 → get_or (row_slots q m) (4 * r + j) no_slot ≡ slot (STATE + j) (q + r)
unfolding row_slots
row_at q zero r j h l = absurd (omega arith)
row_at q (suc m) zero j h l =
    ap (λ (x : ℕ). get_or (row_slots q (suc m)) x no_slot) {x = 4 * 0 + j} {y = j} (omega arith) ∙ pick j l
  where
    pick : (j : ℕ) → j < 4 → get_or (row_slots q (suc m)) j no_slot ≡ slot (STATE + j) (q + 0)
    pick zero l = ap (slot STATE) (omega arith)
    pick (suc zero) l = ap (slot EST) (omega arith)
    pick (suc (suc zero)) l = ap (slot LIS) (omega arith)
    pick (suc (suc (suc zero))) l = ap (slot AHEAD) (omega arith)
    pick (suc (suc (suc (suc j)))) l = absurd (omega arith)
row_at q (suc m) (suc r) j h l =
    ap (λ (x : ℕ). get_or (row_slots q (suc m)) x no_slot) {x = 4 * suc r + j} {y = suc (suc (suc (suc (4 * r + j))))}
    (omega arith)
    ∙ row_at (suc q) m r j (omega arith) l
    ∙ ap (slot (STATE + j)) (omega arith)

turn_at : (k m r : ℕ) → r < m → get_or (turn_slots k m) r no_slot ≡ slot TURN (k + r)
unfolding turn_slots
turn_at k zero r h = absurd (omega arith)
turn_at k (suc m) zero h = ap (slot TURN) (omega arith)
turn_at k (suc m) (suc r) h = turn_at (suc k) m r (omega arith) ∙ ap (slot TURN) (omega arith)

-- the word of the passes of process q over r + j
pub count_at : (q r m j : ℕ) → j < m → get_or (pass_row q r m) j no_slot ≡ pass_slot q (r + j)
unfolding pass_row
count_at q r zero j h = absurd (omega arith)
count_at q r (suc m) zero h = ap (pass_slot q) (omega arith)
count_at q r (suc m) (suc j) h = count_at q (suc r) m j (omega arith) ∙ ap (pass_slot q) (omega arith)

-- the word of the passes of process q + i over j
pass_at : (n q m i j : ℕ) → i < m → j < n → get_or (pass_slots n q m) (n * i + j) no_slot ≡ pass_slot (q + i) j
unfolding pass_slots
pass_at n q zero i j h l = absurd (omega arith)
pass_at n q (suc m) zero j h l =
    ap (λ (x : ℕ). get_or (pass_slots n q (suc m)) x no_slot) {x = n * 0 + j} {y = j} (omega (arith, mul-zero n))
    ∙ get_or-append (pass_row q 0 n) (pass_slots n (suc q) m) no_slot j (omega (arith, length-pass_row q 0 n))
    ∙ count_at q 0 n j l
    ∙ ap₂ pass_slot {x = q} {y = q + 0} (omega arith) (omega arith)
pass_at n q (suc m) (suc i) j h l =
    ap (λ (x : ℕ). get_or (pass_slots n q (suc m)) x no_slot) {x = n * suc i + j}
    {y = length (pass_row q 0 n) + (n * i + j)}
    (omega (arith, length-pass_row q 0 n, mul-suc n i))
    ∙ get_or-append-add (pass_row q 0 n) (pass_slots n (suc q) m) (n * i + j) no_slot
    ∙ pass_at n (suc q) m i j (omega arith) l
    ∙ ap (λ (p : ℕ). pass_slot p j) (omega arith)

-- the same by process, by turn cell, and by two processes
pub slot_of_row : (n q j : ℕ) → q < n → j < 4 → get_or (row_slots 0 n) (4 * q + j) no_slot ≡ slot (STATE + j) q
slot_of_row n q j h l = row_at 0 n q j h l ∙ ap (slot (STATE + j)) (omega arith)

pub slot_of_turn : (n k : ℕ) → 0 < k → k < n → get_or (turn_slots 1 (n - 1)) (k - 1) no_slot ≡ slot TURN k
slot_of_turn n k h l = turn_at 1 (n - 1) (k - 1) (omega arith) ∙ ap (slot TURN) (omega arith)

pub slot_of_count : (n q r : ℕ) → q < n → r < n → get_or (pass_slots n 0 n) (n * q + r) no_slot ≡ pass_slot q r
slot_of_count n q r h l = pass_at n 0 n q r h l ∙ ap (λ (p : ℕ). pass_slot p r) (omega arith)

-- n * q + r is below n * n
pub pair_low : (n q r : ℕ) → q < n → r < n → n * q + r < n * n
pair_low n q r h l =
    let up : n * suc q ≤ n * n = mul-le-mul_left n (omega arith) in
    omega (arith, up, mul-suc n q)

-- place suc j of an image is place j among its slots
pub record In (ss : List Slot) (i : ℕ) (s : Slot) : Type 0 where
  pub index : ℕ
  pub place_is : suc index ≡ i
  pub within : index < length ss
  pub slot_is : get_or ss index no_slot ≡ s

-- the slots of a bare image are the first of all
in_first : (ss us : List Slot) {i : ℕ} {s : Slot} → In ss i s → In (ss ++ us) i s
in_first ss us a =
    record {
      index = a.index;
      place_is = a.place_is;
      within = omega (arith, length-append ss us, a.within);
      slot_is = get_or-append ss us no_slot a.index a.within ∙ a.slot_is;
    }

in_bare : (b : Bool) (n : ℕ) {i : ℕ} {s : Slot} → In (bare_slots n) i s → In (slots_for b n) i s
unfolding slots
in_bare false n a = a
in_bare true n a = in_first (bare_slots n) (pass_slots n 0 n) a

at_row : (n i q j : ℕ) → q < n → j < 4 → row_place q + j ≡ i → In (bare_slots n) i (slot (STATE + j) q)
unfolding bare_slots
at_row n i q j h l e =
    in_first (row_slots 0 n) (turn_slots 1 (n - 1))
    (record {
      index = 4 * q + j;
      place_is = omega arith;
      within = omega (arith, length-row_slots 0 n);
      slot_is = slot_of_row n q j h l;
    })

at_turn : (n k : ℕ) → 0 < k → k < n → In (bare_slots n) (turn_place n k) (slot TURN k)
unfolding bare_slots
at_turn n k h l =
    record {
      index = 4 * n + (k - 1);
      place_is = omega arith;
      within =
          omega (
            arith,
            length-append (row_slots 0 n) (turn_slots 1 (n - 1)),
            length-row_slots 0 n,
            length-turn_slots 1 (n - 1),
          );
      slot_is =
          ap (λ (x : ℕ). get_or (bare_slots n) (x + (k - 1)) no_slot) (sym (length-row_slots 0 n))
          ∙ get_or-append-add (row_slots 0 n) (turn_slots 1 (n - 1)) (k - 1) no_slot
          ∙ slot_of_turn n k h l;
    }

at_count : (n q r : ℕ) → q < n → r < n → In (slots n) (pass_place n q r) (pass_slot q r)
unfolding slots
at_count n q r h l =
    let bare = length-bare_slots n (omega arith) in
    record {
      index = length (bare_slots n) + (n * q + r);
      place_is = omega (arith, bare);
      within =
          omega (
            arith,
            length-append (bare_slots n) (pass_slots n 0 n),
            length-pass_slots n 0 n,
            pair_low n q r h l,
          );
      slot_is = get_or-append-add (bare_slots n) (pass_slots n 0 n) (n * q + r) no_slot ∙ slot_of_count n q r h l;
    }

pub slot_at : (n : ℕ) (b : Bool) {i : ℕ} {s : Slot} → Placed n b i s → In (slots_for b n) i s
slot_at n b (state q h) = in_bare b n (at_row n _ q 0 h (omega arith) (omega arith))
slot_at n b (est q h) = in_bare b n (at_row n _ q 1 h (omega arith) (omega arith))
slot_at n b (lis q h) = in_bare b n (at_row n _ q 2 h (omega arith) (omega arith))
slot_at n b (ahead q h) = in_bare b n (at_row n _ q 3 h (omega arith) (omega arith))
slot_at n b (turn k h l) = in_bare b n (at_turn n k h l)
slot_at n b (count q r e h l) =
    subst (λ (c : Bool). In (slots_for c n) (pass_place n q r) (pass_slot q r)) (sym e) (at_count n q r h l)

-- ---- no others

pub record Some (n : ℕ) (b : Bool) (i : ℕ) : Type 0 where
  pub here : Slot
  pub placed : Placed n b i here

module _ (n : ℕ) (b : Bool) where
  some-row : (i q j : ℕ) → q < n → j < 4 → row_place q + j ≡ i → Some n b i
  some-row i q zero h l e =
      let at : row_place q ≡ i = omega arith in
      record { here = slot STATE q; placed = subst (λ (x : ℕ). Placed n b x (slot STATE q)) at (state q h) }
  some-row i q (suc zero) h l e =
      record { here = slot EST q; placed = subst (λ (x : ℕ). Placed n b x (slot EST q)) e (est q h) }
  some-row i q (suc (suc zero)) h l e =
      record { here = slot LIS q; placed = subst (λ (x : ℕ). Placed n b x (slot LIS q)) e (lis q h) }
  some-row i q (suc (suc (suc zero))) h l e =
      record { here = slot AHEAD q; placed = subst (λ (x : ℕ). Placed n b x (slot AHEAD q)) e (ahead q h) }
  some-row i q (suc (suc (suc (suc j)))) h l e = absurd (omega arith)

  some_bare : (j : ℕ) → suc j < bare_length n → Some n b (suc j)
  some_bare j h = go (dec_le (suc j) (4 * n))
    where
      go : Dec (suc j ≤ 4 * n) → Some n b (suc j)
      go (yes l) = some-row (suc j) (j / 4) (j % 4) (omega arith) (omega arith) (omega arith)
      go (no l) =
          let k = suc j - 4 * n in
          record {
            here = slot TURN k;
            placed = subst (λ (x : ℕ). Placed n b x (slot TURN k)) {x = turn_place n k} {y = suc j}
                (omega (arith, l))
                (turn k (omega (arith, l)) (omega (arith, l)));
          }

  some-count : (j : ℕ) → b ≡ true → bare_length n ≤ j → j < image_length n → Some n b j
  some-count j e l h =
      let i = j - bare_length n in
      let low : i < n * n = omega (arith, l, h) in
      let some : 0 < n = positive n low in
      let whole = div-add-mod i n in
      record {
        here = pass_slot (i / n) (i % n);
        placed = subst (λ (x : ℕ). Placed n b x (pass_slot (i / n) (i % n))) {x = pass_place n (i / n) (i % n)} {y = j}
            (omega (arith, whole, l))
            (count (i / n) (i % n) e ((div-lt_iff_lt-mul some).1 low) (mod-lt i some));
      }
    where
      positive : (m : ℕ) {i : ℕ} → i < m * m → 0 < m
      positive zero h = absurd (omega arith)
      positive (suc m) h = omega arith

pub placed_at : (n : ℕ) (b : Bool) (j : ℕ) → suc j < length_for b n → Some n b (suc j)
placed_at n false j h = some_bare n false j h
placed_at n true j h = go (dec_le (bare_length n) (suc j))
  where
    go : Dec (bare_length n ≤ suc j) → Some n true (suc j)
    go (yes l) = some-count n true (suc j) refl l h
    go (no l) = some_bare n true j (omega (arith, l))
