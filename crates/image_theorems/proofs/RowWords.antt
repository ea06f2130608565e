-- The words of a row, both ways.
--
--   made       the word of a sound table passes its slot's check
--   kept       a word that passes is made again of the table that is read
--   row_back   the row whose words an image has is read from it
--   row-sound  the row that is read is sound where its words pass
--
-- Assumes nothing.
use Prim.Native.Nat.{ℕ, ◌+◌, ◌%◌, ◌^◌, ◌≤◌, ◌<◌}
use mathlib.Core.Path.{◌≡◌, refl, sym, ap, ◌∙◌}
use mathlib.Core.Bool.{Bool, cond}
use mathlib.Core.List.{List}
use native.Mathlib.Decide.{dec_lt}
use native.Mathlib.Omega.{arith}
use lib.Dec.{eqb, ltb}
use lib.ListN.{get_or, get_or-eq_default}
use borrow.Author.Tests.{eqb-true, eqb-false, ne_eqb, lt-ltb, le-ltb}
use Rattle.machine.specs.Images.{
  Slot,
  slot,
  STATE,
  EST,
  LIS,
  AHEAD,
  TURN,
  code_of,
  code_in,
  act_in,
  bb_in,
  level_in,
  location_in,
  set_in,
  turn_in,
  count_in,
  count_of,
  body_of,
  body_in,
  passes_in,
  row_in,
  row_place,
  turn_place,
  pass_place,
}
use Rattle.machine.specs.Tables.{Table, row, locations, level_fits}
use Rattle.machine.specs.declared.Row.{Row}
use Rattle.counting.proofs.TestLaws.{split}
use Rattle.counting.proofs.RangeLaws.{up_to_cong, up_to_length, up_to_at, up_to_all}
use Rattle.machine.proofs.LevelLaws.{fits_true, fits_some, fits_none}
use Rattle.machine.proofs.PassLaws.{SoundPasses}
use Rattle.machine.proofs.SoundRows.{SoundRow}
use Rattle.image_theorems.proofs.Packing.{word_of}
use Rattle.image_theorems.proofs.Locations.{at_place, place_below, known_at}
use Rattle.image_theorems.proofs.WordChecks.{Passes}
use Rattle.image_theorems.proofs.Slots.{Placed, state, est, lis, ahead, turn, count}
use Rattle.image_theorems.proofs.Fields.{state_fields, state_passes, state_kept, est_set, lis_set, ahead_set}
use Rattle.image_theorems.proofs.Fields.{set_low, set_back, set_passes, set_kept}
use Rattle.image_theorems.proofs.Fields.{turn_back, turn_passes, turn_kept, count_passes}

-- ---- the passes that are read

module _ (n : ℕ) (ws : List ℕ) (q : ℕ) where
  -- the count over i that an image's words hold
  abbrev pub count_at : ℕ → ℕ
  count_at i = count_in (get_or ws (pass_place n q i) 0)

  abbrev pub readAt : ℕ → ℕ
  readAt i = cond (ltb i n) (count_at i) 0

  pub read_at : n ≤ 16 → (i : ℕ) → i < n → get_or (passes_in n ws q) i 0 ≡ count_at i
  read_at few i h =
      up_to_at readAt 16 i (omega arith) ∙ ap (λ (b : Bool). cond b (count_at i) 0) (lt-ltb i n h)

  pub read_past : (i : ℕ) → n ≤ i → get_or (passes_in n ws q) i 0 ≡ 0
  read_past i h = go (dec_lt i 16)
    where
      go : Dec (i < 16) → get_or (passes_in n ws q) i 0 ≡ 0
      go (yes l) = up_to_at readAt 16 i l ∙ ap (λ (b : Bool). cond b (count_at i) 0) (le-ltb i n h)
      go (no l) = get_or-eq_default (passes_in n ws q) 0 (omega (arith, up_to_length readAt 16, l))

  -- counts in range are read from the words that hold them
  pub passes_back : (l : List ℕ) → SoundPasses n q l → n ≤ 16 → ((i : ℕ) → i < n → count_at i ≡ get_or l i 0)
      → passes_in n ws q ≡ l
  passes_back l s few has = up_to_cong readAt (λ i. get_or l i 0) 16 (λ i k. go i (dec_lt i n)) ∙ up_to_all l 16 s.sixteen
    where
      go : (i : ℕ) → Dec (i < n) → readAt i ≡ get_or l i 0
      go i (yes h) = ap (λ (b : Bool). cond b (count_at i) 0) (lt-ltb i n h) ∙ has i h
      go i (no h) =
          let over : n ≤ i = omega (arith, h) in
          ap (λ (b : Bool). cond b (count_at i) 0) (le-ltb i n over) ∙ sym (s.rest_none i over)

  -- the counts that are read are in range where that of q over itself is 0
  passes_sound : n ≤ 16 → q < n → count_at q ≡ 0 → SoundPasses n q (passes_in n ws q)
  passes_sound few h own =
      record {
        sixteen = up_to_length readAt 16;
        low = λ i. low i (dec_lt i n);
        own_none = read_at few q h ∙ own;
        rest_none = read_past;
      }
    where
      low : (i : ℕ) → Dec (i < n) → get_or (passes_in n ws q) i 0 ≤ 65535
      low i (yes l) = omega (arith, read_at few i l)
      low i (no l) = omega (arith, read_past i (omega (arith, l)))

-- ---- every kind

-- the word of a sound table passes where it stands
pub made : (n : ℕ) (t : Table) (b : Bool) → n ≤ 16 → ((q : ℕ) → q < n → SoundRow n q (row t q))
    → {i : ℕ} {s : Slot} → Placed n b i s → Passes n s (word_of s (body_in t s))
unfolding body_of
made n t b few rows (state q h) =
    let r = row t q in
    let s = rows q h in
    state_passes n q (code_of r.location) r.act r.bb r.level
    (place_below r.location locations s.location_known) s.act_low
    s.bb_low s.level_low few h
    (ap (λ (l : ℕ). level_fits l r.level) (at_place r.location locations s.location_known)
    ∙ fits_true r.location r.level s.level_some s.level_none)
made n t b few rows (est q h) = set_passes n EST q (row t q).est est_set (rows q h).est_low few h
made n t b few rows (lis q h) = set_passes n LIS q (row t q).lis lis_set (rows q h).lis_low few h
made n t b few rows (ahead q h) = set_passes n AHEAD q (row t q).ahead ahead_set (rows q h).ahead_low few h
made n t b few rows (turn q g h) = turn_passes n q (row t q).turn (rows q h).turn_low few h
made n t b few rows (count q r e h l) =
    let s = (rows q h).passes_fit in
    count_passes n q r (count_of t q r) (omega (arith, s.low r))
    (λ (is : q ≡ r). ap (λ (j : ℕ). get_or (row t q).passes j 0) (sym is) ∙ s.own_none) few h l

-- a word that passes has the lower half of the table that is read
pub kept : (n : ℕ) (ws : List ℕ) (t : Table) (b : Bool) → n ≤ 16 → ((q : ℕ) → q < n → row t q ≡ row_in n ws q)
    → {i : ℕ} {s : Slot} → Placed n b i s → Passes n s (get_or ws i 0) → body_in t s ≡ get_or ws i 0 % 2 ^ 16
unfolding body_of
kept n ws t b few is (state q h) p = ap (body_of STATE) (is q h) ∙ (state_kept n q (get_or ws (row_place q) 0) p).body_is
kept n ws t b few is (est q h) p = ap (body_of EST) (is q h)
kept n ws t b few is (lis q h) p = ap (body_of LIS) (is q h)
kept n ws t b few is (ahead q h) p = ap (body_of AHEAD) (is q h)
kept n ws t b few is (turn q g h) p =
    ap (body_of TURN) (is q h)
    ∙ ap (λ (z : Bool). cond z 0 (turn_in (get_or ws (turn_place n q) 0))) (ne_eqb q 0 (λ e. omega arith))
    ∙ (turn_kept n q (get_or ws (turn_place n q) 0) p).1
kept n ws t b few is (count q r e h l) p =
    ap (λ (x : Row). get_or x.passes r 0) (is q h) ∙ read_at n ws q few r l

module _ (n : ℕ) (b : Bool) (ws : List ℕ) (q : ℕ) (l : q < n) (few : n ≤ 16) where
  -- the cell of turn[q] is 0 for q = 0, which no word holds, or what its word holds
  turn_cases : (P : ℕ → Type 0)
      → (q ≡ 0 → P 0)
      → (0 < q → P (turn_in (get_or ws (turn_place n q) 0)))
      → P (row_in n ws q).turn
  turn_cases P f g =
      split (λ b. P (cond b 0 (turn_in (get_or ws (turn_place n q) 0)))) (eqb q 0) (λ e. f (eqb-true q 0 e))
      (λ e. g (omega (arith, eqb-false q 0 e)))

  -- a set whose word an image has
  set-cell : (k i v : ℕ) → v < 2 ^ n → get_or ws i 0 ≡ word_of (slot k q) v → set_in (get_or ws i 0) ≡ v
  set-cell k i v low e = ap set_in e ∙ set_back k q v (set_low few low)

  -- a row whose words and counts an image has is read from it
  pub row_back : (t : Table)
      → SoundRow n q (row t q)
      → ((i : ℕ) (s : Slot) → Placed n b i s → get_or ws i 0 ≡ word_of s (body_in t s))
      → ((r : ℕ) → r < n → count_at n ws q r ≡ count_of t q r)
      → row_in n ws q ≡ row t q
  unfolding body_of
  row_back t s has counted =
      let r = row t q in
      let e = has (row_place q) (slot STATE q) (state q l) in
      let known = s.location_known in
      let f =
      state_fields q (code_of r.location) r.act r.bb r.level (place_below r.location locations known)
      s.act_low s.bb_low (omega (arith, s.level_low)) in
      let location-is = ap location_in e ∙ ap (λ (c : ℕ). get_or locations c 0) f.code_is ∙ at_place
      r.location locations known in
      let est-has = has (row_place q + 1) (slot EST q) (est q l) in
      let lis-has = has (row_place q + 2) (slot LIS q) (lis q l) in
      let ahead-has = has (row_place q + 3) (slot AHEAD q) (ahead q l) in
      let turn_is =
      turn_cases (λ v. v ≡ r.turn) (λ z. sym (s.turn_none z))
      (λ g. ap turn_in (has (turn_place n q) (slot TURN q) (turn q g l))
      ∙ turn_back q r.turn (omega (arith, s.turn_low))) in
      λ x.
      record {
        location = location-is x;
        act = (ap act_in e ∙ f.act_is) x;
        bb = (ap bb_in e ∙ f.bb_is) x;
        level = (ap level_in e ∙ f.level_is) x;
        est = set-cell EST (row_place q + 1) r.est s.est_low est-has x;
        lis = set-cell LIS (row_place q + 2) r.lis s.lis_low lis-has x;
        ahead = set-cell AHEAD (row_place q + 3) r.ahead s.ahead_low ahead-has x;
        turn = turn_is x;
        passes = passes_back n ws q r.passes s.passes_fit few counted x;
      }

  -- a row is sound where its words pass, and its count over itself is 0
  pub row-sound : ((i : ℕ) (s : Slot) → Placed n b i s → Passes n s (get_or ws i 0))
      → count_at n ws q q ≡ 0
      → SoundRow n q (row_in n ws q)
  row-sound passed own =
      let f = state_kept n q (get_or ws (row_place q) 0) (passed (row_place q) (slot STATE q) (state q l)) in
      record {
        location_known = known_at locations (code_in (get_or ws (row_place q) 0)) f.code_low;
        act_low = omega arith;
        bb_low = omega arith;
        level_low = f.level_low;
        est_low =
            set_kept n EST q (get_or ws (row_place q + 1) 0) est_set (passed (row_place q + 1) (slot EST q) (est q l));
        lis_low =
            set_kept n LIS q (get_or ws (row_place q + 2) 0) lis_set (passed (row_place q + 2) (slot LIS q) (lis q l));
        ahead_low =
            set_kept n AHEAD q (get_or ws (row_place q + 3) 0) ahead_set
            (passed (row_place q + 3) (slot AHEAD q) (ahead q l));
        turn_low =
            turn_cases (λ v. v < n) (λ z. omega arith)
            (λ g. (turn_kept n q (get_or ws (turn_place n q) 0) (passed (turn_place n q) (slot TURN q) (turn q g l))).0);
        turn_none = λ z. turn_cases (λ v. v ≡ 0) (λ e. refl) (λ g. absurd (omega arith));
        level_some = fits_some _ _ f.fits;
        level_none = fits_none _ _ f.fits;
        passes_fit = passes_sound n ws q few l own;
      }
