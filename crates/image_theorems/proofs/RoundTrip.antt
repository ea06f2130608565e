-- The round trip of a sound table, and of an image that is accepted, of either form.
--
--   image_for b t       ==  the image of t, bare where b is false.
--   image_accepted, image_back, bare_accepted, bare_back
--                      the image of a sound table is accepted, and the table is read from it; so is its bare image
--                      where it has no passes
--   table_sound, table_image, table_bare, table_passes
--                      the table that is read from an accepted image is sound, and has that image; without passes
--                      from a bare one
--
-- Assumes nothing.
use Prim.Native.Nat.{ℕ, zero, suc, ◌+◌, ◌<◌}
use mathlib.Core.Path.{◌≡◌, refl, sym, ap, ap₂, ◌∙◌, subst}
use mathlib.Core.Bool.{Bool, true, false}
use mathlib.Core.List.{List, [], ◌∷◌, map}
use native.Mathlib.Omega.{arith}
use lib.ListN.{length, get_or, length-map, get_or-replicate, get_or-eq_default}
use lib.Seq.{ext_get_or}
use Rattle.machine.specs.Rows.{blank, no_passes}
use Rattle.machine.specs.Tables.{Table, row, table_refusal}
use Rattle.machine.specs.Images.{Slot, bare_length, image_length, pass_place, pass_slot, size_in, count_in, count_of}
use Rattle.machine.specs.Images.{body_in}
use Rattle.machine.specs.Images.{word_in, image_of, bare_image_of, row_in, rows_in, table_in}
use Rattle.machine.specs.declared.Row.{Row}
use Rattle.machine.proofs.PassLaws.{none_sound}
use Rattle.machine.proofs.SoundRows.{SoundRow, sound_rows, rows_sound}
use Rattle.image_theorems.proofs.Packing.{word_of}
use Rattle.image_theorems.proofs.Slots.{header_for, length_for, slots_for, Placed, count, no_slot, slot_at}
use Rattle.image_theorems.proofs.Slots.{length-slots, placed_at}
use Rattle.image_theorems.proofs.WordChecks.{Passes, made_again}
use Rattle.image_theorems.proofs.Fields.{count_back, own_kept}
use Rattle.image_theorems.proofs.RowWords.{made, kept, passes_back, row_back, row-sound}
use Rattle.image_theorems.proofs.Reading.{Accepted, size_is}

-- ---- the words of an image

pub get_d_map_within : {A : Type 0} (f : A → ℕ) (l : List A) (i : ℕ) (d : A) → i < length l → get_or (map f l) i 0 ≡ f
    (get_or l i d)
get_d_map_within f [] i d h = absurd (omega arith)
get_d_map_within f (x ∷ l) zero d h = refl
get_d_map_within f (x ∷ l) (suc i) d h = get_d_map_within f l i d (omega arith)

abbrev pub image_for : Bool → Table → List ℕ
image_for b t = header_for b (length t) ∷ map (word_in t) (slots_for b (length t))

length_image_for : (b : Bool) (t : Table) → 0 < length t → length (image_for b t) ≡ length_for b (length t)
length_image_for b t h = ap suc (length-map (slots_for b (length t)) (word_in t)) ∙ length-slots b (length t) h

pub length_image : (t : Table) → 0 < length t → length (image_of t) ≡ image_length (length t)
unfolding image_of
length_image t h = length_image_for true t h

image_at : (b : Bool) (t : Table) (i : ℕ) (s : Slot) → Placed (length t) b i s
    → get_or (image_for b t) i 0 ≡ word_of s (body_in t s)
unfolding word_in
image_at b t i s p =
    let a = slot_at (length t) b p in
    ap (λ (x : ℕ). get_or (image_for b t) x 0) (sym a.place_is)
    ∙ get_d_map_within (word_in t) (slots_for b (length t)) a.index no_slot a.within
    ∙ ap (word_in t) a.slot_is

-- the counts of a bare image are not there, and read as 0
pub bare_count : (ws : List ℕ) (n q r : ℕ) → length ws ≡ bare_length n → count_in (get_or ws (pass_place n q r) 0) ≡ 0
bare_count ws n q r long = ap count_in (get_or-eq_default ws 0 (omega (arith, long)))

-- ---- the rows of a table that is read

pub length-rows_in : (n : ℕ) (ws : List ℕ) (q m : ℕ) → length (rows_in n ws q m) ≡ m
unfolding rows_in
length-rows_in n ws q zero = refl
length-rows_in n ws q (suc m) = ap suc (length-rows_in n ws (suc q) m)

pub row-rows_in : (n : ℕ) (ws : List ℕ) (q m r : ℕ) → r < m → row (rows_in n ws q m) r ≡ row_in n ws (q + r)
unfolding rows_in
row-rows_in n ws q zero r h = absurd (omega arith)
row-rows_in n ws q (suc m) zero h = ap (row_in n ws) {x = q} {y = q + 0} (omega arith)
row-rows_in n ws q (suc m) (suc r) h =
    row-rows_in n ws (suc q) m r (omega arith) ∙ ap (row_in n ws) {x = suc q + r} {y = q + suc r} (omega arith)

module _ (ws : List ℕ) (n : ℕ) (size : size_in (get_or ws 0 0) ≡ n) where
  pub length-table_in : length (table_in ws) ≡ n
  unfolding table_in
  length-table_in = length-rows_in (size_in (get_or ws 0 0)) ws 0 (size_in (get_or ws 0 0)) ∙ size

  pub row-table_in : (q : ℕ) → q < n → row (table_in ws) q ≡ row_in n ws q
  unfolding table_in
  row-table_in q h =
      row-rows_in (size_in (get_or ws 0 0)) ws 0 (size_in (get_or ws 0 0)) q (omega arith)
      ∙ ap₂ (λ (m r : ℕ). row_in m ws r) size (omega arith)

-- ---- a sound table

module _ (b : Bool) (t : Table) (ok : table_refusal t ≡ 0) where
  image_fits : Accepted (image_for b t) (length t) b
  image_fits =
      let s = sound_rows t ok in
      record {
        header = record { header_is = refl; some = s.0; few = s.1 };
        length_is = length_image_for b t (omega (arith, s.0));
        passed = λ i x p.
            subst (Passes (length t) x) (sym (image_at b t i x p)) (made (length t) t b s.1 s.2 p);
      }

  -- the table is read again where its counts are
  image_read : ((q r : ℕ) → q < length t → r < length t
      → count_in (get_or (image_for b t) (pass_place (length t) q r) 0) ≡ count_of t q r) → table_in (image_for b t) ≡ t
  image_read counted =
      let s = sound_rows t ok in
      let n = length t in
      let ws = image_for b t in
      let size = size_is ws n b image_fits in
      ext_get_or blank (table_in ws) t (length-table_in ws n size)
      (λ q h.
      let l : q < n = omega (arith, length-table_in ws n size) in
      row-table_in ws n size q l
      ∙ row_back n b ws q l s.1 t (s.2 q l) (image_at b t) (λ r k. counted q r l k))

module _ (t : Table) (ok : table_refusal t ≡ 0) where
  pub image_accepted : Accepted (image_of t) (length t) true
  unfolding image_of
  image_accepted = image_fits true t ok

  pub image_back : table_in (image_of t) ≡ t
  unfolding image_of
  image_back =
      image_read true t ok
      (λ q r h l.
      let low = ((sound_rows t ok).2 q h).passes_fit.low r in
      ap count_in (image_at true t (pass_place (length t) q r) (pass_slot q r) (count q r refl h l))
      ∙ count_back q r (count_of t q r) (omega (arith, low)))

  pub bare_accepted : Accepted (bare_image_of t) (length t) false
  unfolding bare_image_of
  bare_accepted = image_fits false t ok

  -- a bare image has no counts
  pub bare_back : ((q : ℕ) → q < length t → (row t q).passes ≡ no_passes) → table_in (bare_image_of t) ≡ t
  unfolding bare_image_of
  bare_back none =
      let s = sound_rows t ok in
      image_read false t ok
      (λ q r h l.
      bare_count (image_for false t) (length t) q r (length_image_for false t (omega (arith, s.0)))
      ∙ sym (ap (λ (c : List ℕ). get_or c r 0) (none q h) ∙ get_or-replicate 16 r 0 0 (omega (arith, s.1, l))))

-- ---- an accepted image

-- the count of a process over itself
own_none : (ws : List ℕ) (n : ℕ) (b : Bool) → Accepted ws n b → (q : ℕ) → q < n
    → count_in (get_or ws (pass_place n q q) 0) ≡ 0
own_none ws n true a q h =
    own_kept n q (get_or ws (pass_place n q q) 0) (a.passed (pass_place n q q) (pass_slot q q) (count q q refl h h))
own_none ws n false a q h = bare_count ws n q q a.length_is

module _ (ws : List ℕ) (n : ℕ) (b : Bool) (a : Accepted ws n b) where
  pub table_sound : table_refusal (table_in ws) ≡ 0
  table_sound =
      let size = size_is ws n b a in
      let long = length-table_in ws n size in
      rows_sound (table_in ws) (omega (arith, a.header.some)) (omega (arith, a.header.few))
      (λ q h.
      let l : q < n = omega arith in
      subst (λ (m : ℕ). SoundRow m q (row (table_in ws) q)) (sym long)
      (subst (SoundRow n q) (sym (row-table_in ws n size q l))
      (row-sound n b ws q l a.header.few a.passed (own_none ws n b a q l))))

  -- the word at each place is made again
  word_again : (i : ℕ) → i < length_for b n → get_or (image_for b (table_in ws)) i 0 ≡ get_or ws i 0
  word_again zero h = ap (header_for b) (length-table_in ws n (size_is ws n b a)) ∙ sym a.header.header_is
  word_again (suc j) h =
      let size = size_is ws n b a in
      let x = placed_at n b j h in
      let s = x.here in
      let p = a.passed (suc j) s x.placed in
      image_at b (table_in ws) (suc j) s
      (subst (λ (m : ℕ). Placed m b (suc j) s) (sym (length-table_in ws n size)) x.placed)
      ∙ made_again n s (get_or ws (suc j) 0) (body_in (table_in ws) s) p
      (kept n ws (table_in ws) b a.header.few (row-table_in ws n size) x.placed p)

  image_again : image_for b (table_in ws) ≡ ws
  image_again =
      let long = length-table_in ws n (size_is ws n b a) in
      let whole : length (image_for b (table_in ws)) ≡ length_for b n =
      length_image_for b (table_in ws) (omega (arith, a.header.some)) ∙ ap (length_for b) long in
      ext_get_or 0 (image_for b (table_in ws)) ws (whole ∙ sym a.length_is)
      (λ i h. word_again i (subst (λ (m : ℕ). i < m) whole h))

pub table_image : (ws : List ℕ) (n : ℕ) → Accepted ws n true → image_of (table_in ws) ≡ ws
unfolding image_of
table_image ws n a = image_again ws n true a

module _ (ws : List ℕ) (n : ℕ) (a : Accepted ws n false) where
  pub table_bare : bare_image_of (table_in ws) ≡ ws
  unfolding bare_image_of
  table_bare = image_again ws n false a

  pub table_passes : (q : ℕ) → q < length (table_in ws) → (row (table_in ws) q).passes ≡ no_passes
  table_passes q h =
      let size = size_is ws n false a in
      let l : q < n = omega (arith, length-table_in ws n size) in
      ap (λ (r : Row). r.passes) (row-table_in ws n size q l)
      ∙ passes_back n ws q no_passes (none_sound n q) a.header.few
      (λ i k.
      bare_count ws n q i a.length_is ∙ sym (get_or-replicate 16 i 0 0 (omega (arith, a.header.few))))
