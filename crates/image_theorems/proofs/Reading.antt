-- Reading: an image is accepted just where its header and length are right and each word passes where it stands.
--
--   Accepted ws n b  <=>  the facts of an accepted image of n processes, which is bare where b is false.
--   accepted_facts, facts_accepted    just where there is no refusal
--
-- The slots are gone through once, for all kinds. Assumes nothing.
use Prim.Native.Nat.{ℕ, zero, suc, ◌+◌, ◌≤◌, ◌<◌, min}
use mathlib.Core.Path.{◌≡◌, refl, sym, ap, ap₂, ◌∙◌}
use mathlib.Core.Bool.{Bool, true, false}
use mathlib.Core.List.{List, [], ◌∷◌, ◌++◌}
use native.Mathlib.Decide.{ℕ_discrete}
use native.Mathlib.Omega.{arith}
use lib.Dec.{eqb}
use lib.ListN.{length, get_or, drop, length-drop}
use lib.Seq.{get_or-drop}
use borrow.Author.Tests.{eqb-true, eq-eqb, ne_eqb}
use Rattle.machine.specs.Images.{
  Slot,
  slots_in,
  says_passes,
  size_in,
  length_in,
  is_header,
  slot_refusal,
  first_refusal,
  image_refusal,
  table_in,
  read_image,
}
use Rattle.machine.specs.Tables.{handed}
use Rattle.machine.specs.Images.{Found}
use Rattle.machine.specs.Tables.{Handed}
use Rattle.image_theorems.proofs.Slots.{length_for, slots_for, Placed, no_slot, slot_at}
use Rattle.image_theorems.proofs.Slots.{length-slots, placed_at}
use Rattle.image_theorems.proofs.Headers.{Header, header_facts, header_known}
use Rattle.image_theorems.proofs.WordChecks.{Passes, passes, refused_none}

-- ---- one word after the other

-- no refusal, and no place
abbrev pub none : Found
none = record { refusal = 0; place = 0 }

module _ (n i : ℕ) (s : Slot) (ss : List Slot) (w : ℕ) (ws : List ℕ) where
  -- the first word passes where there is no refusal
  pub first_zero : (first_refusal n i (s ∷ ss) (w ∷ ws)).refusal ≡ 0 → slot_refusal n s w ≡ 0
  unfolding first_refusal
  first_zero = go (eqb (slot_refusal n s w) 0) refl
    where
      go : (b : Bool) → eqb (slot_refusal n s w) 0 ≡ b
          → (elim b as (λ _. Found) [
            | true ↦ first_refusal n
                (suc i) ss ws
            | false ↦ record { refusal = slot_refusal n s w; place = i }
          ]).refusal ≡ 0
          → slot_refusal n s w ≡ 0
      go true e h = eqb-true _ _ e
      go false e h = h

  pub first_next : slot_refusal n s w ≡ 0 → first_refusal n i (s ∷ ss) (w ∷ ws) ≡ first_refusal n (suc i) ss ws
  unfolding first_refusal
  first_next z =
      ap (λ (b : Bool). elim b as (λ _. Found) [
        | true ↦ first_refusal n
            (suc i) ss ws
        | false ↦ record { refusal = slot_refusal n s w; place = i }
      ])
      (eq-eqb _ _ z)

  pub first_stop : (slot_refusal n s w ≡ 0 → ⊥) → first_refusal n i (s ∷ ss) (w ∷ ws)
      ≡ record { refusal = slot_refusal n s w; place = i }
  unfolding first_refusal
  first_stop ne =
      ap
      (λ (b : Bool). elim b as (λ _. Found) [
        | true ↦ first_refusal n (suc i) ss ws
        | false ↦ record { refusal = slot_refusal n s w; place = i }
      ])
      (ne_eqb _ _ ne)

-- the first slots of several: they decide where they have a refusal, and what follows them where they have none
pub first_some : (n i : ℕ) (ss us : List Slot) (ws : List ℕ)
    → ((first_refusal n i ss ws).refusal ≡ 0 → ⊥)
    → first_refusal n i (ss ++ us) ws ≡ first_refusal n i ss ws
unfolding first_refusal
first_some n i [] us ws ne = absurd (ne refl)
first_some n i (s ∷ ss) us [] ne = absurd (ne refl)
first_some n i (s ∷ ss) us (w ∷ ws) ne =
    let next = first_next n i s ss w ws in
    let nexts = first_next n i s (ss ++ us) w ws in
    let go : Dec (slot_refusal n s w ≡ 0) → first_refusal n i (s ∷ (ss ++ us)) (w ∷ ws) ≡ first_refusal n i (s ∷ ss)
    (w ∷ ws) =
    elim [
      | yes z ↦ nexts z ∙ first_some n (suc i) ss us ws (λ e. ne (ap (λ (f : Found). f.refusal) (next z) ∙ e)) ∙ sym
          (next z)
      | no z ↦ first_stop n i s (ss ++ us) w ws z ∙ sym (first_stop n i s ss w ws z)
    ] in
    go (ℕ_discrete (slot_refusal n s w) 0)

pub first_none : (n i : ℕ) (ss us : List Slot) (ws : List ℕ)
    → length ss ≤ length ws
    → (first_refusal n i ss ws).refusal ≡ 0
    → first_refusal n i (ss ++ us) ws ≡ first_refusal n (i + length ss) us (drop (length ss) ws)
first_none n i [] us ws l z = ap (λ (x : ℕ). first_refusal n x us ws) (omega arith)
first_none n i (s ∷ ss) us [] l z = absurd (omega arith)
first_none n i (s ∷ ss) us (w ∷ ws) l z =
    let here = first_zero n i s ss w ws z in
    first_next n i s (ss ++ us) w ws here
    ∙ first_none n (suc i) ss us ws (omega arith) (sym
    (ap (λ (f : Found). f.refusal) (first_next n i s ss w ws here)) ∙ z)
    ∙ ap (λ (x : ℕ). first_refusal n x us (drop (length ss) ws)) {x = suc i + length ss} {y = i + suc (length ss)}
    (omega arith)

-- no slot refuses just where each word passes at its own
pub each_passes_lem : (n i : ℕ) (ss : List Slot) (ws : List ℕ) → length ss ≤ length ws
    → (first_refusal n i ss ws).refusal ≡ 0
    → (j : ℕ) → j < length ss → slot_refusal n (get_or ss j no_slot) (get_or ws j 0) ≡ 0
each_passes_lem n i [] ws e h j l = absurd (omega arith)
each_passes_lem n i (s ∷ ss) [] e h j l = absurd (omega arith)
each_passes_lem n i (s ∷ ss) (w ∷ ws) e h zero l = first_zero n i s ss w ws h
each_passes_lem n i (s ∷ ss) (w ∷ ws) e h (suc j) l =
    each_passes_lem n (suc i) ss ws (omega arith)
    (sym (ap (λ (f : Found). f.refusal) (first_next n i s ss w ws (first_zero n i s ss w ws h))) ∙ h) j (omega arith)

pub none_refused : (n i : ℕ) (ss : List Slot) (ws : List ℕ) → length ss ≤ length ws
    → ((j : ℕ) → j < length ss → slot_refusal n (get_or ss j no_slot) (get_or ws j 0) ≡ 0)
    → first_refusal n i ss ws ≡ none
unfolding first_refusal
none_refused n i [] ws e f = refl
none_refused n i (s ∷ ss) [] e f = refl
none_refused n i (s ∷ ss) (w ∷ ws) e f =
    first_next n i s ss w ws (f 0 (omega arith)) ∙ none_refused n (suc i) ss ws (omega arith)
    (λ j l. f (suc j) (omega arith))

-- ---- an image

pub record Accepted (ws : List ℕ) (n : ℕ) (b : Bool) : Type 0 where
  pub header : Header b n (get_or ws 0 0)
  pub length_is : length ws ≡ length_for b n
  pub passed : (i : ℕ) (s : Slot) → Placed n b i s → Passes n s (get_or ws i 0)

-- the order of the checks: header, length, words
abbrev pub checked : Bool → Bool → ℕ → Found → Found
checked a b p x =
    elim a as (λ _. Found) [
      | false ↦ record { refusal = 1; place = 0 }
      | true ↦ elim b as (λ _. Found) [ false ↦ record { refusal = 2; place = p } | true ↦ x ]
    ]

checked_zero : (a b : Bool) (p : ℕ) (x : Found) → (checked a b p x).refusal ≡ 0 → (a ≡ true) × (b ≡ true) ×
    (x.refusal ≡ 0)
checked_zero true true p x h = (refl, refl, h)
checked_zero true false p x h = absurd (omega arith)
checked_zero false b p x h = absurd (omega arith)

-- the words of an image, by n and by whether passes follow
module _ (ws : List ℕ) (n : ℕ) (b : Bool) (long : length ws ≡ length_for b n) (some : 0 < n) where
  -- a word past the header for each slot
  enough : length (slots_for b n) ≤ length (drop 1 ws)
  enough = omega (arith, length-drop 1 ws, length-slots b n some, long)

  each_passed : (first_refusal n 1 (slots_for b n) (drop 1 ws)).refusal ≡ 0
      → (i : ℕ) (s : Slot) → Placed n b i s → Passes n s (get_or ws i 0)
  each_passed z i s p =
      let a = slot_at n b p in
      let e : get_or (drop 1 ws) a.index 0 ≡ get_or ws i 0 =
      get_or-drop 1 ws a.index 0 ∙ ap (λ (x : ℕ). get_or ws x 0) {x = 1 + a.index} {y = i}
      (omega (arith, a.place_is)) in
      passes n s (get_or ws i 0)
      (ap₂ (λ (x : Slot) (w : ℕ). slot_refusal n x w) (sym a.slot_is) (sym e)
      ∙ each_passes_lem n 1 (slots_for b n) (drop 1 ws) enough z a.index a.within)

  passed_none : ((i : ℕ) (s : Slot) → Placed n b i s → Passes n s (get_or ws i 0))
      → first_refusal n 1 (slots_for b n) (drop 1 ws) ≡ none
  passed_none passed =
      none_refused n 1 (slots_for b n) (drop 1 ws) enough
      (λ j l.
      let p = placed_at n b j (omega (arith, length-slots b n some, l)) in
      let a = slot_at n b p.placed in
      let e : get_or (drop 1 ws) j 0 ≡ get_or ws (suc j) 0 =
      get_or-drop 1 ws j 0 ∙ ap (λ (x : ℕ). get_or ws x 0) {x = 1 + j} {y = suc j} (omega arith) in
      let same : get_or (slots_for b n) j no_slot ≡ p.here =
      ap (λ (x : ℕ). get_or (slots_for b n) x no_slot) {x = j} {y = a.index} (omega (arith, a.place_is))
      ∙ a.slot_is in
      ap₂ (λ (x : Slot) (w : ℕ). slot_refusal n x w) same e
      ∙ refused_none n p.here (get_or ws (suc j) 0) (passed (suc j) p.here p.placed))

module _ (ws : List ℕ) where
  abbrev head : ℕ
  head = get_or ws 0 0

  -- the refusal by the tests of header and length
  byChecks : Bool → Bool → Found
  byChecks a b =
      checked a b (min (length ws) (length_in head)) (first_refusal (size_in head) 1 (slots_in head) (drop 1 ws))

  by-checks : image_refusal ws ≡ byChecks (is_header head) (eqb (length ws) (length_in head))
  unfolding image_refusal byChecks
  by-checks = refl

  -- ---- the refusals by their tests

  pub refused_header : is_header head ≡ false → image_refusal ws ≡ record { refusal = 1; place = 0 }
  unfolding byChecks
  refused_header e = by-checks ∙ ap (λ (a : Bool). byChecks a (eqb (length ws) (length_in head))) e

  pub refused_length : is_header head ≡ true
      → (length ws ≡ length_in head → ⊥)
      → image_refusal ws ≡ record { refusal = 2; place = min (length ws) (length_in head) }
  unfolding byChecks
  refused_length e ne = by-checks ∙ ap₂ byChecks e (ne_eqb _ _ ne)

  pub refused_words : is_header head ≡ true
      → length ws ≡ length_in head
      → image_refusal ws ≡ first_refusal (size_in head) 1 (slots_in head) (drop 1 ws)
  unfolding byChecks
  refused_words e l = by-checks ∙ ap₂ byChecks e (eq-eqb _ _ l)

  -- ---- no refusal

  pub accepted_facts : (image_refusal ws).refusal ≡ 0 → Accepted ws (size_in head) (says_passes head)
  unfolding image_refusal
  accepted_facts z =
      let h = checked_zero (is_header head) (eqb (length ws) (length_in head)) (min (length ws) (length_in head))
      (first_refusal (size_in head) 1 (slots_in head) (drop 1 ws)) z in
      let header = header_facts head h.0 in
      let long : length ws ≡ length_in head = eqb-true _ _ h.1 in
      record {
        header = header;
        length_is = long;
        passed = each_passed ws (size_in head) (says_passes head) long (omega (arith, header.some)) h.2;
      }

  pub facts_accepted : (n : ℕ) (b : Bool) → Accepted ws n b → image_refusal ws ≡ none
  facts_accepted n b a =
      let known = header_known head b n a.header in
      let says = known.1 in
      let size = known.2 in
      refused_words known.0 (a.length_is ∙ sym (ap₂ length_for says size))
      ∙ ap₂ (λ (c : Bool) (m : ℕ). first_refusal m 1 (slots_for c m) (drop 1 ws)) says size
      ∙ passed_none ws n b a.length_is (omega (arith, a.header.some)) a.passed

  pub size_is : (n : ℕ) (b : Bool) → Accepted ws n b → size_in head ≡ n
  size_is n b a = (header_known head b n a.header).2

-- ---- what reading hands back

module _ (ws : List ℕ) where
  -- by the first refusal
  abbrev answered : Bool → Handed
  answered b =
      elim b as (λ _. Handed) [
        | true ↦ handed 0 0 (table_in ws)
        | false ↦ handed (image_refusal ws).refusal (image_refusal ws).place []
      ]

  pub read_refusal : (read_image ws).refusal ≡ (image_refusal ws).refusal
  unfolding read_image
  read_refusal = go (eqb (image_refusal ws).refusal 0) refl
    where
      go : (b : Bool) → eqb (image_refusal ws).refusal 0 ≡ b → (answered b).refusal ≡ (image_refusal ws).refusal
      go true e = sym (eqb-true _ _ e)
      go false e = refl

  pub read_accepted : (image_refusal ws).refusal ≡ 0 → read_image ws ≡ handed 0 0 (table_in ws)
  unfolding read_image
  read_accepted z = ap answered (eq-eqb _ _ z)

  pub read_refused : ((image_refusal ws).refusal ≡ 0 → ⊥)
      → read_image ws ≡ handed (image_refusal ws).refusal (image_refusal ws).place []
  unfolding read_image
  read_refused ne = ap answered (ne_eqb _ _ ne)
