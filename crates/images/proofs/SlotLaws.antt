-- The check of a word where it stands, as the code makes it: the upper half at once, then the fields.
--
--   upper_half                         kind, passer and number are one comparison
--   state_slot, set-slot, turn_slot, count-slot    the refusal of a word of each kind
--   none_found, stop_at, pass_at, last_at    the first refusal of several words, by what was found of the first of them
--
-- Assumes nothing.
use Prim.Native.Nat.{ℕ, suc, ◌+◌, ◌*◌, ◌/◌, ◌%◌, ◌^◌, ◌≤◌, ◌<◌}
use mathlib.Core.Path.{◌≡◌, refl, sym, ap, ◌∙◌}
use mathlib.Core.Bool.{Bool, true, false, cond, ◌&&◌, ◌||◌, not, and-eq-true_iff, false≢true}
use mathlib.Core.List.{List, [], ◌∷◌}
use native.Mathlib.Omega.{arith}
use lib.Dec.{eqb, leb, ltb, leb-suc-suc}
use lib.Bits.{bit_or, or_add_and, and_le_l, and_le_r}
use borrow.Author.Tests.{eqb-true, eqb-false, eq-eqb, ne_eqb, leb-true, le-leb}
use Rattle.counting.proofs.TestLaws.{same_test}
use Rattle.machine.specs.Images.{
  Slot,
  slot,
  pass_slot,
  STATE,
  EST,
  LIS,
  AHEAD,
  TURN,
  PASSES,
  code_in,
  level_in,
  location_in,
  spare_body,
  in_range,
  off_diagonal,
  Found,
  found_in,
  slot_refusal,
  first_refusal,
}
use Rattle.machine.specs.Tables.{level_fits}
use Rattle.machine.specs.declared.ImageError.{ImageError}
use Rattle.tables.proofs.RefusalLaws.{number_some}
use Rattle.image_theorems.proofs.Reading.{first_next, first_stop}
use Rattle.std.specs.Prelude.{Result, Ok, Err, IsErr}
use Rattle.images.specs.Inner.{SetKind, SetsFit, found_at}

-- ---- the upper half

module _ (s : Slot) (w u : ℕ) (first : s.passer < 16) (second : s.number < 16)
    (is : u ≡ s.kind * 4096 + s.passer * 256 + s.number) where
  abbrev is_kind : Bool
  is_kind = eqb (w / 2 ^ 28) s.kind

  abbrev is_passer : Bool
  is_passer = eqb (w / 2 ^ 24 % 2 ^ 4) s.passer

  abbrev is_number : Bool
  is_number = eqb (w / 2 ^ 16 % 2 ^ 8) s.number

  abbrev is_upper : Bool
  is_upper = eqb (w / 2 ^ 16) u

  whole_of_parts : w / 2 ^ 28 ≡ s.kind → w / 2 ^ 24 % 2 ^ 4 ≡ s.passer → w / 2 ^ 16 % 2 ^ 8 ≡ s.number
      → w / 2 ^ 16 ≡ u
  whole_of_parts a b c = omega arith

  parts_of_whole : w / 2 ^ 16 ≡ u
      → (w / 2 ^ 28 ≡ s.kind) × (w / 2 ^ 24 % 2 ^ 4 ≡ s.passer) × (w / 2 ^ 16 % 2 ^ 8 ≡ s.number)
  parts_of_whole e = (omega arith, omega arith, omega arith)

  pub upper_half : (is_kind && is_passer && is_number) ≡ is_upper
  upper_half =
      same_test (is_kind && is_passer && is_number) is_upper
      (λ h.
      let last = (and-eq-true_iff (is_kind && is_passer) is_number).0 h in
      let both = (and-eq-true_iff is_kind is_passer).0 last.0 in
      eq-eqb (w / 2 ^ 16) u
      (whole_of_parts (eqb-true _ _ both.0) (eqb-true _ _ both.1) (eqb-true _ _ last.1)))
      (λ h.
      let p = parts_of_whole (eqb-true _ _ h) in
      (and-eq-true_iff (is_kind && is_passer) is_number).1 (
        (and-eq-true_iff is_kind is_passer).1 (eq-eqb _ _ p.0, eq-eqb _ _ p.1),
        eq-eqb _ _ p.2,
      ))

-- ---- the kinds

-- the refusal by the tests of the upper half, the spare bits and the ranges
abbrev by_tests : Bool → Bool → Bool → ℕ
by_tests fits range misfit = cond (not fits) 3 (cond (not range) 4 (cond misfit 5 0))

pub state_slot : (n q w u : ℕ) → q < 16 → u ≡ STATE * 4096 + q
    → slot_refusal n (slot STATE q) w
    ≡ by_tests (eqb (w / 65536) u && eqb (w / 1024 % 4) 0) (ltb (code_in w) 8 && ltb (level_in w) n)
    (not (level_fits (location_in w) (level_in w)))
unfolding slot_refusal
state_slot n q w u low is =
    ap (λ (b : Bool). by_tests (b && spare_body STATE w) (in_range n STATE w)
    (not (level_fits (location_in w) (level_in w))))
    (upper_half (slot STATE q) w u (omega arith) low (omega arith))

pub turn_slot : (n q w u : ℕ) → q < 16 → u ≡ TURN * 4096 + q
    → slot_refusal n (slot TURN q) w ≡ by_tests (eqb (w / 65536) u && eqb (w / 256 % 256) 0) (ltb (w % 256) n) false
unfolding slot_refusal
turn_slot n q w u low is =
    ap (λ (b : Bool). by_tests (b && spare_body TURN w) (in_range n TURN w) false)
    (upper_half (slot TURN q) w u (omega arith) low (omega arith))

-- a set kind has no spare bits below, no level, no passes, and the range of a set
record SetTests (n k q w full : ℕ) : Type 0 where
  no_level : eqb k STATE ≡ false
  no_spare : spare_body k w ≡ true
  range_is : (off_diagonal (slot k q) w && in_range n k w) ≡ leb (w % 65536) full

set_tests : (n k q w full : ℕ) → SetKind k → full + 1 ≡ 2 ^ n → SetTests n k q w full
unfolding spare_body in_range
set_tests n k q w full kind is =
    let a = ne_eqb k STATE (λ e. omega arith) in
    let b = ne_eqb k TURN (λ e. omega arith) in
    let d = ne_eqb k PASSES (λ e. omega arith) in
    let c : 2 ^ n ≡ suc full = omega arith in
    record { no_level = a; no_spare = rw (a, b); range_is = rw (a, b, d, c) (leb-suc-suc (w % 65536) full) }

and-true : (a b : Bool) → b ≡ true → (a && b) ≡ a
and-true true b e = e
and-true false b e = refl

pub set-slot : (n k q w u full : ℕ) → SetKind k → full + 1 ≡ 2 ^ n → q < 16 → u ≡ k * 4096 + q
    → slot_refusal n (slot k q) w ≡ by_tests (eqb (w / 65536) u) (leb (w % 65536) full) false
unfolding slot_refusal
set-slot n k q w u full kind is low here =
    let t = set_tests n k q w full kind is in
    let none : 0 < 16 = omega arith in
    let whole : u ≡ k * 4096 + 0 * 256 + q = omega arith in
    let upper = upper_half (slot k q) w u none low whole in
    let fits = and-true _ (spare_body k w) t.no_spare ∙ upper in
    let level = ap (λ (b : Bool). b && not (level_fits (location_in w) (level_in w))) t.no_level in
    λ i. by_tests (fits i) (t.range_is i) (level i)

-- a member of a set is in its union with another
or_above_l : (a b : ℕ) → a ≤ bit_or a b
or_above_l a b = omega (arith, or_add_and a b, and_le_r a b)

or_above_r : (a b : ℕ) → b ≤ bit_or a b
or_above_r a b = omega (arith, or_add_and a b, and_le_l a b)

-- three sets by one comparison of their union
module _ (n q b c d full : ℕ) (is : full + 1 ≡ 2 ^ n) (low : q < 16) (e l a : ℕ) (est-is : e ≡ EST * 4096 + q)
    (lis-is : l ≡ LIS * 4096 + q) (ahead-is : a ≡ AHEAD * 4096 + q) where
  abbrev upper_is : ℕ → ℕ → Bool
  upper_is u w = eqb (w / 65536) u

  abbrev two_sets : ℕ
  two_sets = bit_or (b % 65536) (c % 65536)

  abbrev three_sets : ℕ
  three_sets = bit_or two_sets (d % 65536)

  passes : (k w u : ℕ) → SetKind k → u ≡ k * 4096 + q → upper_is u w ≡ true → w % 65536 ≤ full
      → slot_refusal n (slot k q) w ≡ 0
  passes k w u kind here h m = set-slot n k q w u full kind is low here ∙ rw (h, le-leb (w % 65536) full m) refl

  pub sets_fit : SetsFit n q b c d (upper_is e b && upper_is l c && upper_is a d && leb three_sets full)
  sets_fit =
      record {
        est = λ h. passes EST b e (record { from = omega arith; to = omega arith }) est-is (tests h).0 (omega (
          arith,
          or_above_l (b % 65536) (c % 65536),
          or_above_l two_sets (d % 65536),
          (tests h).3,
        ));
        lis = λ h. passes LIS c l (record { from = omega arith; to = omega arith }) lis-is (tests h).1 (omega (
          arith,
          or_above_r (b % 65536) (c % 65536),
          or_above_l two_sets (d % 65536),
          (tests h).3,
        ));
        ahead = λ h. passes AHEAD d a (record { from = omega arith; to = omega arith }) ahead-is (tests h).2 (omega (
          arith,
          or_above_r two_sets (d % 65536),
          (tests h).3,
        ));
      }
    where
      tests : (upper_is e b && upper_is l c && upper_is a d && leb three_sets full) ≡ true
          → (upper_is e b ≡ true) × (upper_is l c ≡ true) × (upper_is a d ≡ true) × (three_sets ≤ full)
      tests h =
          let last = (and-eq-true_iff (upper_is e b && upper_is l c && upper_is a d) (leb three_sets full)).0 h in
          let third = (and-eq-true_iff (upper_is e b && upper_is l c) (upper_is a d)).0 last.0 in
          let both = (and-eq-true_iff (upper_is e b) (upper_is l c)).0 third.0 in
          (both.0, both.1, third.1, leb-true three_sets full last.1)

pub count-slot : (n q r w u : ℕ) → q < 16 → r < 16 → u ≡ PASSES * 4096 + q * 256 + r
    → slot_refusal n (pass_slot q r) w ≡ by_tests (eqb (w / 65536) u) (not (eqb q r) || eqb (w % 65536) 0) false
unfolding slot_refusal
count-slot n q r w u h l is =
    let fits = and-true _ true refl ∙ upper_half (pass_slot q r) w u h l is in
    let own = and-true (not (eqb q r) || eqb (w % 65536) 0) true refl in
    λ i. by_tests (fits i) (own i) false

-- ---- the first refusal

-- the same was found, and it is no refusal
pub none_found : {f g : Found} → f ≡ g → f.refusal ≡ 0 → g.refusal ≡ 0
none_found e z = sym (ap (λ (x : Found). x.refusal) e) ∙ z

-- an error has a refusal
pub err_some : {A : Type 0} (r : Result A ImageError) → IsErr r → (found_in r).refusal ≡ 0 → ⊥
err_some (Ok x) h z = absurd (false≢true h)
err_some (Err e) h z = number_some e.refusal z

-- what the check of one word found, the refusal r of the word at place p
module _ (f : Found) (r p : ℕ) (is : f ≡ found_at r p) where
  abbrev found_by : Bool → Found
  found_by b = elim b [ true ↦ record { refusal = 0; place = 0 } | false ↦ record { refusal = r; place = p } ]

  found_zero : f.refusal ≡ 0 → r ≡ 0
  found_zero z = go (eqb r 0) refl
    where
      go : (b : Bool) → eqb r 0 ≡ b → r ≡ 0
      go true e = eqb-true r 0 e
      go false e = none_found (is ∙ ap found_by e) z

  found_some : (f.refusal ≡ 0 → ⊥) → (f ≡ record { refusal = r; place = p }) × (r ≡ 0 → ⊥)
  found_some some = go (eqb r 0) refl
    where
      go : (b : Bool) → eqb r 0 ≡ b → (f ≡ record { refusal = r; place = p }) × (r ≡ 0 → ⊥)
      go true e = absurd (some (ap (λ (x : Found). x.refusal) (is ∙ ap found_by e)))
      go false e = (is ∙ ap found_by e, eqb-false r 0 e)

  -- the first of several words, and the last
  module _ (n i : ℕ) (s : Slot) (w : ℕ) (here : i ≡ p) (slot-is : r ≡ slot_refusal n s w) where
    pub stop_at : (ss : List Slot) (ws : List ℕ) → (f.refusal ≡ 0 → ⊥) → f ≡ first_refusal n i (s ∷ ss) (w ∷ ws)
    stop_at ss ws some =
        let both = found_some some in
        both.0
        ∙ sym (first_stop n i s ss w ws (λ z. both.1 (slot-is ∙ z)) ∙ (λ x. record { refusal = sym slot-is x; place = here x }))

    pub pass_at : (ss : List Slot) (ws : List ℕ) → f.refusal ≡ 0
        → first_refusal n i (s ∷ ss) (w ∷ ws) ≡ first_refusal n (suc i) ss ws
    pass_at ss ws none = first_next n i s ss w ws (sym slot-is ∙ found_zero none)

    pub last_at : (ws : List ℕ) → f ≡ first_refusal n i (s ∷ []) (w ∷ ws)
    unfolding first_refusal
    last_at ws = is ∙ (λ x. found_at (slot-is x) (sym here x))
