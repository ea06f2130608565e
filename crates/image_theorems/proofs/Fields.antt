-- Fields: what the lower half of a word of each kind holds, both ways.
--
--   state_passes, set_passes, turn_passes, count_passes    a word that was put together passes
--   state_fields, set_back, turn_back, count_back          and holds what it was put together of
--   state_kept, set_kept, turn_kept, own_kept              what a word that passes holds
--
-- Packing is the same for each kind; only this file, Slots and RowWords know the kinds. Assumes nothing.
use Prim.Native.Nat.{ℕ, ◌+◌, ◌*◌, ◌/◌, ◌%◌, ◌^◌, ◌≤◌, ◌<◌}
use mathlib.Core.Path.{◌≡◌, refl, sym, ap, ap₂, ◌∙◌, subst}
use mathlib.Core.Bool.{true, false, not, and-eq-true_iff}
use native.Mathlib.Nat.{lt_of_lt_of_le}
use native.Mathlib.Omega.{arith}
use lib.Dec.{eqb, ltb}
use lib.ListN.{get_or}
use lib.Pow.{pow_mono, mod-pow-add}
use borrow.Author.Tests.{ltb-true, eqb-true, eq-eqb, lt-ltb, not-false}
use Rattle.machine.specs.Images.{
  slot,
  pass_slot,
  STATE,
  EST,
  LIS,
  AHEAD,
  TURN,
  PASSES,
  code_of,
  code_in,
  act_in,
  bb_in,
  level_in,
  location_in,
  set_in,
  turn_in,
  count_in,
  spare_body,
  in_range,
}
use Rattle.machine.specs.Tables.{locations, level_fits}
use Rattle.counting.proofs.TestLaws.{implied, implies}
use Rattle.image_theorems.proofs.Packing.{word_of}
use Rattle.image_theorems.proofs.Locations.{code_location}
use Rattle.image_theorems.proofs.WordChecks.{Passes, parts_made}

-- ---- kind STATE

-- the lower half of a word of kind STATE
abbrev pub state_body : ℕ → ℕ → ℕ → ℕ → ℕ
state_body c a x v = c * 2 ^ 12 + a * 2 ^ 9 + x * 2 ^ 8 + v

-- the fields of a word of kind STATE, and that the bits between them are 0
pub record StateFields (c a x v w : ℕ) : Type 0 where
  pub code_is : code_in w ≡ c
  pub spare_is : w / 2 ^ 10 % 2 ^ 2 ≡ 0
  pub act_is : act_in w ≡ a
  pub bb_is : bb_in w ≡ x
  pub level_is : level_in w ≡ v

pub state_fields : (q c a x v : ℕ) → c < 8 → a < 2 → x < 2 → v < 2 ^ 8 → StateFields c a x v
    (word_of (slot STATE q) (state_body c a x v))
state_fields q c a x v h i j l =
    record {
      code_is = omega arith;
      spare_is = omega arith;
      act_is = omega arith;
      bb_is = omega arith;
      level_is =
          omega arith;
    }

-- the lower half, field by field from the highest down
add_fields : (r c r₁ s r₂ a r₃ x v : ℕ) → r ≡ c * 2 ^ 12 + r₁ → r₁ ≡ s * 2 ^ 10 + r₂ → s ≡ 0 → r₂ ≡ a * 2 ^ 9 + r₃
    → r₃ ≡ x * 2 ^ 8 + v
    → state_body c a x v ≡ r
add_fields r c r₁ s r₂ a r₃ x v e₁ e₂ z e₃ e₄ = omega arith

state_body_lem : (w : ℕ) → w / 2 ^ 10 % 2 ^ 2 ≡ 0 → state_body (code_in w) (act_in w) (bb_in w) (level_in w) ≡ w % 2 ^ 16
state_body_lem w z =
    add_fields (w % 2 ^ 16) (code_in w) (w % 2 ^ 12) (w / 2 ^ 10 % 2 ^ 2) (w % 2 ^ 10) (act_in w) (w % 2 ^ 9) (bb_in w)
    (level_in w)
    (mod-pow-add w 4 12) (mod-pow-add w 2 10) z (mod-pow-add w 1 9) (mod-pow-add w 1 8)

pub state_passes : (n q c a x v : ℕ) → c < 8 → a < 2 → x < 2 → v < n → n ≤ 16 → q < n → level_fits (get_or locations c 0) v
    ≡ true
    → Passes n (slot STATE q) (word_of (slot STATE q) (state_body c a x v))
unfolding spare_body in_range
state_passes n q c a x v h i j l few m fits =
    let w = word_of (slot STATE q) (state_body c a x v) in
    let f = state_fields q c a x v h i j (omega arith) in
    record {
      parts = parts_made (slot STATE q) (state_body c a x v) (omega arith) (omega arith) (omega arith);
      body_spare = eq-eqb _ _ f.spare_is;
      off_diagonal_lem = refl;
      in_range_lem =
          (and-eq-true_iff (ltb (code_in w) 8) (ltb (level_in w) n)).1 (
            lt-ltb _ _ (subst (λ (y : ℕ). y < 8) (sym f.code_is) h),
            lt-ltb _ _ (subst (λ (y : ℕ). y < n) (sym f.level_is) l),
          );
      level_fits_lem =
          ap₂ (λ (y z : ℕ). not (level_fits (get_or locations y 0) z)) f.code_is f.level_is ∙ ap not fits;
    }

-- the fields of a word of kind STATE that passes
pub record StateKept (n w : ℕ) : Type 0 where
  pub body_is : state_body (code_of (location_in w)) (act_in w) (bb_in w) (level_in w) ≡ w % 2 ^ 16
  pub code_low : code_in w < 8
  pub level_low : level_in w < n
  pub fits : level_fits (location_in w) (level_in w) ≡ true

pub state_kept : (n q w : ℕ) → Passes n (slot STATE q) w → StateKept n w
unfolding spare_body in_range
state_kept n q w p =
    let range = (and-eq-true_iff (ltb (code_in w) 8) (ltb (level_in w) n)).0 p.in_range_lem in
    let low : code_in w < 8 = ltb-true _ _ range.0 in
    record {
      body_is =
          ap (λ (c : ℕ). state_body c (act_in w) (bb_in w) (level_in w)) (code_location (code_in w) low)
          ∙ state_body_lem w (eqb-true _ _ p.body_spare);
      code_low = low;
      level_low = ltb-true _ _ ((and-eq-true_iff (ltb (code_in w) 8) (ltb (level_in w) n)).0 p.in_range_lem).1;
      fits = not-false (level_fits (location_in w) (level_in w)) p.level_fits_lem;
    }

-- ---- kinds EST, LIS and AHEAD

-- a kind whose lower half is a set
pub record SetKind (k : ℕ) : Type 0 where
  pub no_level : eqb k STATE ≡ false
  pub no_count : eqb k PASSES ≡ false
  pub no_spare : (w : ℕ) → spare_body k w ≡ true
  pub range_is : (n w : ℕ) → in_range n k w ≡ ltb (set_in w) (2 ^ n)

pub est_set : SetKind EST
unfolding spare_body in_range
est_set = record { no_level = refl; no_count = refl; no_spare = λ w. refl; range_is = λ n w. refl }

pub lis_set : SetKind LIS
unfolding spare_body in_range
lis_set = record { no_level = refl; no_count = refl; no_spare = λ w. refl; range_is = λ n w. refl }

pub ahead_set : SetKind AHEAD
unfolding spare_body in_range
ahead_set = record { no_level = refl; no_count = refl; no_spare = λ w. refl; range_is = λ n w. refl }

-- a set of n processes fits the lower half
pub set_low : {n s : ℕ} → n ≤ 16 → s < 2 ^ n → s < 2 ^ 16
set_low few h = lt_of_lt_of_le h (pow_mono few)

pub set_back : (k q s : ℕ) → s < 2 ^ 16 → set_in (word_of (slot k q) s) ≡ s
set_back k q s h = omega arith

pub set_passes : (n k q s : ℕ) → SetKind k → s < 2 ^ n → n ≤ 16 → q < n → Passes n (slot k q) (word_of (slot k q) s)
set_passes n k q s kind h few l =
    record {
      parts = parts_made (slot k q) s (omega arith) (omega arith) (set_low few h);
      body_spare = kind.no_spare (word_of (slot k q) s);
      off_diagonal_lem = rw kind.no_count;
      in_range_lem =
          kind.range_is n (word_of (slot k q) s) ∙ lt-ltb _ _
          (subst (λ (y : ℕ). y < 2 ^ n) (sym (set_back k q s (set_low few h))) h);
      level_fits_lem = rw kind.no_level;
    }

pub set_kept : (n k q w : ℕ) → SetKind k → Passes n (slot k q) w → set_in w < 2 ^ n
set_kept n k q w kind p = ltb-true _ _ (sym (kind.range_is n w) ∙ p.in_range_lem)

-- ---- kind TURN

pub turn_back : (q v : ℕ) → v < 2 ^ 8 → turn_in (word_of (slot TURN q) v) ≡ v
turn_back q v h = omega arith

pub turn_passes : (n q v : ℕ) → v < n → n ≤ 16 → q < n → Passes n (slot TURN q) (word_of (slot TURN q) v)
unfolding spare_body in_range
turn_passes n q v h few l =
    record {
      parts = parts_made (slot TURN q) v (omega arith) (omega arith) (omega arith);
      body_spare = eq-eqb (word_of (slot TURN q) v / 2 ^ 8 % 2 ^ 8) 0 (omega arith);
      off_diagonal_lem = refl;
      in_range_lem = lt-ltb _ _ (subst (λ (y : ℕ). y < n) (sym (turn_back q v (omega arith))) h);
      level_fits_lem = refl;
    }

pub turn_kept : (n q w : ℕ) → Passes n (slot TURN q) w → (turn_in w < n) × (turn_in w ≡ w % 2 ^ 16)
unfolding spare_body in_range
turn_kept n q w p = (ltb-true _ _ p.in_range_lem, omega (arith, eqb-true (w / 2 ^ 8 % 2 ^ 8) 0 p.body_spare))

-- ---- kind PASSES

pub count_back : (q r c : ℕ) → c < 2 ^ 16 → count_in (word_of (pass_slot q r) c) ≡ c
count_back q r c h = omega arith

pub count_passes : (n q r c : ℕ) → c < 2 ^ 16 → (q ≡ r → c ≡ 0) → n ≤ 16 → q < n → r < n
    → Passes n (pass_slot q r) (word_of (pass_slot q r) c)
unfolding spare_body in_range
count_passes n q r c h own few k l =
    let w = word_of (pass_slot q r) c in
    record {
      parts = parts_made (pass_slot q r) c (omega arith) (omega arith) h;
      body_spare = refl;
      off_diagonal_lem =
          implies (eqb q r) (eqb (count_in w) 0)
          (λ e. eq-eqb (count_in w) 0 (count_back q r c h ∙ own (eqb-true q r e)));
      in_range_lem = refl;
      level_fits_lem = refl;
    }

-- what a word of a process's passes over itself holds
pub own_kept : (n q w : ℕ) → Passes n (pass_slot q q) w → count_in w ≡ 0
own_kept n q w p =
    eqb-true (count_in w) 0 (implied (eqb q q) (eqb (count_in w) 0) p.off_diagonal_lem (eq-eqb q q refl))
