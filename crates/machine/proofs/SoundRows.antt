-- A sound table row by row, as plain facts.
--
--   SoundRow n q r  <=>  row q of a table of n processes is within its ranges.
--   sound_rows, rows_sound            a table is not refused just where it has 2 to 16 rows and each is such a row
--   sound-accepted, accepted-sound    and just where it is `sound`
--
-- Assumes nothing.
use Prim.Native.Nat.{ℕ, zero, suc, ◌+◌, ◌^◌, ◌≤◌, ◌<◌}
use mathlib.Core.Path.{◌≡◌, refl, subst}
use mathlib.Core.Bool.{Bool, true, cond, ◌&&◌, ◌||◌, not, and-eq-true_iff}
use mathlib.Core.List.{[], ◌∷◌}
use native.Mathlib.Omega.{arith}
use lib.Dec.{eqb, leb, ltb}
use lib.ListN.{length}
use borrow.Author.Tests.{eqb-true, leb-true, ltb-true, eq-eqb, le-leb, lt-ltb}
use Rattle.machine.specs.Tables.{Table, row, one_of, locations, level_fits, sound_passes, sound_row, sound_from}
use Rattle.machine.specs.Tables.{size_fits, sound}
use Rattle.machine.specs.Tables.{table_refusal}
use Rattle.machine.specs.declared.Row.{Row}
use Rattle.machine.proofs.LevelLaws.{fits_true, fits_some, fits_none}
use Rattle.machine.proofs.PassLaws.{SoundPasses, passes_facts, passes_true}
use Rattle.counting.proofs.TestLaws.{implied, implies, cond_zero}

pub record SoundRow (n q : ℕ) (r : Row) : Type 0 where
  pub location_known : one_of r.location locations ≡ true
  pub act_low : r.act < 2
  pub bb_low : r.bb < 2
  pub level_low : r.level < n
  pub est_low : r.est < 2 ^ n
  pub lis_low : r.lis < 2 ^ n
  pub ahead_low : r.ahead < 2 ^ n
  pub turn_low : r.turn < n
  pub turn_none : q ≡ 0 → r.turn ≡ 0
  pub level_some : 22 ≤ r.location → r.location ≤ 24 → 0 < r.level
  pub level_none : r.location ≡ 30 → r.level ≡ 0
  pub passes_fit : SoundPasses n q r.passes

-- ---- one row

-- the tests of a row, in the order of `sound_row`, each with those before it
module _ (n q : ℕ) (r : Row) where
  abbrev turn_fits : Bool
  turn_fits = not (eqb q 0) || eqb r.turn 0

  abbrev fits : Bool
  fits = level_fits r.location r.level

  abbrev b1 : Bool
  b1 = one_of r.location locations

  abbrev b2 : Bool
  b2 = b1 && ltb r.act 2

  abbrev b3 : Bool
  b3 = b2 && ltb r.bb 2

  abbrev b4 : Bool
  b4 = b3 && ltb r.level n

  abbrev b5 : Bool
  b5 = b4 && ltb r.est (2 ^ n)

  abbrev b6 : Bool
  b6 = b5 && ltb r.lis (2 ^ n)

  abbrev b7 : Bool
  b7 = b6 && ltb r.ahead (2 ^ n)

  abbrev b8 : Bool
  b8 = b7 && ltb r.turn n

  abbrev b9 : Bool
  b9 = b8 && turn_fits

  abbrev b10 : Bool
  b10 = b9 && fits

  pub sound_row_facts : sound_row n q r ≡ true → SoundRow n q r
  sound_row_facts h =
      let p10 = (and-eq-true_iff b10 (sound_passes n q r.passes)).0 h in
      let p9 = (and-eq-true_iff b9 fits).0 p10.0 in
      let p8 = (and-eq-true_iff b8 turn_fits).0 p9.0 in
      let p7 = (and-eq-true_iff b7 (ltb r.turn n)).0 p8.0 in
      let p6 = (and-eq-true_iff b6 (ltb r.ahead (2 ^ n))).0 p7.0 in
      let p5 = (and-eq-true_iff b5 (ltb r.lis (2 ^ n))).0 p6.0 in
      let p4 = (and-eq-true_iff b4 (ltb r.est (2 ^ n))).0 p5.0 in
      let p3 = (and-eq-true_iff b3 (ltb r.level n)).0 p4.0 in
      let p2 = (and-eq-true_iff b2 (ltb r.bb 2)).0 p3.0 in
      let p1 = (and-eq-true_iff b1 (ltb r.act 2)).0 p2.0 in
      record {
        location_known = p1.0;
        act_low = ltb-true _ _ p1.1;
        bb_low = ltb-true _ _ p2.1;
        level_low = ltb-true _ _ p3.1;
        est_low = ltb-true _ _ p4.1;
        lis_low = ltb-true _ _ p5.1;
        ahead_low = ltb-true _ _ p6.1;
        turn_low = ltb-true _ _ p7.1;
        turn_none = λ e. eqb-true _ _ (implied (eqb q 0) (eqb r.turn 0) p8.1 (eq-eqb q 0 e));
        level_some = fits_some r.location r.level p9.1;
        level_none = fits_none r.location r.level p9.1;
        passes_fit = passes_facts n q r.passes p10.1;
      }

  pub sound_row_true : SoundRow n q r → sound_row n q r ≡ true
  sound_row_true s =
      let h2 = (and-eq-true_iff b1 (ltb r.act 2)).1 (s.location_known, lt-ltb _ _ s.act_low) in
      let h3 = (and-eq-true_iff b2 (ltb r.bb 2)).1 (h2, lt-ltb _ _ s.bb_low) in
      let h4 = (and-eq-true_iff b3 (ltb r.level n)).1 (h3, lt-ltb _ _ s.level_low) in
      let h5 = (and-eq-true_iff b4 (ltb r.est (2 ^ n))).1 (h4, lt-ltb _ _ s.est_low) in
      let h6 = (and-eq-true_iff b5 (ltb r.lis (2 ^ n))).1 (h5, lt-ltb _ _ s.lis_low) in
      let h7 = (and-eq-true_iff b6 (ltb r.ahead (2 ^ n))).1 (h6, lt-ltb _ _ s.ahead_low) in
      let h8 = (and-eq-true_iff b7 (ltb r.turn n)).1 (h7, lt-ltb _ _ s.turn_low) in
      let turn = implies (eqb q 0) (eqb r.turn 0) (λ e. eq-eqb _ _ (s.turn_none (eqb-true _ _ e))) in
      let h9 = (and-eq-true_iff b8 turn_fits).1 (h8, turn) in
      let h10 = (and-eq-true_iff b9 fits).1
      (h9, fits_true r.location r.level s.level_some s.level_none) in
      (and-eq-true_iff b10 (sound_passes n q r.passes)).1 (h10, passes_true n q r.passes s.passes_fit)

-- ---- all rows

-- the same row under an equal number
renumber : {n x y : ℕ} {r : Row} → SoundRow n x r → x ≡ y → SoundRow n y r
renumber {n} {r = r} s e = subst (λ (z : ℕ). SoundRow n z r) e s

from_facts : (n k : ℕ) (t : Table) → sound_from n k t ≡ true → (q : ℕ) → q < length t → SoundRow n (k + q) (row t q)
unfolding sound_from
from_facts n k [] h q l = absurd (omega arith)
from_facts n k (r ∷ t) h zero l =
    renumber (sound_row_facts n k r ((and-eq-true_iff (sound_row n k r) (sound_from n (suc k) t)).0 h).0) (omega arith)
from_facts n k (r ∷ t) h (suc q) l =
    let rest = ((and-eq-true_iff (sound_row n k r) (sound_from n (suc k) t)).0 h).1 in
    renumber (from_facts n (suc k) t rest q (omega arith)) (omega arith)

from_true : (n k : ℕ) (t : Table) → ((q : ℕ) → q < length t → SoundRow n (k + q) (row t q)) → sound_from n k t ≡ true
unfolding sound_from
from_true n k [] f = refl
from_true n k (r ∷ t) f =
    (and-eq-true_iff (sound_row n k r) (sound_from n (suc k) t)).1 (
      sound_row_true n k r (renumber (f 0 (omega arith)) (omega arith)),
      from_true n (suc k) t (λ q l. renumber (f (suc q) (omega arith)) (omega arith)),
    )

module _ (t : Table) where
  abbrev many : Bool
  many = size_fits (length t)

  abbrev each : Bool
  each = sound_from (length t) 0 t

  -- what a table that is not refused says
  pub sound_rows : table_refusal t ≡ 0
      → (2 ≤ length t) × (length t ≤ 16) × ((q : ℕ) → q < length t → SoundRow (length t) q (row t q))
  unfolding table_refusal
  sound_rows z =
      let a = cond_zero many 5 (cond (not each) 7 0) z in
      let b = cond_zero each 6 0 a.1 in (
        leb-true _ _ ((and-eq-true_iff (leb 2 (length t)) (leb (length t) 16)).0 a.0).0,
        leb-true _ _ ((and-eq-true_iff (leb 2 (length t)) (leb (length t) 16)).0 a.0).1,
        λ q l. renumber (from_facts (length t) 0 t b.0 q l) (omega arith),
      )

  pub rows_sound : 2 ≤ length t
      → length t ≤ 16
      → ((q : ℕ) → q < length t → SoundRow (length t) q (row t q))
      → table_refusal t ≡ 0
  unfolding table_refusal
  rows_sound a b f =
      let h : many ≡ true = (and-eq-true_iff (leb 2 (length t)) (leb (length t) 16)).1 (le-leb _ _ a, le-leb _ _ b) in
      let k : each ≡ true =
      from_true (length t) 0 t (λ q l. renumber (f q l) (omega arith)) in
      rw (h, k)

  -- one row of a table that is not refused
  pub sound-row : table_refusal t ≡ 0 → (q : ℕ) → q < length t → SoundRow (length t) q (row t q)
  sound-row z = (sound_rows z).2

  pub sound_few : table_refusal t ≡ 0 → length t ≤ 16
  sound_few z = (sound_rows z).1

  -- `sound` and the refusal say the same
  pub sound-accepted : sound t ≡ true → table_refusal t ≡ 0
  unfolding sound table_refusal
  sound-accepted h = rw (((and-eq-true_iff many each).0 h).0, ((and-eq-true_iff many each).0 h).1)

  pub accepted-sound : table_refusal t ≡ 0 → sound t ≡ true
  unfolding sound table_refusal
  accepted-sound z =
      let a = cond_zero many 5 (cond (not each) 7 0) z in
      let b = cond_zero each 6 0 a.1 in
      (and-eq-true_iff many each).1 (a.0, b.0)
