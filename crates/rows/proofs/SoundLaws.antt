-- The code's test of a row is `sound_row`: cells that have one bound are put together by `|` and compared once.
--
--   or_ltb        a | b is below a power of 2 where both are
--   sound_right   the whole test
--
-- Assumes nothing.
use Prim.Native.Nat.{ℕ, suc, ◌+◌, ◌^◌, ◌≤◌, ◌<◌}
use mathlib.Core.Path.{◌≡◌, refl, sym, ap, ◌∙◌}
use mathlib.Core.Bool.{Bool, true, false, ◌&&◌, ◌||◌, not, and_assoc, and-false}
use native.Mathlib.Numerals.{add-one}
use native.Mathlib.Decide.{dec_lt}
use native.Mathlib.Omega.{arith}
use lib.Dec.{eqb, leb, ltb, leb-suc-suc}
use lib.Bits.{bit_and, bit_or, or_lt, or_add_and, and_le_l, and_le_r}
use borrow.Author.Tests.{lt-ltb, le-ltb}
use Rattle.machine.specs.Tables.{one_of, locations, level_fits, sound_passes, sound_row}
use Rattle.machine.specs.declared.Row.{Row}
use Rattle.rows.specs.Bounds.{Full}

pub or_ltb : (k a b : ℕ) → ltb (bit_or a b) (2 ^ k) ≡ (ltb a (2 ^ k) && ltb b (2 ^ k))
or_ltb k a b = go (dec_lt a (2 ^ k)) (dec_lt b (2 ^ k))
  where
    sum : bit_or a b + bit_and a b ≡ a + b
    sum = or_add_and a b

    go : Dec (a < 2 ^ k) → Dec (b < 2 ^ k) → ltb (bit_or a b) (2 ^ k) ≡ (ltb a (2 ^ k) && ltb b (2 ^ k))
    go (yes ha) (yes hb) =
        simp (lt-ltb (bit_or a b) (2 ^ k) (or_lt k a b ha hb), lt-ltb a (2 ^ k) ha, lt-ltb b (2 ^ k) hb)
    go (no ha) hb =
        let over : 2 ^ k ≤ bit_or a b = omega (arith, ha, sum, and_le_r a b) in
        let left : 2 ^ k ≤ a = omega (arith, ha) in
        simp (le-ltb (bit_or a b) (2 ^ k) over, le-ltb a (2 ^ k) left)
    go (yes ha) (no hb) =
        let over : 2 ^ k ≤ bit_or a b = omega (arith, hb, sum, and_le_l a b) in
        let right : 2 ^ k ≤ b = omega (arith, hb) in
        simp (le-ltb (bit_or a b) (2 ^ k) over, le-ltb b (2 ^ k) right, and-false)

-- at most the full set is below 2 ^ n
within_full : (n f s : ℕ) → f + 1 ≡ 2 ^ n → leb s f ≡ ltb s (2 ^ n)
within_full n f s h = sym (leb-suc-suc s f) ∙ ap (λ (m : ℕ). leb (suc s) m) (sym (add-one f) ∙ h)

-- the location's own tests stand first and last in the definition, last in the code
shift : (a b x : Bool) → (x && (a && b)) ≡ (a && x && b)
shift true b x = refl
shift false b true = refl
shift false b false = refl

pub sound_right : (n f q : ℕ) (r : Row) (fits own rest : Bool) → Full n f
    → fits ≡ (one_of r.location locations && level_fits r.location r.level)
    → (own && rest) ≡ sound_passes n q r.passes
    → (ltb (bit_or r.act r.bb) 2
    && ltb r.level n
    && leb (bit_or (bit_or r.est r.lis) r.ahead) f
    && ltb r.turn n
    && (not (eqb q 0) || eqb r.turn 0)
    && fits
    && own
    && rest)
    ≡ sound_row n q r
sound_right n f q r fits own rest full e d =
    rw (
      and_assoc _ own rest,
      e,
      d,
      or_ltb 1 r.act r.bb,
      within_full n f (bit_or (bit_or r.est r.lis) r.ahead) full.is,
      or_ltb n (bit_or r.est r.lis) r.ahead,
      or_ltb n r.est r.lis,
      shift (one_of r.location locations) (level_fits r.location r.level),
    )
    (simp and_assoc)
