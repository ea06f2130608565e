-- A series to which every row of a table was added holds the table's figures.
--
--   series_zero, series_next      the series of no rows, and of one row more
--   count_fits, count_more        a count of rows, and one row more
--   counts_are                    a series by its counts
--   series_same, count_same       a row that is in no count
--   below_fits, held_fits         a row can be added to the series of the rows before it
--   .._next, .._away, .._out      the counts with the row: at level 0, at a level above, and where it does not compete
--   below-figures, held-figures   the figures of the series of all rows
--   all_compete                   the last count of the first series is that of all who wait or are at 30
--
-- Assumes nothing.
use Prim.Native.Nat.{ℕ, zero, suc, ◌+◌, ◌≤◌, ◌<◌}
use mathlib.Core.Path.{◌≡◌, refl, ap, ap₂, sym, ◌∙◌}
use mathlib.Core.Bool.{Bool, true, false, cond, ◌&&◌}
use mathlib.Core.List.{List, ◌∷◌}
use native.Mathlib.Omega.{arith}
use native.Mathlib.Numerals.{add-one}
use lib.Dec.{leb}
use lib.ListN.{length, get_or, replicate}
use borrow.Author.Tests.{eqb-true, lt-ltb, lt-leb}
use Rattle.counting.specs.Sums.{bit, sum, count}
use Rattle.counting.proofs.CountLaws.{bit_le_one, count_next, count_suc_out, count_le, count_cong, count_none}
use Rattle.counting.proofs.TestLaws.{fails}
use Rattle.counting.specs.Ranges.{up_to}
use Rattle.machine.specs.Tables.{Table, row, table_refusal, competes}
use Rattle.machine.specs.Census.{count_rows, is_below, is_held, is_critical, below, held, critical, waiting, figures}
use Rattle.machine.specs.declared.Row.{Row}
use Rattle.machine.proofs.SoundRows.{sound_few, sound-row}
use Rattle.machine.proofs.CensusTheorems.{competing_parts}
use Rattle.census.specs.Series.{below_from, held_from, Small, more_at, one_over, figure_at, figures_in}
use Rattle.counting.proofs.RangeLaws.{up_to_cong, up_to_at, up_to_all}
use Rattle.std.proofs.lemmas.List.{get_or_default}
use Rattle.machine.specs.Rows.{blank}
use Rattle.census.proofs.ThresholdLaws.{below_none, below_reached, below_from_le, below_from_is, below_from_out}
use Rattle.census.proofs.ThresholdLaws.{held_none, held_reached, held_from_le, held_from_none, held_from_out}
use Rattle.census.proofs.ThresholdLaws.{out_critical}

-- sixteen counts, each of which is known
pub counts_are : (g : ℕ → ℕ) (a : List ℕ) → length a ≡ 16 → ((k : ℕ) → k < 16 → get_or a k 0 ≡ g k) → a ≡ up_to g 16
counts_are g a e at = sym (up_to_all a 16 e) ∙ up_to_cong (λ k. get_or a k 0) g 16 at

pub count_same : (P : ℕ → Bool) (q : ℕ) → P q ≡ false → count P (q + 1) ≡ count P q
count_same P q e = ap (count P) (add-one q) ∙ count_suc_out P q e

-- ---- how many of the first q rows have P, and of one row more, which is read with any default

module _ (P : Row → Bool) (t : Table) (q : ℕ) (l : q < length t) where
  pub count_fits : length t ≤ 16 → (d : Row) (n : ℕ) → n ≡ count (λ i. P (row t i)) q
      → n + bit (P (get_or t q d)) < 65536
  count_fits few d n e = omega (arith, e, count_le (λ i. P (row t i)) q, bit_le_one (P (get_or t q d)))

  pub count_more : (d : Row) (n m : ℕ) → n ≡ count (λ i. P (row t i)) q → m ≡ n + bit (P (get_or t q d))
      → m ≡ count (λ i. P (row t i)) (q + 1)
  count_more d n m e f =
      f
      ∙ ap₂ (λ (a b : ℕ). a + b) e (ap (λ (r : Row). bit (P r)) (get_or_default t q d blank l))
      ∙ sym (count_next (λ i. P (row t i)) q)

-- ---- series

module _ (threshold : Row → ℕ) (t : Table) where
  -- whether i has reached the threshold of process p
  abbrev reaches : ℕ → ℕ → Bool
  reaches i p = leb (threshold (row t p)) i

  -- how many of the first q processes have a threshold of i or less
  abbrev reached_by : ℕ → ℕ → ℕ
  reached_by q i = count (reaches i) q

  abbrev pub series_of : ℕ → List ℕ
  series_of q = up_to (reached_by q) 16

  pub series_zero : replicate 16 0 ≡ series_of 0
  unfolding up_to count sum
  series_zero = refl

  pub series_small : (q v : ℕ) → q ≤ 16 → v ≤ 16 → Small (series_of q) v
  series_small q v l h = (h, λ i k. omega (arith, up_to_at (reached_by q) 16 i k, count_le (reaches i) q))

  pub series_next : (q : ℕ) → one_over (series_of q) (threshold (row t q)) ≡ series_of (q + 1)
  series_next q =
      up_to_cong (more_at (series_of q) (threshold (row t q))) (reached_by (q + 1)) 16
      (λ i l. ap (λ (s : ℕ). s + bit (reaches i q)) (up_to_at (reached_by q) 16 i l) ∙ sym (count_next (reaches i) q))

  pub series_same : (q : ℕ) → threshold (row t q) ≡ 16 → series_of q ≡ series_of (q + 1)
  series_same q e =
      up_to_cong (reached_by q) (reached_by (q + 1)) 16
      (λ i l. sym (count_same (reaches i) q (ap (λ (v : ℕ). leb v i) e ∙ lt-leb 16 i l)))

  -- P k r: figure k counts row r
  series_figures : (P : ℕ → Row → Bool)
      → ((r : Row) → P 0 r ≡ false)
      → ((r : Row) (i : ℕ) → i < 16 → leb (threshold r) i ≡ P (suc i) r)
      → figures_in (length t) (series_of (length t)) ≡ figures (λ k u. count_rows (P k) u) t
  series_figures P none same =
      up_to_cong (figure_at n (series_of n)) (λ k. cond (leb k n) (count_rows (P k) t) 0) 17
      (λ k l. ap (λ (s : ℕ). cond (leb k n) s 0) (figure k l))
    where
      n : ℕ
      n = length t

      figure : (k : ℕ) → k < 17 → get_or (0 ∷ series_of n) k 0 ≡ count_rows (P k) t
      figure zero l = sym (count_none (λ q. P 0 (row t q)) n (λ q h. none (row t q)))
      figure (suc i) l =
          up_to_at (reached_by n) 16 i (omega arith)
          ∙ count_cong (reaches i) (λ q. P (suc i) (row t q)) n (λ q h. same (row t q) i (omega arith))

-- ---- the two series of a census, and who is at 30

-- how many of the first q processes are at 30
abbrev pub critical_by : Table → ℕ → ℕ
critical_by t q = count (λ i. is_critical (row t i)) q

module _ (t : Table) where
  pub below-figures : figures_in (length t) (series_of below_from t (length t)) ≡ figures below t
  below-figures = series_figures below_from t is_below below_none below_reached

  pub held-figures : figures_in (length t) (series_of held_from t (length t)) ≡ figures held t
  held-figures = series_figures held_from t is_held held_none held_reached

-- ---- row q looked at, as the code reads it: the counts of the rows before it, and with it

module _ (t : Table) (s : table_refusal t ≡ 0) (q : ℕ) (l : q < length t) (d : Row) where
  abbrev at : Row
  at = get_or t q d

  is : at ≡ row t q
  is = get_or_default t q d blank l

  competes_is : (b : Bool) → competes at ≡ b → competes (row t q) ≡ b
  competes_is b c = ap competes (sym is) ∙ c

  level_is : competes at ≡ true → at.level ≡ below_from (row t q)
  level_is c = ap (λ (r : Row). r.level) is ∙ below_from_is (row t q) (competes_is true c)

  q_le : q ≤ 16
  q_le = omega (arith, l, sound_few t s)

  level_le : (row t q).level ≤ 16
  level_le = omega (arith, sound_few t s, (sound-row t s q l).level_low)

  pub below_fits : (a : List ℕ) → a ≡ series_of below_from t q → competes at ≡ true → Small a at.level
  below_fits a e c =
      rw (e, level_is c) (series_small below_from t q (below_from (row t q)) q_le (below_from_le (row t q) level_le))

  pub held_fits : (a : List ℕ) (v : ℕ) → a ≡ series_of held_from t q → v ≡ held_from at → Small a v
  held_fits a v e f =
      rw (e, f, is) (series_small held_from t q (held_from (row t q)) q_le (held_from_le (row t q) level_le))

  pub below_next : (a b : List ℕ) → a ≡ series_of below_from t q → competes at ≡ true → b ≡ one_over a at.level
      → b ≡ series_of below_from t (q + 1)
  below_next a b e c f = f ∙ ap₂ one_over e (level_is c) ∙ series_next below_from t q

  pub held_next : (a b : List ℕ) (v : ℕ) → a ≡ series_of held_from t q → v ≡ held_from at → b ≡ one_over a v
      → b ≡ series_of held_from t (q + 1)
  held_next a b v e h f = f ∙ ap₂ one_over e (h ∙ ap held_from is) ∙ series_next held_from t q

  -- at level 0
  pub held_none_next : (a b : List ℕ) → a ≡ series_of held_from t q → competes at ≡ true → at.level ≡ 0
      → b ≡ one_over a 0 → b ≡ series_of held_from t (q + 1)
  held_none_next a b e c z f = held_next a b 0 e (held_from_none at c z) f

  -- at a level above 0
  pub critical_away : (n m : ℕ) → n ≡ critical_by t q → (at.level ≡ 0 → ⊥) → m ≡ n → m ≡ critical_by t (q + 1)
  critical_away n m e z f = f ∙ e ∙ sym (count_same (λ i. is_critical (row t i)) q none)
    where
      none : is_critical (row t q) ≡ false
      none =
          fails (is_critical (row t q))
          (λ h. z
          (ap (λ (r : Row). r.level) is ∙ (sound-row t s q l).level_none (eqb-true (row t q).location 30 h)))

  -- where it does not compete
  pub critical_out : (n m : ℕ) → n ≡ critical_by t q → competes at ≡ false → m ≡ n → m ≡ critical_by t (q + 1)
  critical_out n m e c f =
      f ∙ e ∙ sym (count_same (λ i. is_critical (row t i)) q (out_critical (row t q) (competes_is false c)))

  pub below_out : (a b : List ℕ) → a ≡ series_of below_from t q → competes at ≡ false → b ≡ a
      → b ≡ series_of below_from t (q + 1)
  below_out a b e c f = f ∙ e ∙ series_same below_from t q (below_from_out (row t q) (competes_is false c))

  pub held_out : (a b : List ℕ) → a ≡ series_of held_from t q → competes at ≡ false → b ≡ a
      → b ≡ series_of held_from t (q + 1)
  held_out a b e c f = f ∙ e ∙ series_same held_from t q (held_from_out (row t q) (competes_is false c))

-- no level is above 15, so that count 15 leaves out none who competes
pub all_compete : (t : Table) → table_refusal t ≡ 0
    → get_or (series_of below_from t (length t)) 15 0 ≡ waiting t + critical t
all_compete t s =
    up_to_at (reached_by below_from t n) 16 15 (omega arith)
    ∙ count_cong (reaches below_from t 15) (λ q. is_below n (row t q)) n (λ q l. same (row t q) (low q l))
    ∙ competing_parts t s
  where
    n : ℕ
    n = length t

    low : (q : ℕ) → q < n → (row t q).level < n
    low q l = (sound-row t s q l).level_low

    same : (r : Row) → r.level < n → leb (below_from r) 15 ≡ is_below n r
    same r l =
        below_reached r 15 (omega arith)
        ∙ ap (λ (b : Bool). competes r && b)
        (lt-ltb r.level 16 (omega (arith, l, sound_few t s)) ∙ sym (lt-ltb r.level n l))
