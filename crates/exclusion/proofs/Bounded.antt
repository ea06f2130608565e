-- The bound J1 of section 3.5 of the paper on a table, and how a bound passes from table to table.
--
--   reaching k t    ==   how many processes reach k, the size of B(k).
--   Stopper t k     <=>  some process stops at k: T(k) is not empty.
--   Bounded t k     <=>  at most k processes reach k, or k + 1 do and one of them stops there.
--   bounded_held    a bounded table holds at most k
--   bounded_over, bounded_few, bounded_stop, bounded_leave    what makes a table bounded
--
-- Assumes nothing.
use Prim.Native.Nat.{ℕ, ◌+◌, ◌≤◌}
use mathlib.Core.Path.{◌≡◌, refl, sym, ap, subst}
use mathlib.Core.Bool.{Bool, true}
use mathlib.Core.Logic.{◌⊎◌, inl, inr}
use native.Mathlib.Nat.{le_trans}
use native.Mathlib.Omega.{arith}
use lib.ListN.{length}
use Rattle.counting.specs.Sums.{count}
use Rattle.counting.proofs.TestLaws.{fails}
use Rattle.counting.proofs.CountLaws.{count_mono, count_strict}
use Rattle.machine.specs.Tables.{Table, row, competes}
use Rattle.machine.specs.Census.{count_rows, is_held, held}
use Rattle.machine.specs.declared.Row.{Row}
use Rattle.machine.proofs.Assignments.{Becomes, other_rows_keep, competes_within}
use Rattle.exclusion.proofs.Reaching.{Held, Reaches, Stops, is_reaching, held_of_is_held, is_held_of_held}
use Rattle.exclusion.proofs.Reaching.{reaches_of_is_reaching, is_reaching_of_reaches, reaches_competes}
use Rattle.exclusion.proofs.Reaching.{stops_reaches, stops_not_held}

abbrev pub reaching : ℕ → Table → ℕ
reaching k t = count_rows (is_reaching k) t

abbrev pub Stopper : Table → ℕ → Type 0
Stopper t k = (q : ℕ) × Stops (row t k).turn k q (row t q)

abbrev pub Bounded : Table → ℕ → Type 0
Bounded t k = (reaching k t ≤ k) ⊎ ((reaching k t ≤ k + 1) × Stopper t k)

-- rows of u with P, each of which has Q in t, are no more than those
pub count_rows_mono : (P Q : Row → Bool) (t u : Table)
    → length u ≡ length t
    → ((q : ℕ) → P (row u q) ≡ true → Q (row t q) ≡ true)
    → count_rows P u ≤ count_rows Q t
count_rows_mono P Q t u e h =
    subst (λ (n : ℕ). count (λ q. P (row u q)) n ≤ count_rows Q t) (sym e)
    (count_mono (λ q. P (row u q)) (λ q. Q (row t q)) (length t) (λ q l. h q))

held_reaching : (k : ℕ) (r : Row) → is_held k r ≡ true → is_reaching k r ≡ true
held_reaching k r h = is_reaching_of_reaches k r (inl (held_of_is_held k r h))

-- J0: a bounded table holds at most k
pub bounded_held : (t : Table) (k : ℕ) → Bounded t k → held k t ≤ k
bounded_held t k (inl h) =
    le_trans (count_rows_mono (is_held k) (is_reaching k) t t refl (λ q. held_reaching k (row t q))) h
bounded_held t k (inr (h, (q, s))) =
    let fewer : held k t + 1 ≤ reaching k t =
    count_strict (λ q. is_held k (row t q)) (λ q. is_reaching k (row t q)) (length t) q
    (λ q l. held_reaching k (row t q)) (competes_within t q s.0)
    (fails (is_held k (row t q)) (λ a. stops_not_held (row t k).turn k q (row t q) s (held_of_is_held k (row t q) a)))
    (is_reaching_of_reaches k (row t q) (stops_reaches (row t k).turn k q (row t q) s)) in
    omega arith

-- ---- what makes a table bounded

-- a table in which no more than k compete
pub bounded_few : (u : Table) (k : ℕ) → count_rows competes u ≤ k → Bounded u k
bounded_few u k h =
    let competing : (q : ℕ) → is_reaching k (row u q) ≡ true → competes (row u q) ≡ true =
    λ q i. reaches_competes k (row u q) (reaches_of_is_reaching k (row u q) i) in
    inl (le_trans (count_rows_mono (is_reaching k) competes u u refl competing) h)

module _ (t u : Table) (k : ℕ) (e : length u ≡ length t) where
  -- no more reach k, and a stopper leaves one
  pub bounded_over : ((q : ℕ) → Reaches k (row u q) → Reaches k (row t q))
      → (Stopper t k → Stopper u k)
      → Bounded t k
      → Bounded u k
  bounded_over f w b =
      let m : reaching k u ≤ reaching k t =
      count_rows_mono (is_reaching k) (is_reaching k) t u e
      (λ q h. is_reaching_of_reaches k (row t q) (f q (reaches_of_is_reaching k (row u q) h))) in
      go m b
    where
      go : reaching k u ≤ reaching k t → Bounded t k → Bounded u k
      go m (inl h) = inl (le_trans m h)
      go m (inr (h, s)) = inr (le_trans m h, w s)

  -- who reaches k was held at k + 1, and one of them stops
  pub bounded_stop : ((q : ℕ) → Reaches k (row u q) → Held (k + 1) (row t q))
      → Stopper u k
      → Bounded t (k + 1)
      → Bounded u k
  bounded_stop f s b =
      let m : reaching k u ≤ held (k + 1) t =
      count_rows_mono (is_reaching k) (is_held (k + 1)) t u e
      (λ q h. is_held_of_held (k + 1) (row t q) (f q (reaches_of_is_reaching k (row u q) h))) in
      inr (le_trans m (bounded_held t (k + 1) b), s)

  -- who reaches k was held at k + 1, and so was p, which does not reach k
  pub bounded_leave : (p : ℕ)
      → ((q : ℕ) → Reaches k (row u q) → (q ≡ p → ⊥) × Held (k + 1) (row t q))
      → Held (k + 1) (row t p)
      → Bounded t (k + 1)
      → Bounded u k
  bounded_leave p f h b =
      let fewer : count (λ q. is_reaching k (row u q)) (length t) + 1 ≤ held (k + 1) t =
      count_strict (λ q. is_reaching k (row u q)) (λ q. is_held (k + 1) (row t q)) (length t) p
      (λ q l i. is_held_of_held (k + 1) (row t q) (f q (reaches_of_is_reaching k (row u q) i)).1)
      (competes_within t p h.0)
      (fails (is_reaching k (row u p)) (λ i. (f p (reaches_of_is_reaching k (row u p) i)).0 refl))
      (is_held_of_held (k + 1) (row t p) h) in
      let same : reaching k u ≡ count (λ q. is_reaching k (row u q)) (length t) =
      ap (count (λ q. is_reaching k (row u q))) e in
      inl (omega (arith, bounded_held t (k + 1) b))

-- ---- one row changes

module _ (t u : Table) (p : ℕ) (s : Row) (k : ℕ) (b : Becomes t p (λ r. r) s u) where
  -- a stopper stays one where turn[k] is kept and p stops if it did
  pub stopper_kept : (row u k).turn ≡ (row t k).turn
      → (Stops (row t k).turn k p (row t p) → Stops (row t k).turn k p s)
      → Stopper t k
      → Stopper u k
  stopper_kept e f (q, w) = (
    q,
    subst (λ (v : ℕ). Stops v k q (row u q)) (sym e)
        (other_rows_keep (λ q r. Stops (row t k).turn k q (row t q) → Stops (row t k).turn k q r) b f
        (λ q ne h. h) q w),
  )

  -- p itself is one
  pub stopper_own : Stops (row u k).turn k p s → Stopper u k
  stopper_own w = (p, subst (Stops (row u k).turn k p) (sym b.own) w)

  -- the row of p reaches k only if it did, and a stopper leaves one
  pub bounded_row : (Reaches k s → Reaches k (row t p)) → (Stopper t k → Stopper u k) → Bounded t k → Bounded u k
  bounded_row f w =
      bounded_over t u k b.same_size
      (other_rows_keep (λ q r. Reaches k r → Reaches k (row t q)) b f (λ q ne h. h)) w
