-- Who is on schedule to leave level k, and the start and the end of a phase, in which all but one of them leave it.
--
--   Leaving n v j q r    <=>  r, of process q of n, is due to leave its level within j; or it has pushed, and its turn
--                             cell, which holds v, names it: then it may be held back.
--   OnTime n v k j q r   <=>  r competes below level k, or at level k and is leaving it, where turn[k] is v.
--   is_on_time             ==   the same as a test: on_time_of_test, test_of_on_time.
--   on_time n t k f       ==   how many of n processes are on time, process q having f q rounds.
--   under n t k          ==   how many of n processes compete below level k.
--   on_time_mono               who stays on time is counted still
--   phase_starts              with a phase left everybody below level k + 1 is on schedule to leave level k
--   phase_ends                with no round left all but one have left it
--
-- Assumes nothing.
use Prim.Native.Nat.{ℕ, suc, ◌+◌, ◌≤◌, ◌<◌}
use mathlib.Core.Path.{◌≡◌, sym, ap}
use mathlib.Core.Bool.{Bool, true, ◌&&◌, ◌||◌, not, and-eq-true_iff, or-eq-true_iff}
use mathlib.Core.Logic.Or
use mathlib.Core.Logic.{◌⊎◌, inl, inr}
use native.Mathlib.Decide.{dec_lt}
use native.Mathlib.Omega.{arith}
use lib.Dec.{eqb, leb, ltb}
use borrow.Author.Tests.{eqb-true, eqb-false, leb-true, ltb-true, eq-eqb, ne_eqb, le-leb, lt-ltb, not-true}
use Rattle.counting.specs.Sums.{count}
use Rattle.counting.proofs.TestLaws.{or_cases}
use Rattle.counting.proofs.CountLaws.{count_mono, count_one}
use Rattle.machine.specs.Tables.{Table, row, competes}
use Rattle.machine.specs.Census.{is_below}
use Rattle.machine.specs.declared.Row.{Row}
use Rattle.silence.proofs.Steady.{Quiet}
use Rattle.silence.proofs.Due.{due, phase}
use Rattle.silence.proofs.QuietLaws.{due_most, due_some}

abbrev pub Leaving : ℕ → ℕ → ℕ → ℕ → Row → Type 0
Leaving n v j q r = (due n r ≤ j) ⊎ ((r.bb ≡ 0 → ⊥) × (v ≡ q))

abbrev pub OnTime : ℕ → ℕ → ℕ → ℕ → ℕ → Row → Type 0
OnTime n v k j q r = (competes r ≡ true) × ((r.level < k) ⊎ ((r.level ≡ k) × Leaving n v j q r))

-- ---- the tests

module _ (n v k j q : ℕ) (r : Row) where
  abbrev is_held_back : Bool
  is_held_back = not (eqb r.bb 0) && eqb v q

  abbrev is_leaving : Bool
  is_leaving = leb (due n r) j || is_held_back

  abbrev is_at_level : Bool
  is_at_level = eqb r.level k && is_leaving

  abbrev pub is_on_time : Bool
  is_on_time = competes r && (ltb r.level k || is_at_level)

  leaving_of_test : is_leaving ≡ true → Leaving n v j q r
  leaving_of_test h = go (or_cases (leb (due n r) j) is_held_back h)
    where
      go : (leb (due n r) j ≡ true) ⊎ (is_held_back ≡ true) → Leaving n v j q r
      go (inl e) = inl (leb-true _ _ e)
      go (inr e) =
          let both = (and-eq-true_iff (not (eqb r.bb 0)) (eqb v q)).0 e in
          inr (eqb-false _ _ (not-true _ both.0), eqb-true _ _ both.1)

  pub on_time_of_test : is_on_time ≡ true → OnTime n v k j q r
  on_time_of_test h =
      let both = (and-eq-true_iff (competes r) (ltb r.level k || is_at_level)).0 h in
      (both.0, go (or_cases (ltb r.level k) is_at_level both.1))
    where
      go : (ltb r.level k ≡ true) ⊎ (is_at_level ≡ true) → (r.level < k) ⊎ ((r.level ≡ k) × Leaving n v j q r)
      go (inl e) = inl (ltb-true _ _ e)
      go (inr e) =
          let both = (and-eq-true_iff (eqb r.level k) is_leaving).0 e in
          inr (eqb-true _ _ both.0, leaving_of_test both.1)

  test_of_leaving : Leaving n v j q r → is_leaving ≡ true
  test_of_leaving (inl h) = (or-eq-true_iff _ is_held_back).1 (Or.inl (le-leb _ _ h))
  test_of_leaving (inr (b, e)) =
      let held = (and-eq-true_iff _ _).1 (ap not (ne_eqb _ _ b), eq-eqb _ _ e) in
      (or-eq-true_iff (leb (due n r) j) _).1 (Or.inr held)

  pub test_of_on_time : OnTime n v k j q r → is_on_time ≡ true
  test_of_on_time (c, inl h) = (and-eq-true_iff _ _).1 (c, (or-eq-true_iff _ is_at_level).1 (Or.inl (lt-ltb _ _ h)))
  test_of_on_time (c, inr (e, h)) =
      let there = (and-eq-true_iff _ _).1 (eq-eqb _ _ e, test_of_leaving h) in
      (and-eq-true_iff _ _).1 (c, (or-eq-true_iff (ltb r.level k) _).1 (Or.inr there))

-- ---- the counts

abbrev pub on_time : ℕ → Table → ℕ → (ℕ → ℕ) → ℕ
on_time n t k f = count (λ q. is_on_time n (row t k).turn k (f q) q (row t q)) n

abbrev pub under : ℕ → Table → ℕ → ℕ
under n t k = count (λ q. is_below k (row t q)) n

pub below_of_test : (k : ℕ) (r : Row) → is_below k r ≡ true → (competes r ≡ true) × (r.level < k)
below_of_test k r h =
    let both = (and-eq-true_iff (competes r) (ltb r.level k)).0 h in (both.0, ltb-true _ _ both.1)

pub test_of_below : (k : ℕ) (r : Row) → competes r ≡ true → r.level < k → is_below k r ≡ true
test_of_below k r c h = (and-eq-true_iff _ _).1 (c, lt-ltb _ _ h)

-- who is on time in t with f is on time in u with g
pub on_time_mono : (n : ℕ) (t u : Table) (k : ℕ) (f g : ℕ → ℕ)
    → ((q : ℕ) → q < n → OnTime n (row t k).turn k (f q) q (row t q) → OnTime n (row u k).turn k (g q) q (row u q))
    → on_time n t k f ≤ on_time n u k g
on_time_mono n t u k f g h =
    count_mono (λ q. is_on_time n (row t k).turn k (f q) q (row t q))
    (λ q. is_on_time n (row u k).turn k (g q) q (row u q)) n
    (λ q l e. test_of_on_time n _ k (g q) q (row u q) (h q l (on_time_of_test n _ k (f q) q (row t q) e)))

-- ---- a phase

module _ (n : ℕ) (t : Table) (h : Quiet n t) (k : ℕ) where
  pub phase_starts : under n t (suc k) ≤ on_time n t k (λ q. phase n)
  phase_starts =
      count_mono (λ q. is_below (suc k) (row t q)) (λ q. is_on_time n (row t k).turn k (phase n) q (row t q)) n
      (λ q l e. let b = below_of_test (suc k) (row t q) e in on q b.0 b.1 (dec_lt (row t q).level k))
    where
      on : (q : ℕ)
          → competes (row t q) ≡ true
          → (row t q).level < suc k
          → Dec ((row t q).level < k)
          → is_on_time n (row t k).turn k (phase n) q (row t q) ≡ true
      on q c i (yes j) = test_of_on_time n _ k _ q (row t q) (c, inl j)
      on q c i (no nj) =
          test_of_on_time n _ k _ q (row t q) (c, inr (omega (arith, nj), inl (due_most n t h q c)))

  -- who has no round left has left level k, but for the one that turn[k] names
  pub phase_ends : (i : ℕ) → i + 1 ≤ on_time n t k (λ q. 0) → i ≤ under n t k
  phase_ends i l =
      let most =
      count_one (λ q. is_on_time n (row t k).turn k 0 q (row t q)) (λ q. is_below k (row t q)) n (row t k).turn
      (λ q j ne e. gone q ne (on_time_of_test n _ k 0 q (row t q) e)) in
      omega arith
    where
      gone : (q : ℕ) → (q ≡ (row t k).turn → ⊥) → OnTime n (row t k).turn k 0 q (row t q) → is_below k (row t q) ≡ true
      gone q ne (c, inl i) = test_of_below k (row t q) c i
      gone q ne (c, inr (e, inl d)) = absurd (omega (arith, due_some n t h q c))
      gone q ne (c, inr (e, inr (b, z))) = absurd (ne (sym z))
