-- Laws of passes: counts in range, raised by a GO at 20, cleared by a GO at 30.
--
--   SoundPasses n q l  <=>  the counts l are in range in row q of a table of n processes, as plain facts.
--   passes_facts, passes_true    `sound_passes` says so
--   none_sound, raised-sound, cleared_sound    no passes, one more over some processes, and none over one, are in range
--   raised_at, cleared_at, cleared_own    what the counts are then
--   raisable_at, clear_none    counts that have room for one more; counts that are 0
--
-- Assumes nothing.
use Prim.Native.Nat.{ℕ, zero, suc, ◌+◌, ◌^◌, ◌≤◌, ◌<◌}
use mathlib.Core.Path.{◌≡◌, refl, sym, ap, ◌∙◌, subst}
use mathlib.Core.Bool.{Bool, true, false, ◌&&◌, ◌||◌, not, and-eq-true_iff, or-eq-true_iff, false≢true}
use mathlib.Core.Logic.Or
use mathlib.Core.Logic.{◌≢◌, ⊎_elim}
use mathlib.Core.List.{List, ◌∷◌}
use native.Mathlib.Decide.{ℕ_discrete, dec_lt}
use native.Mathlib.Omega.{arith}
use lib.Dec.{eqb, leb, ltb}
use lib.ListN.{length, get_or, set, replicate, length-set, get_or-replicate, get_or-eq_default}
use lib.Seq.{get_or-set_same, get_or-set_other}
use borrow.Author.Tests.{eqb-true, leb-true, ltb-true, eq-eqb, ne_eqb, le-leb, lt-ltb}
use Rattle.counting.specs.Sums.{bit}
use Rattle.counting.specs.Sets.{has}
use Rattle.counting.specs.Ranges.{every}
use Rattle.counting.proofs.TestLaws.{or_cases}
use Rattle.counting.proofs.SetLaws.{has_over}
use Rattle.counting.proofs.RangeLaws.{up_to_length, up_to_at, every_at, every_all}
use Rattle.machine.specs.Rows.{no_passes}
use Rattle.machine.specs.Tables.{count_limit, sound_count, sound_passes, clear}
use Rattle.machine.specs.Steps.{count_after, raised, raisable}
use Rattle.machine.specs.System.{incremented}

pub record SoundPasses (n q : ℕ) (l : List ℕ) : Type 0 where
  pub sixteen : length l ≡ 16
  pub low : (i : ℕ) → get_or l i 0 ≤ 65535
  pub own_none : get_or l q 0 ≡ 0
  pub rest_none : (i : ℕ) → n ≤ i → get_or l i 0 ≡ 0

-- what a count past the sixteenth is
past : (l : List ℕ) (i : ℕ) → length l ≡ 16 → 16 ≤ i → get_or l i 0 ≡ 0
past l i e h = get_or-eq_default l 0 (omega arith)

module _ (n q : ℕ) (l : List ℕ) where
  pub passes_facts : sound_passes n q l ≡ true → SoundPasses n q l
  unfolding sound_passes
  passes_facts h =
      let both = (and-eq-true_iff (eqb (length l) 16) (every (sound_count n q l) 16)).0 h in
      let long : length l ≡ 16 = eqb-true _ _ both.0 in
      let each = every_at (sound_count n q l) 16 both.1 in
      record {
        sixteen = long;
        low = λ i. low i long each (dec_lt i 16);
        own_none = none q long each (λ k e. absurd (e refl)) (dec_lt q 16);
        rest_none = λ i k. none i long each (λ j e. absurd (omega (arith, j, k))) (dec_lt i 16);
      }
    where
      low : (i : ℕ) → length l ≡ 16 → ((i : ℕ) → i < 16 → sound_count n q l i ≡ true) → Dec (i < 16)
          → get_or l i 0 ≤ 65535
      low i long each (yes k) =
          leb-true _ _
          ((and-eq-true_iff (leb (get_or l i 0) count_limit) (eqb (get_or l i 0) 0 || (ltb i n && not (eqb i q)))).0
          (each i k)).0
      low i long each (no k) = omega (arith, past l i long (omega (arith, k)))

      none : (i : ℕ)
          → length l ≡ 16
          → ((i : ℕ) → i < 16 → sound_count n q l i ≡ true)
          → (i < n → i ≢ q → get_or l i 0 ≡ 0)
          → Dec (i < 16)
          → get_or l i 0 ≡ 0
      none i long each f (no k) = past l i long (omega (arith, k))
      none i long each f (yes k) =
          let b = ((and-eq-true_iff (leb (get_or l i 0) count_limit) (eqb (get_or l i 0) 0 || (ltb i n && not (eqb i q)))).0
          (each i k)).1 in
          ⊎_elim (λ z. eqb-true _ _ z)
          (λ c.
          let both = (and-eq-true_iff (ltb i n) (not (eqb i q))).0 c in
          f (ltb-true _ _ both.0) (apart i both.1))
          (or_cases (eqb (get_or l i 0) 0) (ltb i n && not (eqb i q)) b)
        where
          apart : (i : ℕ) → not (eqb i q) ≡ true → i ≢ q
          apart i h e = false≢true (ap not (sym (eq-eqb i q e)) ∙ h)

  pub passes_true : SoundPasses n q l → sound_passes n q l ≡ true
  unfolding sound_passes
  passes_true s =
      (and-eq-true_iff (eqb (length l) 16) (every (sound_count n q l) 16)).1 (
        eq-eqb _ _ s.sixteen,
        every_all (sound_count n q l) 16 (λ i k. fits i (ℕ_discrete (get_or l i 0) 0) (dec_lt i n) (ℕ_discrete i q)),
      )
    where
      with_low : (i : ℕ) → (eqb (get_or l i 0) 0 || (ltb i n && not (eqb i q))) ≡ true → sound_count n q l i ≡ true
      with_low i h =
          (and-eq-true_iff (leb (get_or l i 0) count_limit) (eqb (get_or l i 0) 0 || (ltb i n && not (eqb i q)))).1
          (le-leb _ _ (s.low i), h)

      fits : (i : ℕ) → Dec (get_or l i 0 ≡ 0) → Dec (i < n) → Dec (i ≡ q) → sound_count n q l i ≡ true
      fits i (yes z) b c = with_low i ((or-eq-true_iff (eqb (get_or l i 0) 0) _).1 (Or.inl (eq-eqb _ _ z)))
      fits i (no nz) (no b) c = absurd (nz (s.rest_none i (omega (arith, b))))
      fits i (no nz) (yes b) (yes c) = absurd (nz (ap (λ (j : ℕ). get_or l j 0) c ∙ s.own_none))
      fits i (no nz) (yes b) (no c) =
          with_low i
          ((or-eq-true_iff (eqb (get_or l i 0) 0) _).1
          (Or.inr ((and-eq-true_iff (ltb i n) (not (eqb i q))).1 (lt-ltb _ _ b, ap not (ne_eqb _ _ c)))))

-- ---- no passes

pub none_sound : (n q : ℕ) → SoundPasses n q no_passes
none_sound n q =
    record { sixteen = refl; low = λ i. omega (arith, zeros i); own_none = zeros q; rest_none = λ i k. zeros i }
  where
    zeros : (i : ℕ) → get_or no_passes i 0 ≡ 0
    zeros i = go (dec_lt i 16)
      where
        go : Dec (i < 16) → get_or no_passes i 0 ≡ 0
        go (yes k) = get_or-replicate 16 i 0 0 k
        go (no k) = past no_passes i refl (omega (arith, k))

-- the sixteen counts of a row that has none
pub clear_none : (l : List ℕ) → clear l ≡ true → (i : ℕ) → i < 16 → get_or l i 0 ≡ 0
unfolding clear
clear_none l h i k = eqb-true _ _ (every_at (λ j. eqb (get_or l j 0) 0) 16 h i k)

-- ---- one more over some processes

module _ (c : ℕ) (l : List ℕ) where
  pub raised-length : length (raised c l) ≡ 16
  unfolding raised
  raised-length = up_to_length (count_after c l) 16

  pub raised_at : (i : ℕ) → i < 16 → get_or (raised c l) i 0 ≡ count_after c l i
  unfolding raised
  raised_at i k = up_to_at (count_after c l) 16 i k

  pub raisable_at : raisable c l ≡ true → (i : ℕ) → i < 16 → count_after c l i ≤ 65535
  unfolding raisable
  raisable_at h i k = leb-true _ _ (every_at (λ j. leb (count_after c l j) count_limit) 16 h i k)

pub raised-sound : (n p c : ℕ) (l : List ℕ)
    → SoundPasses n p l
    → c < 2 ^ n
    → has c p ≡ false
    → raisable c l ≡ true
    → SoundPasses n p (raised c l)
raised-sound n p c l s fits out room =
    record {
      sixteen = raised-length c l;
      low = λ i. low i (dec_lt i 16);
      own_none = none p s.own_none out (dec_lt p 16);
      rest_none = λ i k. none i (s.rest_none i k) (has_over c n i fits k) (dec_lt i 16);
    }
  where
    low : (i : ℕ) → Dec (i < 16) → get_or (raised c l) i 0 ≤ 65535
    low i (yes k) = omega (arith, raised_at c l i k, raisable_at c l room i k)
    low i (no k) = omega (arith, past (raised c l) i (raised-length c l) (omega (arith, k)))

    none : (i : ℕ) → get_or l i 0 ≡ 0 → has c i ≡ false → Dec (i < 16) → get_or (raised c l) i 0 ≡ 0
    none i z h (yes k) =
        raised_at c l i k ∙ ap (λ (b : Bool). get_or l i 0 + bit b) h ∙ omega (arith, z)
    none i z h (no k) = past (raised c l) i (raised-length c l) (omega (arith, k))

-- the same of the paper's counts
pub incremented-sound : (n p c : ℕ) (l : List ℕ)
    → SoundPasses n p l
    → c < 2 ^ n
    → has c p ≡ false
    → raisable c l ≡ true
    → SoundPasses n p (incremented c l)
unfolding raised
incremented-sound = raised-sound

-- ---- none over one process

-- the other counts stay
pub cleared_at : (l : List ℕ) (p i : ℕ) → i ≢ p → get_or (set l p 0) i 0 ≡ get_or l i 0
cleared_at l p i ne = get_or-set_other l p i 0 0 ne

-- and that one is 0, also past the end
pub cleared_own : (l : List ℕ) (p : ℕ) → get_or (set l p 0) p 0 ≡ 0
cleared_own l p = go (dec_lt p (length l))
  where
    go : Dec (p < length l) → get_or (set l p 0) p 0 ≡ 0
    go (yes k) = get_or-set_same l p 0 0 k
    go (no k) = get_or-eq_default (set l p 0) 0 (omega (arith, length-set l p 0, k))

pub cleared_sound : (n q p : ℕ) (l : List ℕ) → SoundPasses n q l → SoundPasses n q (set l p 0)
cleared_sound n q p l s =
    record {
      sixteen = length-set l p 0 ∙ s.sixteen;
      low = λ i. keeps i (λ v. v ≤ 65535) (omega arith) (s.low i);
      own_none = keeps q (λ v. v ≡ 0) refl s.own_none;
      rest_none = λ i k. keeps i (λ v. v ≡ 0) refl (s.rest_none i k);
    }
  where
    keeps : (i : ℕ) (P : ℕ → Type 0) → P 0 → P (get_or l i 0) → P (get_or (set l p 0) i 0)
    keeps i P z h = go (ℕ_discrete i p)
      where
        go : Dec (i ≡ p) → P (get_or (set l p 0) i 0)
        go (yes e) = subst (λ (j : ℕ). P (get_or (set l p 0) j 0)) (sym e) (subst P (sym (cleared_own l p)) z)
        go (no ne) = subst P (sym (cleared_at l p i ne)) h

-- where there are none
pub none_cleared : (p : ℕ) → set no_passes p 0 ≡ no_passes
none_cleared p = go 16 p
  where
    go : (n p : ℕ) → set {A = ℕ} (replicate n 0) p 0 ≡ replicate n 0
    go zero p = refl
    go (suc n) zero = refl
    go (suc n) (suc p) = ap (λ (l : List ℕ). 0 ∷ l) (go n p)
