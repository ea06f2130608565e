-- Laws of lists and tests over the numbers below n.
--
--   up_to_cong, up_to_length, up_to_at, up_to_all   the list of g 0, g 1, ..; a list is that of its places
--   every_cong, every_at, every_all, every_fails    a test of all numbers below n, and of one of them
--   some_cong, some_one, none_next, one_some                   a test of any number below n
--   filled ..                                   an array that is filled with g 0, g 1, ..
--
-- Assumes nothing.
use Prim.Native.Nat.{ℕ, zero, suc, ◌+◌, ◌≤◌, ◌<◌}
use mathlib.Core.Bool.{Bool, true, false, ◌&&◌, ◌||◌, and-eq-true_iff, or-eq-true_iff, false≢true}
use mathlib.Core.Path.{◌≡◌, refl, ap, ap₂, sym, ◌∙◌}
use mathlib.Core.Logic.Or
use mathlib.Core.Logic.{⊎_elim}
use mathlib.Core.List.{List, [], ◌∷◌, ◌++◌}
use native.Mathlib.Decide.{ℕ_discrete}
use native.Mathlib.Omega.{arith}
use native.Mathlib.Numerals.{add-one}
use lib.ListN.{length, get_or, set, replicate, length-append, length-replicate, get_or-append}
use lib.Seq.{get_or_at, ext_get_or}
use Rattle.counting.proofs.PlacingLaws.{begun, begun_start, begun_next, begun_end, placed_whole}
use Rattle.counting.specs.Ranges.{up_to, every, some}
use Rattle.counting.proofs.TestLaws.{or_cases}

pub up_to_cong : (f g : ℕ → ℕ) (n : ℕ) → ((i : ℕ) → i < n → f i ≡ g i) → up_to f n ≡ up_to g n
unfolding up_to
up_to_cong f g zero h = refl
up_to_cong f g (suc n) h =
    ap₂ (λ (l : List ℕ) (v : ℕ). l ++ v ∷ []) (up_to_cong f g n (λ i l. h i (omega arith))) (h n (omega arith))

module _ (g : ℕ → ℕ) where
  pub up_to_length : (n : ℕ) → length (up_to g n) ≡ n
  unfolding up_to
  up_to_length zero = refl
  up_to_length (suc n) = length-append (up_to g n) (g n ∷ []) ∙ ap (λ (i : ℕ). i + 1) (up_to_length n) ∙ add-one n

  pub up_to_at : (n i : ℕ) → i < n → get_or (up_to g n) i 0 ≡ g i
  unfolding up_to
  up_to_at zero i l = absurd (omega arith)
  up_to_at (suc n) i l = go (ℕ_discrete i n) (up_to_at n i)
    where
      go : Dec (i ≡ n) → (i < n → get_or (up_to g n) i 0 ≡ g i) → get_or (up_to g n ++ g n ∷ []) i 0 ≡ g i
      go (yes e) before = get_or_at (up_to g n) (g n) [] 0 i (up_to_length n ∙ sym e) ∙ ap g (sym e)
      go (no ne) before =
          get_or-append (up_to g n) (g n ∷ []) 0 i (omega (arith, ne, up_to_length n)) ∙ before (omega (arith, ne))

-- a list of n numbers is that of its places
pub up_to_all : (l : List ℕ) (n : ℕ) → length l ≡ n → up_to (λ i. get_or l i 0) n ≡ l
up_to_all l n e =
    ext_get_or 0 (up_to (λ i. get_or l i 0) n) l (up_to_length (λ i. get_or l i 0) n ∙ sym e)
    (λ i h. up_to_at (λ j. get_or l j 0) n i (omega (arith, up_to_length (λ j. get_or l j 0) n)))

-- ---- tests

pub every_cong : (P Q : ℕ → Bool) (n : ℕ) → ((i : ℕ) → i < n → P i ≡ Q i) → every P n ≡ every Q n
unfolding every
every_cong P Q zero h = refl
every_cong P Q (suc n) h =
    ap₂ (λ (a b : Bool). a && b) (every_cong P Q n (λ i l. h i (omega arith))) (h n (omega arith))

module _ (P : ℕ → Bool) where
  pub every_at : (n : ℕ) → every P n ≡ true → (i : ℕ) → i < n → P i ≡ true
  unfolding every
  every_at zero h i l = absurd (omega arith)
  every_at (suc n) h i l =
      let both = (and-eq-true_iff (every P n) (P n)).0 h in
      let go : Dec (i ≡ n) → P i ≡ true =
      elim [ yes e ↦ ap P e ∙ both.1 | no ne ↦ every_at n both.0 i (omega (arith, ne)) ] in
      go (ℕ_discrete i n)

  pub every_all : (n : ℕ) → ((i : ℕ) → i < n → P i ≡ true) → every P n ≡ true
  unfolding every
  every_all zero f = refl
  every_all (suc n) f =
      (and-eq-true_iff (every P n) (P n)).1 (every_all n (λ i l. f i (omega arith)), f n (omega arith))

  -- one of them fails
  pub every_fails : (n : ℕ) → every P n ≡ false → (i : ℕ) × (i < n) × (P i ≡ false)
  unfolding every
  every_fails zero h = absurd (false≢true (sym h))
  every_fails (suc n) h =
      let go : (a b : Bool)
      → every P n ≡ a
      → P n ≡ b
      → (a && b) ≡ false
      → (every P n ≡ false → (i : ℕ) × (i < n) × (P i ≡ false))
      → (i : ℕ) × (i < suc n) × (P i ≡ false) =
      λ a b. elim a as (λ a. every P n ≡ a → P n ≡ b → (a && b) ≡ false
      → (every P n ≡ false → (i : ℕ) × (i < n) × (P i ≡ false))
      → (i : ℕ) × (i < suc n) × (P i ≡ false)) [
        | true ↦ λ x y z f. (n, omega arith, y ∙ z)
        | false ↦ λ x y z f. let g = f x in (g.0, omega (arith, g.1), g.2)
      ] in
      go (every P n) (P n) refl refl h (every_fails n)

-- ---- a test of any

pub some_cong : (P Q : ℕ → Bool) (n : ℕ) → ((i : ℕ) → i < n → P i ≡ Q i) → some P n ≡ some Q n
unfolding some
some_cong P Q zero h = refl
some_cong P Q (suc n) h =
    ap₂ (λ (a b : Bool). a || b) (some_cong P Q n (λ i l. h i (omega arith))) (h n (omega arith))

module _ (P : ℕ → Bool) where
  pub some_one : (n : ℕ) → some P n ≡ true → (i : ℕ) × (i < n) × (P i ≡ true)
  unfolding some
  some_one zero h = absurd (false≢true h)
  some_one (suc n) h =
      ⊎_elim (λ e. let g = some_one n e in (g.0, omega (arith, g.1), g.2)) (λ e. (n, omega arith, e))
      (or_cases (some P n) (P n) h)

  -- none so far, and not the next
  pub none_next : (n : ℕ) → some P n ≡ false → P n ≡ false → some P (n + 1) ≡ false
  unfolding some
  none_next n h e = ap (some P) (add-one n) ∙ rw (h, e) refl

  pub one_some : (n i : ℕ) → i < n → P i ≡ true → some P n ≡ true
  unfolding some
  one_some zero i l h = absurd (omega arith)
  one_some (suc n) i l h =
      let go : Dec (i ≡ n) → (some P n || P n) ≡ true =
      elim [
        | yes e ↦ (or-eq-true_iff (some P n) (P n)).1 (Or.inr (ap P (sym e) ∙ h))
        | no ne ↦ (or-eq-true_iff (some P n) (P n)).1 (Or.inl (one_some n i (omega (arith, ne)) h))
      ] in
      go (ℕ_discrete i n)

-- ---- an array of m numbers that is filled with those of g

module _ (g : ℕ → ℕ) (m : ℕ) where
  -- the first i are those of g, the others 0
  abbrev pub filled : ℕ → List ℕ
  filled i = begun (replicate m 0) 0 (up_to g m) i

  pub filled_start : replicate m 0 ≡ filled 0
  filled_start = begun_start (replicate m 0) 0 (up_to g m)

  pub filled_next : (i v : ℕ) (a : List ℕ) → i < m → v ≡ g i → a ≡ filled i → set a i v ≡ filled (i + 1)
  filled_next i v a l e is =
      let long = length-replicate {A = ℕ} m 0 in
      let count = up_to_length g m in
      ap (λ (b : List ℕ). set b i v) is
      ∙ begun_next (replicate m 0) 0 (up_to g m) (omega arith) i (i + 1) i v 0 (omega arith) refl (omega arith)
      (e ∙ sym (up_to_at g m i l))

  pub filled_end : (i : ℕ) → m ≤ i → filled i ≡ up_to g m
  filled_end i h =
      let count = up_to_length g m in
      begun_end (replicate m 0) 0 (up_to g m) i (omega arith)
      ∙ placed_whole (replicate m 0) (up_to g m) (count ∙ sym (length-replicate {A = ℕ} m 0))
