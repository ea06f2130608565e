-- Laws of `placed`: its length, one element, one list after another; and the law of a loop that fills a list place by
-- place.
--
--   begun d at s i               ==  d after the first i elements of s were put into it from place `at` on
--   begun_start, begun_next, begun_end   its loop: nothing yet, one element more, all of them
--   begun_more                   several elements more
--   begun_rest                   what the loop has not reached is as it was
--
-- Assumes nothing.
use mathlib.Core.Path.{◌≡◌, sym, ap, ◌∙◌}
use mathlib.Core.List.{List, [], ◌∷◌, ◌++◌, append_assoc, append-nil}
use Prim.Native.Nat.{ℕ, zero, suc, ◌+◌, ◌-◌, ◌<◌, ◌≤◌}
use native.Mathlib.Nat.{add-zero, zero-add}
use native.Mathlib.Numerals.{add-one}
use native.Mathlib.Omega.{arith}
use lib.ListN.{length, get_or, take, drop, set, replicate, length-append, length-drop, take-append-drop}
use lib.Seq.{take_at, take_all, take-suc, drop-append-add, drop-drop, drop-length, get_or-drop, set_split}
use lib.Seq.{length-take-le, append_snoc, sets-eq}
use Rattle.counting.specs.Placing.{placed}

-- nothing put anywhere
pub placed_none : {A : Type 0} (d : List A) (at : ℕ) → placed d at [] ≡ d
unfolding placed
placed_none d at = ap (λ (k : ℕ). take at d ++ drop k d) (add-zero at) ∙ take-append-drop at d

-- from the start of d on
pub placed_first : {A : Type 0} (d s : List A) → placed d 0 s ≡ s ++ drop (length s) d
unfolding placed
placed_first d s = ap (λ (k : ℕ). s ++ drop k d) (zero-add (length s))

-- one element
pub placed_one : {A : Type 0} (d : List A) (at : ℕ) (b : A) → at < length d → set d at b ≡ placed d at (b ∷ [])
unfolding placed
placed_one d at b h = set_split d at b h ∙ ap (λ (k : ℕ). take at d ++ (b ∷ drop k d)) (sym (add-one at))

module _ {A : Type 0} (d : List A) (at : ℕ) (s : List A) where
  -- what stands before the end of s
  abbrev head : List A
  head = take at d ++ s

  placed_head : placed d at s ≡ head ++ drop (at + length s) d
  unfolding placed
  placed_head = sym (append_assoc (take at d) s (drop (at + length s) d))

  length_head : at ≤ length d → length head ≡ at + length s
  length_head h = length-append (take at d) s ∙ ap (λ (k : ℕ). k + length s) (length-take-le at d h)

  pub length-placed : at + length s ≤ length d → length (placed d at s) ≡ length d
  length-placed h =
      let e = length_head (omega arith) in
      ap length placed_head
      ∙ omega (arith, length-append head (drop (at + length s) d), length-drop (at + length s) d)

  -- what stands up to the end of s
  pub take-placed : at ≤ length d → take (at + length s) (placed d at s) ≡ take at d ++ s
  take-placed h =
      ap (take (at + length s)) placed_head ∙ take_at head (drop (at + length s) d) (at + length s) (length_head h)

  -- what stands past the end of s
  pub drop-placed : (k : ℕ) → at ≤ length d → drop (at + length s + k) (placed d at s) ≡ drop (at + length s + k) d
  drop-placed k h =
      ap (drop (at + length s + k)) placed_head
      ∙ ap (λ (n : ℕ). drop (n + k) (head ++ drop (at + length s) d)) (sym (length_head h))
      ∙ drop-append-add head (drop (at + length s) d) k
      ∙ drop-drop k (at + length s) d

  -- u put right after s
  pub placed_then : (u : List A) → at ≤ length d → placed (placed d at s) (at + length s) u ≡ placed d at (s ++ u)
  unfolding placed
  placed_then u h =
      let n = at + length s in
      let e : n + length u ≡ at + length (s ++ u) = omega (arith, length-append s u) in
      ap (λ (p : List A). p ++ (u ++ drop (n + length u) (placed d at s))) (take-placed h)
      ∙ ap (λ (p : List A). head ++ (u ++ p)) (drop-placed (length u) h)
      ∙ append_assoc (take at d) s (u ++ drop (n + length u) d)
      ∙ ap (λ (p : List A). take at d ++ p) (sym (append_assoc s u (drop (n + length u) d)))
      ∙ ap (λ (k : ℕ). take at d ++ ((s ++ u) ++ drop k d)) e

-- ---- from the start of a list on, and four elements

pub placed_whole : {A : Type 0} (d s : List A) → length s ≡ length d → placed d 0 s ≡ s
placed_whole d s e =
    placed_first d s
    ∙ ap (λ (k : ℕ). s ++ drop k d) e
    ∙ ap (λ (l : List _). s ++ l) (drop-length d)
    ∙ append-nil s

-- as many elements as were put first
pub take_first : {A : Type 0} (d s : List A) (n : ℕ) → length s ≡ n → take n (placed d 0 s) ≡ s
take_first d s n e = ap (take n) (placed_first d s) ∙ take_at s (drop (length s) d) n e

-- a list of equal elements
drop-replicate : {A : Type 0} (n k : ℕ) (b : A) → drop k (replicate n b) ≡ replicate (n - k) b
drop-replicate n zero b = ap (λ (m : ℕ). replicate m b) {x = n} {y = n - 0} (omega arith)
drop-replicate zero (suc k) b = ap (λ (m : ℕ). replicate m b) {x = 0} {y = 0 - suc k} (omega arith)
drop-replicate (suc n) (suc k) b =
    drop-replicate n k b ∙ ap (λ (m : ℕ). replicate m b) {x = n - k} {y = suc n - suc k} (omega arith)

pub placed_padded : {A : Type 0} (n : ℕ) (b : A) (s : List A)
    → placed (replicate n b) 0 s ≡ s ++ replicate (n - length s) b
placed_padded n b s = placed_first (replicate n b) s ∙ ap (λ (l : List _). s ++ l) (drop-replicate n (length s) b)

pub placed_four : {A : Type 0} (d : List A) (at : ℕ) (a b c e : A) → at + 4 ≤ length d
    → set (set (set (set d at a) (at + 1) b) (at + 2) c) (at + 3) e ≡ placed d at (a ∷ b ∷ c ∷ e ∷ [])
unfolding placed
placed_four d at a b c e h =
    let second : at + 1 ≡ suc at = omega arith in
    let third : at + 2 ≡ suc (suc at) = omega arith in
    let fourth : at + 3 ≡ suc (suc (suc at)) = omega arith in
    let s = a ∷ b ∷ c ∷ e ∷ [] in
    rw (second, third, fourth) (sets-eq s d at h ∙ append_assoc (take at d) s (drop (at + 4) d))

-- ---- a loop that fills a list

-- u stands in s from place i on
take_more : {A : Type 0} (s : List A) (i : ℕ) (u : List A) (z : A) → i + length u ≤ length s
    → ((j : ℕ) → j < length u → get_or u j z ≡ get_or s (i + j) z)
    → take i s ++ u ≡ take (i + length u) s
take_more s i [] z h same = append-nil (take i s) ∙ ap (λ (k : ℕ). take k s) (sym (add-zero i))
take_more s i (x ∷ u) z h same =
    sym (append_snoc (take i s) x u)
    ∙ ap (λ (v : _). (take i s ++ (v ∷ [])) ++ u) (same 0 (omega arith) ∙ ap (λ (k : ℕ). get_or s k z) (add-zero i))
    ∙ ap (λ (l : List _). l ++ u) (sym (take-suc s i z (omega arith)))
    ∙ take_more s (suc i) u z (omega arith)
    (λ j l. same (suc j) (omega arith) ∙ ap (λ (k : ℕ). get_or s k z) {x = i + suc j} {y = suc i + j} (omega arith))
    ∙ ap (λ (k : ℕ). take k s) {x = suc i + length u} {y = i + suc (length u)} (omega arith)

abbrev pub begun : {A : Type 0} → List A → ℕ → List A → ℕ → List A
begun d at s i = placed d at (take i s)

module _ {A : Type 0} (d : List A) (at : ℕ) (s : List A) where
  pub begun_start : d ≡ begun d at s 0
  begun_start = sym (placed_none d at)

  pub begun_end : (i : ℕ) → length s ≤ i → begun d at s i ≡ placed d at s
  begun_end i h = ap (placed d at) (take_all i s h)

  module _ (fits : at + length s ≤ length d) where
    pub length_begun : (i : ℕ) → i ≤ length s → length (begun d at s i) ≡ length d
    length_begun i h = length-placed d at (take i s) (omega (arith, length-take-le i s h))

    pub begun_more : (i j p : ℕ) (u : List A) (z : A)
        → p ≡ at + i
        → j ≡ i + length u
        → j ≤ length s
        → ((k : ℕ) → k < length u → get_or u k z ≡ get_or s (i + k) z)
        → placed (begun d at s i) p u ≡ begun d at s j
    begun_more i j p u z here there h same =
        let count = length-take-le i s (omega arith) in
        ap (λ (k : ℕ). placed (begun d at s i) k u) {x = p} {y = at + length (take i s)} (omega arith)
        ∙ placed_then d at (take i s) u (omega arith)
        ∙ ap (placed d at) (take_more s i u z (omega arith) same)
        ∙ ap (begun d at s) (sym there)

    pub begun_next : (i j p : ℕ) (v z : A)
        → p ≡ at + i
        → j ≡ i + 1
        → i < length s
        → v ≡ get_or s i z
        → set (begun d at s i) p v ≡ begun d at s j
    begun_next i j p v z here there h is =
        placed_one (begun d at s i) p v (omega (arith, length_begun i (omega arith)))
        ∙ begun_more i j p (v ∷ []) z here there (omega arith) only
      where
        only : (k : ℕ) → k < 1 → get_or (v ∷ []) k z ≡ get_or s (i + k) z
        only zero l = is ∙ ap (λ (x : ℕ). get_or s x z) (sym (add-zero i))
        only (suc k) l = absurd (omega arith)

    pub begun_rest : (i p : ℕ) (z : A) → i ≤ length s → p ≡ at + i → get_or (begun d at s i) p z ≡ get_or d p z
    begun_rest i p z h here =
        let count = length-take-le i s h in
        let past : p ≡ at + length (take i s) + 0 = omega arith in
        let none = add-zero p in
        ap (λ (k : ℕ). get_or (begun d at s i) k z) (sym none)
        ∙ sym (get_or-drop p (begun d at s i) 0 z)
        ∙ ap (λ (k : ℕ). get_or (drop k (begun d at s i)) 0 z) past
        ∙ ap (λ (l : List A). get_or l 0 z) (drop-placed d at (take i s) 0 (omega arith))
        ∙ ap (λ (k : ℕ). get_or (drop k d) 0 z) (sym past)
        ∙ get_or-drop p d 0 z
        ∙ ap (λ (k : ℕ). get_or d k z) none
