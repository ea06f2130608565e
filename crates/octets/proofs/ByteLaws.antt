-- Words and bytes undo each other; lengths; one word of a list. Assumes nothing.
use mathlib.Core.Path.{◌≡◌, refl, sym, ap, ◌∙◌}
use mathlib.Core.List.{List, [], ◌∷◌, ◌++◌}
use Prim.Native.Nat.{ℕ, zero, suc, ◌+◌, ◌-◌, ◌*◌, ◌/◌, ◌%◌, ◌^◌, ◌<◌, ◌≤◌}
use native.Mathlib.Omega.{arith}
use lib.ListN.{length, get_or, take, drop}
use lib.Pow.{recompose, mod-pow-add}
use Rattle.machine.specs.Bytes.{words_in, bytes_of}
use Rattle.counting.specs.Placing.{placed}
use Rattle.counting.proofs.PlacingLaws.{take_first}

-- the word of four bytes, lowest first
abbrev pub word_of : ℕ → ℕ → ℕ → ℕ → ℕ
word_of a b c d = a + b * 2 ^ 8 + c * 2 ^ 16 + d * 2 ^ 24

-- four times i, as the bytes are counted
unfoldable pub fours : ℕ → ℕ
fours zero = zero
fours (suc i) = suc (suc (suc (suc (fours i))))

pub fours_is : (i : ℕ) → fours i ≡ 4 * i
unfolding fours
fours_is zero = refl
fours_is (suc i) = omega (arith, fours_is i)

-- the word whose lowest byte stands at place k
abbrev pub word_at : List ℕ → ℕ → ℕ
word_at bs k =
    word_of (get_or bs k 0) (get_or bs (suc k) 0) (get_or bs (suc (suc k)) 0) (get_or bs (suc (suc (suc k))) 0)

-- ---- lengths

pub length_words_in : (bs : List ℕ) → length (words_in bs) ≡ length bs / 4
unfolding words_in
length_words_in [] = refl
length_words_in (a ∷ []) = refl
length_words_in (a ∷ b ∷ []) = refl
length_words_in (a ∷ b ∷ c ∷ []) = refl
length_words_in (a ∷ b ∷ c ∷ d ∷ bs) = omega (arith, length_words_in bs)

pub length_bytes_of : (ws : List ℕ) → length (bytes_of ws) ≡ 4 * length ws
unfolding bytes_of
length_bytes_of [] = refl
length_bytes_of (w ∷ ws) = omega (arith, length_bytes_of ws)

-- ---- one word of a list

pub get_d_words_in : (i : ℕ) (bs : List ℕ) → i < length (words_in bs) → get_or (words_in bs) i 0 ≡ word_at bs (fours i)
unfolding words_in fours
get_d_words_in i [] h = absurd (omega arith)
get_d_words_in i (a ∷ []) h = absurd (omega arith)
get_d_words_in i (a ∷ b ∷ []) h = absurd (omega arith)
get_d_words_in i (a ∷ b ∷ c ∷ []) h = absurd (omega arith)
get_d_words_in zero (a ∷ b ∷ c ∷ d ∷ bs) h = refl
get_d_words_in (suc i) (a ∷ b ∷ c ∷ d ∷ bs) h = get_d_words_in i bs (omega arith)

-- the word that the code reads is word i of the bytes
pub read_is : (bytes : List ℕ) (i : ℕ) → i < length bytes / 4
    → word_of (get_or bytes (4 * i) 0) (get_or bytes (4 * i + 1) 0) (get_or bytes (4 * i + 2) 0)
    (get_or bytes (4 * i + 3) 0)
    ≡ get_or (words_in bytes) i 0
read_is bytes i h =
    let first : 4 * i ≡ fours i = sym (fours_is i) in
    let second : fours i + 1 ≡ suc (fours i) = omega arith in
    let third : fours i + 2 ≡ suc (suc (fours i)) = omega arith in
    let fourth : fours i + 3 ≡ suc (suc (suc (fours i))) = omega arith in
    rw (first, second, third, fourth) (sym (get_d_words_in i bytes (omega (arith, length_words_in bytes))))

-- ---- the words of a part of the bytes

take_fours : (m : ℕ) (bs : List ℕ) → words_in (take (fours m) bs) ≡ take m (words_in bs)
unfolding words_in fours
take_fours zero bs = refl
take_fours (suc m) [] = refl
take_fours (suc m) (a ∷ []) = refl
take_fours (suc m) (a ∷ b ∷ []) = refl
take_fours (suc m) (a ∷ b ∷ c ∷ []) = refl
take_fours (suc m) (a ∷ b ∷ c ∷ d ∷ bs) = ap (λ (ws : List ℕ). word_of a b c d ∷ ws) (take_fours m bs)

drop_fours : (m : ℕ) (bs : List ℕ) → words_in (drop (fours m) bs) ≡ drop m (words_in bs)
unfolding words_in fours
drop_fours zero bs = refl
drop_fours (suc m) [] = refl
drop_fours (suc m) (a ∷ []) = refl
drop_fours (suc m) (a ∷ b ∷ []) = refl
drop_fours (suc m) (a ∷ b ∷ c ∷ []) = refl
drop_fours (suc m) (a ∷ b ∷ c ∷ d ∷ bs) = drop_fours m bs

pub words_first : (m : ℕ) (bs : List ℕ) → words_in (take (4 * m) bs) ≡ take m (words_in bs)
words_first m bs = ap (λ (k : ℕ). words_in (take k bs)) (sym (fours_is m)) ∙ take_fours m bs

pub words_rest : (m : ℕ) (bs : List ℕ) → words_in (drop (4 * m) bs) ≡ drop m (words_in bs)
words_rest m bs = ap (λ (k : ℕ). words_in (drop k bs)) (sym (fours_is m)) ∙ drop_fours m bs

pub words_part : (a b : ℕ) (bs : List ℕ) → a ≤ b
    → words_in (take (4 * b - 4 * a) (drop (4 * a) bs)) ≡ take (b - a) (drop a (words_in bs))
words_part a b bs h =
    let four : 4 * b - 4 * a ≡ 4 * (b - a) = omega arith in
    ap (λ (k : ℕ). words_in (take k (drop (4 * a) bs))) four
    ∙ words_first (b - a) (drop (4 * a) bs)
    ∙ ap (take (b - a)) (words_rest a bs)

pub bytes_of_append : (vs ws : List ℕ) → bytes_of (vs ++ ws) ≡ bytes_of vs ++ bytes_of ws
unfolding bytes_of
bytes_of_append [] ws = refl
bytes_of_append (v ∷ vs) ws = rw (bytes_of_append vs ws)

-- ---- each undoes the other

-- every number of a list is below m
abbrev pub AllBelow : ℕ → List ℕ → Type 0
AllBelow m xs = (i : ℕ) → i < length xs → get_or xs i 0 < m

pub words_in_bytes_of : (ws : List ℕ) → AllBelow (2 ^ 32) ws → words_in (bytes_of ws) ≡ ws
unfolding words_in bytes_of
words_in_bytes_of [] h = refl
words_in_bytes_of (w ∷ ws) h =
    let small : w < 2 ^ 32 = h 0 (omega arith) in
    let e : word_of (w % 2 ^ 8) (w / 2 ^ 8 % 2 ^ 8) (w / 2 ^ 16 % 2 ^ 8) (w / 2 ^ 24 % 2 ^ 8) ≡ w =
    omega (arith, recompose {n = w} 8 24 small, mod-pow-add w 8 16, mod-pow-add w 8 8) in
    rw (e, words_in_bytes_of ws (λ i l. h (suc i) (omega arith)))

pub bytes_of_words_in : (bs : List ℕ) → AllBelow (2 ^ 8) bs → length bs % 4 ≡ 0 → bytes_of (words_in bs) ≡ bs
unfolding words_in bytes_of
bytes_of_words_in [] h z = refl
bytes_of_words_in (a ∷ []) h z = absurd (omega arith)
bytes_of_words_in (a ∷ b ∷ []) h z = absurd (omega arith)
bytes_of_words_in (a ∷ b ∷ c ∷ []) h z = absurd (omega arith)
bytes_of_words_in (a ∷ b ∷ c ∷ d ∷ bs) h z =
    let ha : a < 2 ^ 8 = h 0 (omega arith) in
    let hb : b < 2 ^ 8 = h 1 (omega arith) in
    let hc : c < 2 ^ 8 = h 2 (omega arith) in
    let hd : d < 2 ^ 8 = h 3 (omega arith) in
    let w = word_of a b c d in
    let upper : w / 2 ^ 8 ≡ b + c * 2 ^ 8 + d * 2 ^ 16 = omega arith in
    let half : w / 2 ^ 16 ≡ c + d * 2 ^ 8 = omega arith in
    let top : w / 2 ^ 24 ≡ d = omega arith in
    let ea : w % 2 ^ 8 ≡ a = omega arith in
    let eb : w / 2 ^ 8 % 2 ^ 8 ≡ b = rw upper (omega arith) in
    let ec : w / 2 ^ 16 % 2 ^ 8 ≡ c = rw half (omega arith) in
    let ed : w / 2 ^ 24 % 2 ^ 8 ≡ d = rw top (omega arith) in
    rw (ea, eb, ec, ed, bytes_of_words_in bs (λ i l. h (suc (suc (suc (suc i)))) (omega arith)) (omega arith))

-- ---- the words of an input

module _ (bs ws y : List ℕ) (m : ℕ) (count : m ≡ length bs / 4) (placed-so : y ≡ placed ws 0 (words_in bs)) where
  -- as many words as were unpacked are the words of the bytes
  pub take_unpacked : take m y ≡ words_in bs
  take_unpacked = ap (take m) placed-so ∙ take_first ws (words_in bs) m (length_words_in bs ∙ sym count)
