-- Decimal digits: one more possible digit changes nothing, how many there are, and the last two apart from the others.
-- Assumes nothing.
use mathlib.Core.Path.{◌≡◌, refl, sym, ap, ap₂, ◌∙◌}
use mathlib.Core.Bool.{Bool, true, false, ◌&&◌, and-eq-true_iff}
use mathlib.Core.List.{List, [], ◌∷◌, ◌++◌, append_assoc}
use Prim.Native.Nat.{ℕ, zero, suc, ◌+◌, ◌*◌, ◌/◌, ◌%◌, ◌^◌, ◌<◌, ◌≤◌}
use native.Mathlib.Nat.{pow-suc}
use native.Mathlib.Omega.{arith}
use lib.Dec.{ltb, eqb}
use lib.ListN.{length, get_or, length-append}
use borrow.Author.Tests.{eqb-true, ltb-true, ltb-false, lt-ltb, le-ltb}
use Rattle.counting.proofs.TestLaws.{every, every_at}
use Rattle.machine.specs.Text.{digits, decimal}
use Rattle.text.specs.Fields.{pair}
use Rattle.text.specs.declared.fields.TheConstants.{PAIRS}

-- the digits by the test that picks them
abbrev picked : ℕ → ℕ → Bool → List ℕ
picked k n b = elim b [ true ↦ (48 + n) ∷ [] | false ↦ digits k (n / 10) ++ ((48 + n % 10) ∷ []) ]

digits_none : (n : ℕ) → digits zero n ≡ []
unfolding digits
digits_none n = refl

-- a number below 10
pub digits_one : (k n : ℕ) → n < 10 → digits (suc k) n ≡ (48 + n) ∷ []
unfolding digits
digits_one k n h = ap (picked k n) (lt-ltb n 10 h)

-- any other
pub digits_more : (k n : ℕ) → 10 ≤ n → digits (suc k) n ≡ digits k (n / 10) ++ ((48 + n % 10) ∷ [])
unfolding digits
digits_more k n h = ap (picked k n) (le-ltb n 10 h)

-- a tenth has a digit less
tenth : (k n : ℕ) → n < 10 ^ suc k → n / 10 < 10 ^ k
tenth k n h = let e = pow-suc 10 k in omega arith

-- there are no further digits
pub digits_same : (k n : ℕ) → n < 10 ^ suc k → digits (suc (suc k)) n ≡ digits (suc k) n
digits_same zero n h = digits_one 1 n h ∙ sym (digits_one 0 n h)
digits_same (suc k) n h = case (digits_same k (n / 10) (tenth (suc k) n h)) (ltb n 10) refl where
  case : digits (suc (suc k)) (n / 10) ≡ digits (suc k) (n / 10) → (b : Bool) → ltb n 10 ≡ b
      → digits (suc (suc (suc k))) n ≡ digits (suc (suc k)) n
  case less true e = digits_one (suc (suc k)) n (ltb-true n 10 e) ∙ sym (digits_one (suc k) n (ltb-true n 10 e))
  case less false e =
      digits_more (suc (suc k)) n (ltb-false n 10 e)
      ∙ ap (λ (l : List ℕ). l ++ ((48 + n % 10) ∷ [])) less
      ∙ sym (digits_more (suc k) n (ltb-false n 10 e))

-- a number below 10 ^ (k + 1) has at most k + 1 digits
pub length_digits : (j k n : ℕ) → n < 10 ^ suc k → length (digits j n) ≤ suc k
length_digits zero k n h = omega (arith, ap length (digits_none n))
length_digits (suc j) zero n h = omega (arith, ap length (digits_one j n h))
length_digits (suc j) (suc k) n h = case (length_digits j k (n / 10) (tenth (suc k) n h)) (ltb n 10) refl where
  case : length (digits j (n / 10)) ≤ suc k → (b : Bool) → ltb n 10 ≡ b → length (digits (suc j) n) ≤ suc (suc k)
  case fewer true e = omega (arith, ap length (digits_one j n (ltb-true n 10 e)))
  case fewer false e =
      let all = ap length (digits_more j n (ltb-false n 10 e)) in
      let parts = length-append (digits j (n / 10)) ((48 + n % 10) ∷ []) in
      omega arith

-- ---- numbers of 32 bits

pub decimal_one : (n : ℕ) → n < 10 → decimal n ≡ (48 + n) ∷ []
decimal_one n h = digits_one 19 n h

decimal_more : (n : ℕ) → n < 2 ^ 32 → 10 ≤ n → decimal n ≡ decimal (n / 10) ++ ((48 + n % 10) ∷ [])
decimal_more n small h =
    digits_more 19 n h
    ∙ ap (λ (l : List ℕ). l ++ ((48 + n % 10) ∷ [])) (sym (digits_same 18 (n / 10) (omega arith)))

-- two digits
pub decimal-pair : (n : ℕ) → 10 ≤ n → n < 100 → decimal n ≡ pair n
decimal-pair n h low =
    decimal_more n (omega arith) h
    ∙ ap (λ (l : List ℕ). l ++ ((48 + n % 10) ∷ [])) (decimal_one (n / 10) (omega arith))

-- three or more: the last two after the others
pub decimal_long : (n : ℕ) → n < 2 ^ 32 → 100 ≤ n → decimal n ≡ decimal (n / 100) ++ pair (n % 100)
decimal_long n small h =
    let third : n / 10 / 10 ≡ n / 100 = omega arith in
    let second : n / 10 % 10 ≡ n % 100 / 10 = omega arith in
    let first : n % 10 ≡ n % 100 % 10 = omega arith in
    decimal_more n small (omega arith)
    ∙ ap (λ (l : List ℕ). l ++ ((48 + n % 10) ∷ [])) (decimal_more (n / 10) (omega arith) (omega arith))
    ∙ append_assoc (decimal (n / 10 / 10)) ((48 + n / 10 % 10) ∷ []) ((48 + n % 10) ∷ [])
    ∙ ap (λ (k : ℕ). decimal k ++ ((48 + n / 10 % 10) ∷ (48 + n % 10) ∷ [])) third
    ∙ ap₂ (λ (a b : ℕ). decimal (n / 100) ++ ((48 + a) ∷ (48 + b) ∷ [])) second first

-- its length
pub length_decimal_long : (n : ℕ) → n < 2 ^ 32 → 100 ≤ n → length (decimal n) ≡ length (decimal (n / 100)) + 2
length_decimal_long n small h = ap length (decimal_long n small h) ∙ length-append (decimal (n / 100)) (pair (n % 100))

-- ---- the table of pairs

abbrev is_pair : ℕ → Bool
is_pair n = eqb (get_or PAIRS (2 * n) 0) (48 + n / 10) && eqb (get_or PAIRS (2 * n + 1) 0) (48 + n % 10)

all_pairs : every is_pair 100 ≡ true
unfolding every
all_pairs = refl

pub pair_at : (n : ℕ) → n < 100 → (get_or PAIRS (2 * n) 0 ≡ 48 + n / 10) × (get_or PAIRS (2 * n + 1) 0 ≡ 48 + n % 10)
pair_at n h =
    let both = (and-eq-true_iff _ _).0 (every_at is_pair 100 all_pairs n h) in
    (eqb-true _ _ both.0, eqb-true _ _ both.1)
