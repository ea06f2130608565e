-- An output that was cut can be told from a whole one: `is_whole` holds of every text, and of no part of one that lacks
-- its end. Assumes nothing.
use Prim.Native.Nat.{ℕ, zero, suc, ◌+◌, ◌/◌, ◌%◌, ◌≤◌}
use mathlib.Core.Path.{◌≡◌, refl, sym, ap, subst, ◌∙◌}
use mathlib.Core.Bool.{Bool, true, false, false≢true, cond}
use mathlib.Core.List.{List, [], ◌∷◌, ◌++◌, append_assoc, append-nil}
use native.Mathlib.Omega.{arith}
use lib.Dec.{eqb, ltb}
use lib.ListN.{length}
use borrow.Author.Tests.{ne_eqb, ltb-true}
use Rattle.machine.specs.Refusals.{accepted, too_many_words, bad_bytes}
use Rattle.machine.specs.Tables.{Table, row}
use Rattle.machine.specs.Words.{process_of}
use Rattle.machine.specs.Shared.{READ, ACT}
use Rattle.machine.specs.Steps.{refusal_of, after_word, cell_of}
use Rattle.machine.specs.Census.{critical}
use Rattle.machine.specs.Inputs.{Input, input_of}
use Rattle.machine.specs.Inputs.Input.{BadBytes, BadImage, TooMany, Ready}
use Rattle.machine.specs.Text
use Rattle.machine.specs.declared.SharedCell.{SharedCell}

-- ---- lines

-- no byte is a line feed
abbrev pub Plain : List ℕ → Type 0
Plain [] = Unit {0}
Plain (b ∷ l) = (eqb b 10 ≡ false) × Plain l

-- of a fixed text, by one test
abbrev is_plain : List ℕ → Bool
is_plain [] = true
is_plain (b ∷ l) = cond (eqb b 10) false (is_plain l)

plain_of : (l : List ℕ) → is_plain l ≡ true → Plain l
plain_of [] e = tt
plain_of (b ∷ l) e = by (eqb b 10) refl e (plain_of l)
  where
    by : (k : Bool) → eqb b 10 ≡ k → cond k false (is_plain l) ≡ true → (is_plain l ≡ true → Plain l)
        → (eqb b 10 ≡ false) × Plain l
    by true q e f = absurd (false≢true e)
    by false q e f = (q, f e)

plain_append : (l m : List ℕ) → Plain l → Plain m → Plain (l ++ m)
plain_append [] m p q = q
plain_append (b ∷ l) m p q = (p.0, plain_append l m p.1 q)

-- a text s that begins with a line: it is whole, and no part of it that lacks its end is
pub record Sealed (last : Bool) (s : List ℕ) : Type 0 where
  pub whole : Text.ends_whole true last s ≡ true
  pub cut : (a : List ℕ) (b : ℕ) (r : List ℕ) → s ≡ a ++ (b ∷ r) → Text.ends_whole true last a ≡ false

-- nothing is left after a last line
sealed_nothing : Sealed true []
unfolding Text.ends_whole
sealed_nothing = record { whole = refl; cut = none }
  where
    none : (a : List ℕ) (b : ℕ) (r : List ℕ) → [] ≡ a ++ (b ∷ r) → Text.ends_whole true true a ≡ false
    none [] b r e = let z : ◌≡◌ {A = ℕ} 0 1 = cc in absurd (omega arith)
    none (c ∷ a) b r e = let z : ◌≡◌ {A = ℕ} 0 1 = cc in absurd (omega arith)

-- the rest l of a line, and then s
module _ (last : Bool) (s : List ℕ) (after : Sealed last s) where
  within-whole : (l : List ℕ) → Plain l → Text.ends_whole false last (l ++ (10 ∷ s)) ≡ true
  unfolding Text.ends_whole
  within-whole [] p = after.whole
  within-whole (c ∷ l) p =
      ap (λ (b : Bool). Text.ends_whole b last (l ++ (10 ∷ s))) p.0 ∙ within-whole l p.1

  within_cut : (l : List ℕ) → Plain l → (a : List ℕ) (b : ℕ) (r : List ℕ) → l ++ (10 ∷ s) ≡ a ++ (b ∷ r)
      → Text.ends_whole false last a ≡ false
  unfolding Text.ends_whole
  within_cut l p [] b r e = refl
  within_cut [] p (d ∷ a) b r e =
      let head : d ≡ 10 = cc in
      ap (λ (k : ℕ). Text.ends_whole (eqb k 10) last a) head ∙ after.cut a b r cc
  within_cut (c ∷ l) p (d ∷ a) b r e =
      let head : d ≡ c = cc in
      ap (λ (k : ℕ). Text.ends_whole (eqb k 10) last a) head
      ∙ ap (λ (k : Bool). Text.ends_whole k last a) p.0
      ∙ within_cut l p.1 a b r cc

-- a line that begins with f, and then s
sealed_line : (f : ℕ) (l s : List ℕ) → Plain (f ∷ l) → Sealed (Text.begins_last f) s → Sealed false ((f ∷ l) ++ (10 ∷ s))
unfolding Text.ends_whole
sealed_line f l s p after = record { whole = all; cut = part }
  where
    all : Text.ends_whole true false ((f ∷ l) ++ (10 ∷ s)) ≡ true
    all =
        ap (λ (b : Bool). Text.ends_whole b (Text.begins_last f) (l ++ (10 ∷ s))) p.0
        ∙ within-whole (Text.begins_last f) s after l p.1

    part : (a : List ℕ) (b : ℕ) (r : List ℕ) → (f ∷ l) ++ (10 ∷ s) ≡ a ++ (b ∷ r) → Text.ends_whole true false a ≡ false
    part [] b r e = refl
    part (d ∷ a) b r e =
        let head : d ≡ f = cc in
        ap (λ (k : ℕ). Text.ends_whole (eqb k 10) (Text.begins_last k) a) head
        ∙ ap (λ (k : Bool). Text.ends_whole k (Text.begins_last f) a) p.0
        ∙ within_cut (Text.begins_last f) s after l p.1 a b r cc

-- ---- numbers

-- every byte is a digit
abbrev Digits : List ℕ → Type 0
Digits [] = Unit {0}
Digits (b ∷ l) = (48 ≤ b) × (b ≤ 57) × Digits l

digits_append : (l m : List ℕ) → Digits l → Digits m → Digits (l ++ m)
digits_append [] m p q = q
digits_append (b ∷ l) m p q = (p.0, p.1, digits_append l m p.2 q)

digits_plain : (l : List ℕ) → Digits l → Plain l
digits_plain [] p = p
digits_plain (b ∷ l) p = (ne_eqb b 10 (λ e. omega (arith, p.0, e)), digits_plain l p.2)

-- a digit begins no last line
digit_begins : (b : ℕ) → 48 ≤ b → b ≤ 57 → Text.begins_last b ≡ false
digit_begins b low high =
    rw (
      ne_eqb b 100 (λ e. omega (arith, high, e)),
      ne_eqb b 115 (λ e. omega (arith, high, e)),
      ne_eqb b 105 (λ e. omega (arith, high, e)),
    ) refl

number_digits : (k n : ℕ) → Digits (Text.digits k n)
unfolding Text.digits
number_digits zero n = tt
number_digits (suc k) n = by (number_digits k (n / 10)) (ltb n 10) refl
  where
    by : Digits (Text.digits k (n / 10)) → (b : Bool) → ltb n 10 ≡ b
        → Digits (elim b [ true ↦ (48 + n) ∷ [] | false ↦ Text.digits k (n / 10) ++ ((48 + n % 10) ∷ []) ])
    by tenth true e = let small = ltb-true n 10 e in (omega arith, omega arith, tt)
    by tenth false e =
        digits_append (Text.digits k (n / 10)) ((48 + n % 10) ∷ []) tenth (omega arith, omega arith, tt)

-- a number has a first digit
record Begins (l : List ℕ) : Type 0 where
  first : ℕ
  rest : List ℕ
  is : l ≡ first ∷ rest

begins_append : (l : List ℕ) (b : ℕ) → Begins (l ++ (b ∷ []))
begins_append [] b = record { first = b; rest = []; is = refl }
begins_append (c ∷ l) b = record { first = c; rest = l ++ (b ∷ []); is = refl }

number_begins : (n : ℕ) → Begins (Text.decimal n)
unfolding Text.digits
number_begins n = by (ltb n 10)
  where
    by : (b : Bool) → Begins (elim b [ true ↦ (48 + n) ∷ [] | false ↦ Text.digits 19 (n / 10) ++ ((48 + n % 10) ∷ []) ])
    by true = record { first = 48 + n; rest = []; is = refl }
    by false = begins_append (Text.digits 19 (n / 10)) (48 + n % 10)

spaced_plain : (ns : List ℕ) → Plain (Text.spaced ns)
unfolding Text.spaced
spaced_plain [] = tt
spaced_plain (n ∷ []) = digits_plain (Text.decimal n) (number_digits 20 n)
spaced_plain (n ∷ m ∷ ns) =
    plain_append (Text.decimal n) (32 ∷ Text.spaced (m ∷ ns)) (digits_plain (Text.decimal n) (number_digits 20 n))
    (refl, spaced_plain (m ∷ ns))

-- a shared cell
cell_plain : (c : SharedCell) → Plain (Text.cell_text c)
cell_plain c =
    by (eqb c.access 0) (eqb c.access READ) (eqb c.variable ACT)
    (digits_plain (Text.decimal c.index) (number_digits 20 c.index))
  where
    by : (none read act : Bool) → Plain (Text.decimal c.index)
        → Plain (cond none (45 ∷ []) (cond read 114 119 ∷ cond act 97 116 ∷ Text.decimal c.index))
    by true read act p = (refl, tt)
    by false true true p = (refl, (refl, p))
    by false true false p = (refl, (refl, p))
    by false false true p = (refl, (refl, p))
    by false false false p = (refl, (refl, p))

-- ---- the lines of a text

-- a line b that begins with f, and then r
sealed_then : (b r : List ℕ) (f : ℕ) (l : List ℕ) → b ≡ f ∷ l → Plain b → Sealed (Text.begins_last f) r
    → Sealed false ((b ++ (10 ∷ [])) ++ r)
sealed_then b r f l is plain after =
    subst (Sealed false) (sym (append_assoc b (10 ∷ []) r ∙ ap (λ (m : List ℕ). m ++ (10 ∷ r)) is))
    (sealed_line f l r (subst Plain is plain) after)

-- a line of a text s, which begins with f, and of numbers; and then r
sealed_text_line : (s ns r : List ℕ) (f : ℕ) (l : List ℕ) → s ≡ f ∷ l → is_plain s ≡ true → Sealed (Text.begins_last f) r
    → Sealed false (Text.line s ns ++ r)
sealed_text_line s ns r f l is plain after =
    subst (λ (m : List ℕ). Sealed false (m ++ r)) (append_assoc s (Text.spaced ns) (10 ∷ []))
    (sealed_then (s ++ Text.spaced ns) r f (l ++ Text.spaced ns) (ap (λ (m : List ℕ). m ++ Text.spaced ns) is)
    (plain_append s (Text.spaced ns) (plain_of s plain) (spaced_plain ns)) after)

-- a last line, with the text s before its numbers
sealed_last : (s ns : List ℕ) (f : ℕ) (l : List ℕ) → s ≡ f ∷ l → Text.begins_last f ≡ true → is_plain s ≡ true
    → Sealed false (Text.line s ns)
sealed_last s ns f l is last plain =
    subst (Sealed false) (append-nil (Text.line s ns))
    (sealed_text_line s ns [] f l is plain (subst (λ (b : Bool). Sealed b []) (sym last) sealed_nothing))

-- a line that begins with a number, and then r
sealed_number : (n : ℕ) (b r : List ℕ) → Plain b → Sealed false r
    → Sealed false (((Text.decimal n ++ b) ++ (10 ∷ [])) ++ r)
sealed_number n b r plain after =
    let d = number_begins n in
    let digit = subst Digits d.is (number_digits 20 n) in
    sealed_then (Text.decimal n ++ b) r d.first (d.rest ++ b) (ap (λ (l : List ℕ). l ++ b) d.is)
    (plain_append (Text.decimal n) b (digits_plain (Text.decimal n) (number_digits 20 n)) plain)
    (subst (λ (b : Bool). Sealed b r) (sym (digit_begins d.first digit.0 digit.1)) after)

sealed_stop : (i why : ℕ) → Sealed false (Text.stop_line i why)
sealed_stop i why = sealed_last Text.stop_text (i ∷ why ∷ []) 115 _ refl refl refl

sealed_word : (t : Table) (i w : ℕ) (r : List ℕ) → Sealed false r → Sealed false (Text.word_line t i w ++ r)
unfolding Text.spaced
sealed_word t i w r after =
    subst (λ (m : List ℕ). Sealed false (m ++ r))
    (ap (λ (m : List ℕ). m ++ (10 ∷ [])) (sym whole) ∙ append_assoc fields cell (10 ∷ []))
    (sealed_number i ((32 ∷ Text.spaced others) ++ cell) r
    (plain_append (32 ∷ Text.spaced others) cell (refl, spaced_plain others) (refl, cell_plain (cell_of t w))) after)
  where
    others : List ℕ
    others =
        let p = process_of w in
        p ∷ (row t p).location ∷ (row (after_word t w) p).location ∷ critical (after_word t w) ∷ []

    fields : List ℕ
    fields = Text.spaced (Text.word_fields t i w)

    cell : List ℕ
    cell = 32 ∷ Text.cell_text (cell_of t w)

    whole : fields ++ cell ≡ Text.decimal i ++ ((32 ∷ Text.spaced others) ++ cell)
    whole = append_assoc (Text.decimal i) (32 ∷ Text.spaced others) cell

sealed_run : (t : Table) (i : ℕ) (ws : List ℕ) → Sealed false (Text.run_lines t i ws)
unfolding Text.run_lines
sealed_run t i [] = sealed_last Text.done_text (i ∷ []) 100 _ refl refl refl
sealed_run t i (w ∷ ws) = by (eqb (refusal_of t w) accepted) (sealed_run (after_word t w) (suc i) ws)
  where
    rest : List ℕ
    rest = Text.run_lines (after_word t w) (suc i) ws

    by : (b : Bool) → Sealed false rest
        → Sealed false (elim b [ true ↦ Text.word_line t i w ++ rest | false ↦ Text.stop_line i (refusal_of t w) ])
    by true after = sealed_word t i w rest after
    by false after = sealed_stop i (refusal_of t w)

sealed_posts : (t : Table) (r : List ℕ) → Sealed false r → Sealed false (Text.posts_line t ++ r)
sealed_posts t r after =
    sealed_text_line Text.posts_text (length t ∷ []) r 112 _ refl refl after

sealed_text : (i : Input) → Sealed false (Text.text_of i)
unfolding Text.text_of
sealed_text BadBytes = sealed_last Text.input_text (bad_bytes ∷ []) 105 _ refl refl refl
sealed_text (BadImage place why) = sealed_last Text.image_text (place ∷ why ∷ []) 105 _ refl refl refl
sealed_text (TooMany t) =
    sealed_posts t (Text.stop_line 0 too_many_words) (sealed_stop 0 too_many_words)
sealed_text (Ready t ws) = sealed_posts t (Text.run_lines t 0 ws) (sealed_run t 0 ws)

-- ---- the promise

-- every printed text is whole
pub text_is_whole : (bs : List ℕ) → Text.is_whole (Text.printed bs) ≡ true
unfolding Text.printed
text_is_whole bs = (sealed_text (input_of bs)).whole

-- what lacks a byte or more at its end is not
pub cut_text_is_not : (bs a : List ℕ) (b : ℕ) (r : List ℕ) → Text.printed bs ≡ a ++ (b ∷ r) → Text.is_whole a ≡ false
unfolding Text.printed
cut_text_is_not bs a b r e = (sealed_text (input_of bs)).cut a b r e
