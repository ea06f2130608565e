-- What the functions inside this crate require and promise, in the terms of machine/specs/Images.
--
--   found_at r p      ==   the refusal r of the word at place p; nothing for 0.
--   SetKind k         <=>  the words of kind k hold a set: EST, LIS, AHEAD.
--   SetsFit n q ..    <=>  where r is true, the three words of process q that hold sets pass.
--   Sized ws n b      <=>  as many words as an image of n processes has, which is bare where b is false.
--   turn_of_words ws n q   ==   what turn[q] holds by its word.
--   passes_refusal ..  ==   the first refusal of the words with the passes of process q; words_refusal .. of all words.
--   Fits ws n q b f   <=>  where f is true, no word with passes of process q is refused; it is true of a bare image.
--   AllFit ws n m b f <=>  likewise of the first m processes.
--   RowRead, RowsRead, WordsRead   what reading a row, all rows and all words answers, and does to the rows.
--   Packable r        <=>  the fields of a row fit the word with location, act, bb and level.
--   row_words_of q r      ==   the four words of process q.
--   pass_words n q l   ==   the words with the passes l of process q.
--   rows_part t, turns_part t, passes_part t   ==   the words of t's image after the header: those of all rows, of the
--                            turn cells, and of the passes.
--
-- Assumes nothing.
use Rattle.std.specs.Prelude.{ℕ, ◌+◌, ◌-◌, ◌*◌, ◌^◌, ◌≤◌, ◌<◌, ◌≡◌, Bool, true, false, cond, eqb}
use Rattle.std.specs.Prelude.{List, [], ◌∷◌, map, length, get_or, drop, Result, IfOk, OnOk}
use Rattle.counting.specs.Ranges.{up_to}
use Rattle.counting.specs.Placing.{placed}
use Rattle.machine.specs.Refusals.{accepted}
use Rattle.machine.specs.Images.{
  slot,
  STATE,
  EST,
  LIS,
  AHEAD,
  PASSES,
  row_slots,
  turn_slots,
  pass_row,
  pass_slots,
  bare_slots,
  slots,
  bare_length,
  image_length,
  row_place,
  turn_place,
  pass_place,
  code_of,
  turn_in,
  body_of,
  word_in,
  Found,
  found_in,
  slot_refusal,
  first_refusal,
  row_in,
  rows_in,
}
use Rattle.machine.specs.Tables.{Table}
use Rattle.machine.specs.declared.Row.{Row}
use Rattle.machine.specs.declared.ImageError.{ImageError}

-- ---- one word

abbrev pub found_at : ℕ → ℕ → Found
found_at r p =
    elim (eqb r accepted) [
      | true ↦ record { refusal = accepted; place = 0 }
      | false ↦ record { refusal = r; place = p }
    ]

pub record SetKind (k : ℕ) : Type 0 where
  pub from : EST ≤ k
  pub to : k ≤ AHEAD

pub record SetsFit (n q b c d : ℕ) (r : Bool) : Type 0 where
  pub est : r ≡ true → slot_refusal n (slot EST q) b ≡ 0
  pub lis : r ≡ true → slot_refusal n (slot LIS q) c ≡ 0
  pub ahead : r ≡ true → slot_refusal n (slot AHEAD q) d ≡ 0

-- ---- reading

pub record Sized (ws : List ℕ) (n : ℕ) (b : Bool) : Type 0 where
  pub some : 2 ≤ n
  pub few : n ≤ 16
  pub length_is : length ws ≡ cond b (image_length n) (bare_length n)

abbrev pub turn_of_words : List ℕ → ℕ → ℕ → ℕ
turn_of_words ws n q = cond (eqb q 0) 0 (turn_in (get_or ws (turn_place n q) 0))

unfoldable pub passes_refusal : List ℕ → ℕ → ℕ → Found
passes_refusal ws n q = first_refusal n (pass_place n q 0) (pass_row q 0 n) (drop (pass_place n q 0) ws)

abbrev pub words_refusal : List ℕ → ℕ → Bool → Found
words_refusal ws n b = first_refusal n 1 (cond b (slots n) (bare_slots n)) (drop 1 ws)

pub record Fits (ws : List ℕ) (n q : ℕ) (b f : Bool) : Type 0 where
  pub none : b ≡ true → f ≡ true → (passes_refusal ws n q).refusal ≡ 0
  pub bare : b ≡ false → f ≡ true

pub record AllFit (ws : List ℕ) (n m : ℕ) (b f : Bool) : Type 0 where
  pub none : b ≡ true → f ≡ true → (q : ℕ) → q < m → (passes_refusal ws n q).refusal ≡ 0
  pub bare : b ≡ false → f ≡ true

-- the words of process q were checked, and where they pass the row y is the one that they hold
pub record RowRead (ws : List ℕ) (n : ℕ) (b : Bool) (q : ℕ) (y : Row) (r : Result Bool ImageError) : Type 0 where
  pub found_is : found_in r ≡ first_refusal n (row_place q) (row_slots q 1) (drop (row_place q) ws)
  pub row_is : OnOk r (y ≡ row_in n ws q)
  pub fits : IfOk r (Fits ws n q b)

-- the words of all rows were checked in order, and where they pass the first rows are those that they hold
pub record RowsRead (ws : List ℕ) (n : ℕ) (b : Bool) (x y : Table) (r : Result Bool ImageError) : Type 0 where
  pub found_is : found_in r ≡ first_refusal n 1 (row_slots 0 n) (drop 1 ws)
  pub rows_are : OnOk r (y ≡ placed x 0 (rows_in n ws 0 n))
  pub fits : IfOk r (AllFit ws n n b)

-- likewise all words
pub record WordsRead (ws : List ℕ) (n : ℕ) (b : Bool) (x y : Table) (r : Result (Unit {0}) ImageError) : Type 0 where
  pub found_is : found_in r ≡ words_refusal ws n b
  pub rows_are : OnOk r (y ≡ placed x 0 (rows_in n ws 0 n))

-- ---- writing

pub record Packable (r : Row) : Type 0 where
  pub code_low : code_of r.location < 8
  pub act_low : r.act < 2
  pub bb_low : r.bb < 2
  pub level_low : r.level < 16

-- the word of kind k for row r of process q
abbrev pub word_for : ℕ → ℕ → Row → ℕ
word_for k q r = k * 2 ^ 28 + q * 2 ^ 16 + body_of k r

abbrev pub row_words_of : ℕ → Row → List ℕ
row_words_of q r = word_for STATE q r ∷ word_for EST q r ∷ word_for LIS q r ∷ word_for AHEAD q r ∷ []

abbrev pub rows_part : Table → List ℕ
rows_part t = map (word_in t) (row_slots 0 (length t))

abbrev pub turns_part : Table → List ℕ
turns_part t = map (word_in t) (turn_slots 1 (length t - 1))

-- the word with the count c of passes of q over r
abbrev pub pass_word : ℕ → ℕ → ℕ → ℕ
pass_word q r c = PASSES * 2 ^ 28 + q * 2 ^ 24 + r * 2 ^ 16 + c

unfoldable pub pass_words : ℕ → ℕ → List ℕ → List ℕ
unfolding up_to
pass_words n q l = up_to (λ r. pass_word q r (get_or l r 0)) n

abbrev pub passes_part : Table → List ℕ
passes_part t = map (word_in t) (pass_slots (length t) 0 (length t))
