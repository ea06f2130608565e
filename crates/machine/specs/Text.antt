-- The printed run, byte for byte (MANUAL, "The printed text").
--
--   decimal n         ==  the decimal digits of n, as ASCII codes.
--   line s ns         ==  a line: the text s and the numbers ns, with a space between two.
--   cell_text c       ==  a shared cell, as `-`, `ra3`, `wa0`, `rt1`, `wt15`.
--   run_lines t i ws  ==  a line for each taken word, the first of which is word i, and the last line.
--   text_of i         ==  the text for what an input holds.
--   printed bs        ==  the same for the input bytes bs.
--   is_whole s        <=> a text ends in a line feed, and its last line begins as only the last line of a text does.
--
-- Assumes nothing.
use Rattle.std.specs.Prelude.{ℕ, zero, suc, ◌+◌, ◌/◌, ◌%◌, Bool, true, false, cond, ◌&&◌, List, [], ◌∷◌, ◌++◌, eqb}
use Rattle.std.specs.Prelude.{ltb, length}
use Rattle.machine.specs.Refusals.{accepted, too_many_words, bad_bytes}
use Rattle.machine.specs.Tables.{Table, row, one_of}
use Rattle.machine.specs.Words.{process_of}
use Rattle.machine.specs.Shared.{READ, ACT}
use Rattle.machine.specs.Steps.{refusal_of, after_word, cell_of}
use Rattle.machine.specs.Census.{critical}
use Rattle.machine.specs.Inputs.{Input, input_of}
use Rattle.machine.specs.Inputs.Input.{BadBytes, BadImage, TooMany, Ready}
use Rattle.machine.specs.declared.SharedCell.{SharedCell}

-- ---- the fixed byte strings

-- `posts `
abbrev pub posts_text : List ℕ
posts_text = 112 ∷ 111 ∷ 115 ∷ 116 ∷ 115 ∷ 32 ∷ []

-- `done `
abbrev pub done_text : List ℕ
done_text = 100 ∷ 111 ∷ 110 ∷ 101 ∷ 32 ∷ []

-- `stop `
abbrev pub stop_text : List ℕ
stop_text = 115 ∷ 116 ∷ 111 ∷ 112 ∷ 32 ∷ []

-- `image `
abbrev pub image_text : List ℕ
image_text = 105 ∷ 109 ∷ 97 ∷ 103 ∷ 101 ∷ 32 ∷ []

-- `input `
abbrev pub input_text : List ℕ
input_text = 105 ∷ 110 ∷ 112 ∷ 117 ∷ 116 ∷ 32 ∷ []

-- ---- numbers and lines

-- the decimal digits of n, of which there are at most k
unfoldable pub digits : ℕ → ℕ → List ℕ
digits zero n = []
digits (suc k) n = elim (ltb n 10) [ true ↦ (48 + n) ∷ [] | false ↦ digits k (n / 10) ++ ((48 + n % 10) ∷ []) ]

-- a number of 64 bits has at most 20 digits
abbrev pub decimal : ℕ → List ℕ
decimal n = digits 20 n

-- numbers with a space between two
unfoldable pub spaced : List ℕ → List ℕ
spaced [] = []
spaced (n ∷ []) = decimal n
spaced (n ∷ m ∷ ns) = decimal n ++ (32 ∷ spaced (m ∷ ns))

-- a line: a text, numbers with a space between two, a line feed
abbrev pub line : List ℕ → List ℕ → List ℕ
line s ns = s ++ (spaced ns ++ (10 ∷ []))

-- a shared cell: `-` for none; else `r` where it is read and `w` where it is written, `a` for act and `t` for turn, and
-- its index
abbrev pub cell_text : SharedCell → List ℕ
cell_text c =
    cond (eqb c.access 0) (45 ∷ [])
    (cond (eqb c.access READ) 114 119 ∷ cond (eqb c.variable ACT) 97 116 ∷ decimal c.index)

-- ---- the text of a run

-- the numbers of a taken word: its place, its process, its location before and after, the number at 30 after
abbrev pub word_fields : Table → ℕ → ℕ → List ℕ
word_fields t i w =
    let p = process_of w in
    let u = after_word t w in
    i ∷ p ∷ (row t p).location ∷ (row u p).location ∷ critical u ∷ []

-- these numbers, a space, the shared cell of the word, a line feed
abbrev pub word_line : Table → ℕ → ℕ → List ℕ
word_line t i w = spaced (word_fields t i w) ++ (32 ∷ cell_text (cell_of t w) ++ (10 ∷ []))

-- the first line, and the last one of a run that took i words: all of them, or up to one that is refused
abbrev pub posts_line : Table → List ℕ
posts_line t = line posts_text (length t ∷ [])

abbrev pub done_line : ℕ → List ℕ
done_line i = line done_text (i ∷ [])

abbrev pub stop_line : ℕ → ℕ → List ℕ
stop_line i why = line stop_text (i ∷ why ∷ [])

unfoldable pub run_lines : Table → ℕ → List ℕ → List ℕ
unfolding spaced refusal_of after_word cell_of
run_lines t i [] = done_line i
run_lines t i (w ∷ ws) =
    elim (eqb (refusal_of t w) accepted) [
      | true ↦ word_line t i w ++ run_lines (after_word t w) (suc i) ws
      | false ↦ stop_line i (refusal_of t w)
    ]

-- what an input holds, printed
unfoldable pub text_of : Input → List ℕ
unfolding spaced run_lines
text_of BadBytes = line input_text (bad_bytes ∷ [])
text_of (BadImage place why) = line image_text (place ∷ why ∷ [])
text_of (TooMany t) = posts_line t ++ stop_line 0 too_many_words
text_of (Ready t ws) = posts_line t ++ run_lines t 0 ws

unfoldable pub printed : List ℕ → List ℕ
unfolding input_of text_of
printed bs = text_of (input_of bs)

-- ---- whether an output was cut

-- the first letters of `done `, `stop `, `image ` and `input `
abbrev pub begins_last : ℕ → Bool
begins_last b = one_of b (100 ∷ 115 ∷ 105 ∷ [])

-- what is left of a text is read on; `start` says whether a line begins here, and `last` whether the line that is
-- begun, or else the one that has just ended, begins as a last line
unfoldable pub ends_whole : Bool → Bool → List ℕ → Bool
ends_whole start last [] = start && last
ends_whole start last (b ∷ s) = ends_whole (eqb b 10) (cond start (begins_last b) last) s

abbrev pub is_whole : List ℕ → Bool
is_whole s = ends_whole true false s
