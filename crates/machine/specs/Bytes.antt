-- Words as bytes, lowest byte first (MANUAL, "Bytes and inputs").
--
--   words_in bs   ==  the words that bytes hold.
--   bytes_of ws   ==  the bytes of words.
--   bytes_fit bs  <=> their count is a multiple of 4 and at most 34,112; else they meet 14.
--
-- Assumes nothing.
use Rattle.std.specs.Prelude.{ℕ, ◌+◌, ◌*◌, ◌/◌, ◌%◌, ◌^◌, Bool, ◌&&◌, List, [], ◌∷◌, eqb, leb, length}
use Rattle.machine.specs.Runs.{limit}
use Rattle.machine.specs.Images.{image_length}

unfoldable pub words_in : List ℕ → List ℕ
words_in [] = []
words_in (a ∷ []) = []
words_in (a ∷ b ∷ []) = []
words_in (a ∷ b ∷ c ∷ []) = []
words_in (a ∷ b ∷ c ∷ d ∷ bs) = (a + b * 2 ^ 8 + c * 2 ^ 16 + d * 2 ^ 24) ∷ words_in bs

unfoldable pub bytes_of : List ℕ → List ℕ
bytes_of [] = []
bytes_of (w ∷ ws) = (w % 2 ^ 8) ∷ (w / 2 ^ 8 % 2 ^ 8) ∷ (w / 2 ^ 16 % 2 ^ 8) ∷ (w / 2 ^ 24 % 2 ^ 8) ∷ bytes_of ws

-- the most bytes of an input, 34,112: those of the longest image and of the longest run
abbrev pub bytes_limit : ℕ
bytes_limit = 4 * (image_length 16 + limit)

abbrev pub bytes_fit : List ℕ → Bool
bytes_fit bs = eqb (length bs % 4) 0 && leb (length bs) bytes_limit
