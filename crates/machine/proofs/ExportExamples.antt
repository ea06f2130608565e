-- What C gets, evaluated: an example for each case of specs/Exports; that of the printed run is in Benchmarks.
-- Assumes nothing.
use Prim.Native.Nat.{ℕ}
use mathlib.Core.Path.{◌≡◌, refl}
use mathlib.Core.List.{List, [], ◌∷◌}
use lib.ListN.{replicate, take}
use Rattle.counting.specs.Ranges.{up_to}
use Rattle.counting.specs.Placing.{placed}
use Rattle.machine.specs.Rows.{idle, blank, with_location, with_act, with_passes}
use Rattle.machine.specs.Tables.{Table}
use Rattle.machine.specs.Exports.{parts_answer_of, word_answer_of, fresh_in, Loaded, unread, read_in}

-- ---- event words

pub apart_examples :
    (parts_answer_of 0x5003000A ≡ record { refusal = 0; kind = 5; process = 3; argument = 10 })
    × (parts_answer_of 0x60030000 ≡ record { refusal = 0; kind = 6; process = 3; argument = 0 })
    × (parts_answer_of 0x7003000A ≡ record { refusal = 8; kind = 0; process = 0; argument = 0 })
    × (parts_answer_of 0x50100000 ≡ record { refusal = 9; kind = 0; process = 0; argument = 0 })
apart_examples = (refl, refl, refl, refl)

pub together_examples :
    (word_answer_of 5 3 10 ≡ record { refusal = 0; word = 0x5003000A })
    × (word_answer_of 6 3 0 ≡ record { refusal = 0; word = 0x60030000 })
    × (word_answer_of 7 16 256 ≡ record { refusal = 8; word = 0 })
    × (word_answer_of 5 16 256 ≡ record { refusal = 9; word = 0 })
    × (word_answer_of 5 15 256 ≡ record { refusal = 11; word = 0 })
together_examples = (refl, refl, refl, refl, refl)

-- ---- tables in lent rows, of which each holds something else before

abbrev old : Table
old = with_act 1 blank ∷ with_act 2 blank ∷ with_act 3 blank ∷ []

pub fresh_examples :
    (fresh_in old ≡ record { refusal = 0; rows = idle ∷ idle ∷ idle ∷ [] })
    × (fresh_in (take 1 old) ≡ record { refusal = 6; rows = take 1 old })
    × (fresh_in (replicate 17 blank) ≡ record { refusal = 6; rows = replicate 17 blank })
fresh_examples = (refl, refl, refl)

-- process 0 at 30 and process 1 resting, which has passed 0 three times
pub image : List ℕ
image =
    0x81000002 ∷ 0x90006200 ∷ 0xA0000000 ∷ 0xB0000000 ∷ 0xC0000000 ∷
    0x90010000 ∷ 0xA0010000 ∷ 0xB0010000 ∷ 0xC0010000 ∷ 0xD0010000 ∷
    0xE0000000 ∷ 0xE0010000 ∷ 0xE1000003 ∷ 0xE1010000 ∷ []

pub read : List ℕ → Table → Loaded
unfolding image up_to placed read_in
read ws l = read_in ws l

-- the table in the first two rows, the third kept; one row too few; a cut image, for which no row suffices either
pub read_examples :
    (read image old
    ≡ record {
      answer = record { refusal = 0; place = 0; size = 2 };
      rows =
          with_location 30 (with_act 1 idle) ∷ with_passes (3 ∷ replicate 15 0) idle ∷ with_act 3 blank ∷ [];
    })
    × (read image (take 1 old) ≡ unread (take 1 old) 13 0)
    × (read (take 9 image) [] ≡ unread [] 2 9)
unfolding read image
read_examples = (refl, refl, refl)
