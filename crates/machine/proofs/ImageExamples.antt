-- Images, evaluated, with passes and bare: one table in both forms; a count of 65,535; the words of kind E that are
-- refused; headers and lengths of both forms, in an image and in an input; the room that an image takes.
--
-- Assumes nothing.
use Prim.Native.Nat.{ℕ, ◌+◌}
use mathlib.Core.Path.{◌≡◌, refl}
use mathlib.Core.Bool.{true, false}
use mathlib.Core.List.{List, [], ◌∷◌, ◌++◌, map}
use lib.ListN.{take, replicate}
use Rattle.counting.specs.Ranges.{up_to}
use Rattle.counting.specs.Placing.{placed}
use Rattle.machine.specs.Rows.{idle, with_location, with_act, with_level, with_est, with_passes}
use Rattle.machine.specs.Tables.{Table, handed}
use Rattle.machine.specs.Settings.{weakest}
use Rattle.machine.specs.Runs.{Outcome, untaken, run_of}
use Rattle.machine.specs.Images
use Rattle.machine.specs.Bytes.{bytes_of}
use Rattle.machine.specs.Inputs.{Input, words_hold}
use Rattle.machine.specs.Calls.{call_of}
use Rattle.machine.specs.Text.{digits, printed}
use Rattle.machine.specs.Images.{Found}
use Rattle.machine.proofs.Benchmarks.{evaluated}

-- ---- both forms

-- process 0 at 21, process 1 at 20, each with a count over the other
abbrev between : ℕ → ℕ → Table
between c d =
    with_passes (0 ∷ c ∷ replicate 14 0) (with_location 21 (with_act 1 (with_level 1 (with_est 2 idle))))
    ∷ with_passes (d ∷ replicate 15 0) (with_location 20 idle)
    ∷ []

-- the words for all but the counts
abbrev cells : List ℕ
cells =
    0x90002201 ∷ 0xA0000002 ∷ 0xB0000000 ∷ 0xC0000000 ∷ 0x90011000 ∷ 0xA0010000 ∷ 0xB0010000 ∷ 0xC0010000 ∷
    0xD0010000 ∷ []

-- the bare image, and the one with these words of kind E
abbrev bare : List ℕ
bare = 0x80000002 ∷ cells

abbrev image : List ℕ → List ℕ
image es = 0x81000002 ∷ cells ++ es

-- the words of kind E for such counts
abbrev counted : ℕ → ℕ → List ℕ
counted c d = 0xE0000000 ∷ (0xE0010000 + c) ∷ (0xE1000000 + d) ∷ 0xE1010000 ∷ []

-- without counts both are read to one table, which is written in the new form
pub both_forms :
    (Images.read_image bare ≡ handed 0 0 (between 0 0))
    × (Images.read_image (image (counted 0 0)) ≡ handed 0 0 (between 0 0))
    × (Images.image_of (between 0 0) ≡ image (counted 0 0))
    × (Images.bare_image_of (between 0 0) ≡ bare)
unfolding up_to Images.read_image Images.image_of Images.bare_image_of
both_forms = (refl, refl, refl, refl)

-- counts are read and written, that of q over r in the row of q
pub counts_kept :
    (Images.read_image (image (counted 2 3)) ≡ handed 0 0 (between 2 3))
    × (Images.image_of (between 2 3) ≡ image (counted 2 3))
unfolding up_to Images.read_image Images.image_of
counts_kept = (refl, refl)

-- ---- a count of 65,535

-- GO of process 1 from an image in which it has this count over process 0, which competes
pub entry : ℕ → Outcome
unfolding evaluated up_to Images.table_in
entry c = run_of weakest (Images.table_in (image (counted 0 c))) (0x40010000 ∷ [])

-- 65,535 is read; the GO meets 15, no word is taken and the table is as given
pub full_stops :
    (Images.image_refusal (image (counted 0 65535)) ≡ record { refusal = 0; place = 0 })
    × (entry 65535 ≡ untaken (between 0 65535) 15)
    × (Images.image_of (entry 65535).table ≡ image (counted 0 65535))
unfolding entry Images.image_refusal Images.image_of
full_stops = (refl, refl, refl)

-- from 65,534 it is accepted and leads to 65,535
pub last_count :
    ((entry 65534).refusal ≡ 0)
    × (Images.image_of (entry 65534).table
    ≡ 0x81000002 ∷ 0x90002201 ∷ 0xA0000002 ∷ 0xB0000000 ∷ 0xC0000000 ∷ 0x90012201 ∷ 0xA0010001 ∷ 0xB0010000 ∷
    0xC0010001 ∷ 0xD0010000 ∷ 0xE0000000 ∷ 0xE0010000 ∷ 0xE100FFFF ∷ 0xE1010000 ∷ [])
unfolding entry Images.image_of
last_count = (refl, refl)

-- GO of process 0 and of process 1
abbrev events : List ℕ
events = 0x40000000 ∷ 0x40010000 ∷ []

-- from 65,535 as an input: `posts 2`, `0 0 21 22 0 -`, `stop 1 15`; and the call, which takes one word
pub full_stops_an_input :
    (printed (bytes_of (image (counted 0 65535) ++ events))
    ≡ 112 ∷ 111 ∷ 115 ∷ 116 ∷ 115 ∷ 32 ∷ 50 ∷ 10 ∷
    48 ∷ 32 ∷ 48 ∷ 32 ∷ 50 ∷ 49 ∷ 32 ∷ 50 ∷ 50 ∷ 32 ∷ 48 ∷ 32 ∷ 45 ∷ 10 ∷
    115 ∷ 116 ∷ 111 ∷ 112 ∷ 32 ∷ 49 ∷ 32 ∷ 49 ∷ 53 ∷ 10 ∷ [])
    × ((call_of weakest (bytes_of (image (counted 0 65535) ++ events)) (replicate 56 255)).number ≡ 256 + 15)
unfolding evaluated up_to digits printed call_of
full_stops_an_input = (refl, refl)

-- ---- words of kind E

abbrev found : ℕ → ℕ → Found
found why place = record { refusal = why; place = place }

-- the words at (0, 1) and (1, 0) exchanged; of (0, 0) as kind D; of (1, 0) with a q of 2; of (1, 1) with an r of 2; of
-- (0, 1) with bit 20, and with bit 23: 3 at its place
pub misplaced :
    map (λ es. Images.image_refusal (image es))
    ((0xE0000000 ∷ 0xE1000000 ∷ 0xE0010000 ∷ 0xE1010000 ∷ [])
    ∷ (0xD0000000 ∷ 0xE0010000 ∷ 0xE1000000 ∷ 0xE1010000 ∷ [])
    ∷ (0xE0000000 ∷ 0xE0010000 ∷ 0xE2000000 ∷ 0xE1010000 ∷ [])
    ∷ (0xE0000000 ∷ 0xE0010000 ∷ 0xE1000000 ∷ 0xE1020000 ∷ [])
    ∷ (0xE0000000 ∷ 0xE0110000 ∷ 0xE1000000 ∷ 0xE1010000 ∷ [])
    ∷ (0xE0000000 ∷ 0xE0810000 ∷ 0xE1000000 ∷ 0xE1010000 ∷ [])
    ∷ [])
    ≡ found 3 11 ∷ found 3 10 ∷ found 3 12 ∷ found 3 13 ∷ found 3 11 ∷ found 3 11 ∷ []
unfolding Images.image_refusal
misplaced = refl

-- process 0 has a count over itself, and process 1: 4 at its place; with bit 20 as well: 3, which is checked first;
-- before a misplaced word: 4, since the words are checked in order
pub over_itself :
    map (λ es. Images.image_refusal (image es))
    ((0xE0000001 ∷ 0xE0010000 ∷ 0xE1000000 ∷ 0xE1010000 ∷ [])
    ∷ (0xE0000000 ∷ 0xE0010000 ∷ 0xE1000000 ∷ 0xE101FFFF ∷ [])
    ∷ (0xE0100001 ∷ 0xE0010000 ∷ 0xE1000000 ∷ 0xE1010000 ∷ [])
    ∷ (0xE0000001 ∷ 0xE1010000 ∷ 0xE1000000 ∷ 0xE1010000 ∷ [])
    ∷ [])
    ≡ found 4 10 ∷ found 4 13 ∷ found 3 10 ∷ found 4 10 ∷ []
unfolding Images.image_refusal
over_itself = refl

-- ---- headers and lengths

-- first words of both forms for 1, 2, 16 and 17 processes, and one of neither form
pub headers :
    map Images.is_header
    (0x80000001 ∷ 0x80000002 ∷ 0x80000010 ∷ 0x80000011 ∷ 0x81000001 ∷ 0x81000002 ∷ 0x81000010 ∷ 0x81000011 ∷
    0x82000002 ∷ [])
    ≡ false ∷ true ∷ true ∷ false ∷ false ∷ true ∷ true ∷ false ∷ false ∷ []
headers = refl

-- how many words follow from them: for 2, 3 and 16 processes
pub lengths :
    map Images.length_in (0x80000002 ∷ 0x80000003 ∷ 0x80000010 ∷ 0x81000002 ∷ 0x81000003 ∷ 0x81000010 ∷ [])
    ≡ 10 ∷ 15 ∷ 80 ∷ 14 ∷ 24 ∷ 336 ∷ []
lengths = refl

-- the new header with 10 words, with 13 and with 15; the old one with 14 words, and with 9: 2, at the lesser of the
-- words that there are and those that there should be
pub wrong_lengths :
    map Images.image_refusal
    (image []
    ∷ image (take 3 (counted 0 0))
    ∷ image (counted 0 0 ++ (0 ∷ []))
    ∷ (bare ++ counted 0 0)
    ∷ take 9 bare
    ∷ [])
    ≡ found 2 10 ∷ found 2 13 ∷ found 2 14 ∷ found 2 10 ∷ found 2 9 ∷ []
unfolding Images.image_refusal
wrong_lengths = refl

-- an input is cut by its first word, after 14 words or after 10, and words of kind E after the 10 are event words;
-- event words in the place of those of kind E make a bad image, and too few of them one that is too short
pub cut_by_the_header :
    (words_hold (image (counted 2 3) ++ events) ≡ Input.Ready (between 2 3) events)
    × (words_hold (bare ++ events) ≡ Input.Ready (between 0 0) events)
    × (words_hold (bare ++ counted 2 3) ≡ Input.Ready (between 0 0) (counted 2 3))
    × (words_hold (image (events ++ events)) ≡ Input.BadImage 10 3)
    × (words_hold (image events) ≡ Input.BadImage 12 2)
unfolding up_to words_hold
cut_by_the_header = (refl, refl, refl, refl, refl)

-- ---- lent memory

-- 14 lent words have room for two processes, and one more is kept; 13 meet 13
pub lent_words :
    (Images.written_of (between 2 3) (replicate 14 7) ≡ record { refusal = 0; words = image (counted 2 3) })
    × (Images.written_of (between 2 3) (replicate 15 7)
    ≡ record { refusal = 0; words = image (counted 2 3) ++ (7 ∷ []) })
    × (Images.written_of (between 2 3) (replicate 13 7) ≡ record { refusal = 13; words = replicate 13 7 })
unfolding placed Images.written_of
lent_words = (refl, refl, refl)

-- so have 56 lent bytes of a call on the bare image, and 55 meet 13
pub lent_bytes :
    (call_of weakest (bytes_of bare) (replicate 56 7) ≡ record { number = 0; lent = bytes_of (image (counted 0 0)) })
    × (call_of weakest (bytes_of bare) (replicate 55 7) ≡ record { number = 13; lent = replicate 55 7 })
unfolding up_to call_of
lent_bytes = (refl, refl)
