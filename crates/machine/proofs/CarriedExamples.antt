-- The number at 30, carried along, evaluated: from a sound image with two processes there, which no fresh table leads
-- to, one departs, another arrives beside the one that is still there, both depart later, and no other step changes the
-- number. Assumes nothing.
use Prim.Native.Nat.{ℕ}
use mathlib.Core.Path.{◌≡◌, refl}
use mathlib.Core.List.{List, [], ◌∷◌, ◌++◌}
use lib.ListN.{get_or, take}
use Rattle.counting.specs.Ranges.{up_to}
use Rattle.machine.specs.Rows.{idle, with_location, with_act}
use Rattle.machine.specs.Tables.{Table}
use Rattle.machine.specs.Steps.{after_words, event_of}
use Rattle.machine.specs.Census.{critical, census_of}
use Rattle.machine.specs.Settings.{weakest}
use Rattle.machine.specs.Runs.{carried_over, run_of}
use Rattle.machine.specs.Images
use Rattle.machine.specs.Bytes.{words_in, bytes_of}
use Rattle.machine.specs.Inputs.{words_hold, input_of}
use Rattle.machine.specs.Text.{digits, spaced, run_lines, text_of, printed}
use Rattle.machine.specs.declared.Event.{Event}
use Rattle.machine.specs.declared.Event.TheVariants.{Quiet, Come, Arrival, Departure}
use Rattle.machine.proofs.Benchmarks.{evaluated}

-- processes 0 and 1 at 30, process 2 at 21 on level 0
abbrev pub start : Table
start = with_location 30 (with_act 1 idle) ∷ with_location 30 (with_act 1 idle) ∷ with_location 21 (with_act 1 idle) ∷ []

-- 0 from 30 to 40, 2 from 21 to 30, 0 to 10, 20, 21 and 22, 1 from 30 to 40; a CANCEL of 0, which is refused at 22; 2
-- from 30 to 40
abbrev pub words : List ℕ
words =
    0x40000000 ∷ 0x40020000 ∷ 0x40000000 ∷ 0x20000000 ∷ 0x40000000 ∷ 0x40000000 ∷ 0x40010000 ∷ 0x60000000 ∷
    0x40020000 ∷ []

-- before the words, and after each of them
pub figures : (List ℕ → ℕ) → List ℕ
unfolding up_to
figures f = up_to (λ k. f (take k words)) 10

-- carried, and as the census has it
pub two_at_30_carried :
    (figures (carried_over start (critical start)) ≡ 2 ∷ 1 ∷ 2 ∷ 2 ∷ 2 ∷ 2 ∷ 2 ∷ 1 ∷ 1 ∷ 0 ∷ [])
    × (figures (λ ws. (census_of (after_words start ws)).critical) ≡ 2 ∷ 1 ∷ 2 ∷ 2 ∷ 2 ∷ 2 ∷ 2 ∷ 1 ∷ 1 ∷ 0 ∷ [])
unfolding figures evaluated carried_over after_words census_of
two_at_30_carried = (refl, refl)

-- a number that starts at 0, and not at the count in the table, is another
pub from_0_is_another : figures (carried_over start 0) ≡ 0 ∷ 0 ∷ 1 ∷ 1 ∷ 1 ∷ 1 ∷ 1 ∷ 0 ∷ 0 ∷ 0 ∷ []
unfolding figures evaluated carried_over
from_0_is_another = refl

-- the event of the word at a place
pub told : ℕ → Event
unfolding evaluated after_words
told k = event_of (after_words start (take k words)) (get_or words k 0)

pub two_at_30_told :
    told 0 ∷ told 1 ∷ told 2 ∷ told 3 ∷ told 4 ∷ told 5 ∷ told 6 ∷ told 8 ∷ []
    ≡ Departure ∷ Arrival ∷ Quiet ∷ Come ∷ Quiet ∷ Quiet ∷ Departure ∷ Departure ∷ []
unfolding told evaluated
two_at_30_told = refl

-- a run counts them as words: 7 were taken, up to the CANCEL, with one COME and one arrival
pub departure_is_a_word : (run_of weakest start words).tally ≡ record { words = 7; comes = 1; arrivals = 1 }
unfolding evaluated
departure_is_a_word = refl

-- ---- its text

pub image : List ℕ
image =
    0x81000003 ∷ 0x90006200 ∷ 0xA0000000 ∷ 0xB0000000 ∷ 0xC0000000 ∷ 0x90016200 ∷ 0xA0010000 ∷ 0xB0010000 ∷
    0xC0010000 ∷ 0x90022200 ∷ 0xA0020000 ∷ 0xB0020000 ∷ 0xC0020000 ∷ 0xD0010000 ∷ 0xD0020000 ∷ 0xE0000000 ∷
    0xE0010000 ∷ 0xE0020000 ∷ 0xE1000000 ∷ 0xE1010000 ∷ 0xE1020000 ∷ 0xE2000000 ∷ 0xE2010000 ∷ 0xE2020000 ∷ []

pub two_at_30_image : Images.image_of start ≡ image
unfolding image Images.row_slots Images.turn_slots Images.slots Images.body_of Images.word_in Images.image_of
two_at_30_image = refl

pub input : List ℕ
unfolding image bytes_of
input = bytes_of (image ++ words)

pub text : List ℕ
text =
    -- posts 3
    112 ∷ 111 ∷ 115 ∷ 116 ∷ 115 ∷ 32 ∷ 51 ∷ 10 ∷
    -- 0 0 30 40 1 -
    48 ∷ 32 ∷ 48 ∷ 32 ∷ 51 ∷ 48 ∷ 32 ∷ 52 ∷ 48 ∷ 32 ∷ 49 ∷ 32 ∷ 45 ∷ 10 ∷
    -- 1 2 21 30 2 -
    49 ∷ 32 ∷ 50 ∷ 32 ∷ 50 ∷ 49 ∷ 32 ∷ 51 ∷ 48 ∷ 32 ∷ 50 ∷ 32 ∷ 45 ∷ 10 ∷
    -- 2 0 40 10 2 wa0
    50 ∷ 32 ∷ 48 ∷ 32 ∷ 52 ∷ 48 ∷ 32 ∷ 49 ∷ 48 ∷ 32 ∷ 50 ∷ 32 ∷ 119 ∷ 97 ∷ 48 ∷ 10 ∷
    -- 3 0 10 20 2 -
    51 ∷ 32 ∷ 48 ∷ 32 ∷ 49 ∷ 48 ∷ 32 ∷ 50 ∷ 48 ∷ 32 ∷ 50 ∷ 32 ∷ 45 ∷ 10 ∷
    -- 4 0 20 21 2 wa0
    52 ∷ 32 ∷ 48 ∷ 32 ∷ 50 ∷ 48 ∷ 32 ∷ 50 ∷ 49 ∷ 32 ∷ 50 ∷ 32 ∷ 119 ∷ 97 ∷ 48 ∷ 10 ∷
    -- 5 0 21 22 2 -
    53 ∷ 32 ∷ 48 ∷ 32 ∷ 50 ∷ 49 ∷ 32 ∷ 50 ∷ 50 ∷ 32 ∷ 50 ∷ 32 ∷ 45 ∷ 10 ∷
    -- 6 1 30 40 1 -
    54 ∷ 32 ∷ 49 ∷ 32 ∷ 51 ∷ 48 ∷ 32 ∷ 52 ∷ 48 ∷ 32 ∷ 49 ∷ 32 ∷ 45 ∷ 10 ∷
    -- stop 7 10
    115 ∷ 116 ∷ 111 ∷ 112 ∷ 32 ∷ 55 ∷ 32 ∷ 49 ∷ 48 ∷ 10 ∷ []

pub two_at_30_printed : printed input ≡ text
unfolding image input text evaluated Images.row_slots Images.turn_slots Images.slots Images.spare_body Images.in_range
    Images.slot_refusal Images.first_refusal Images.rows_in Images.image_refusal Images.table_in printed digits spaced
    run_lines text_of input_of words_hold words_in
two_at_30_printed = refl
