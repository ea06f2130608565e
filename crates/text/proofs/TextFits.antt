-- Every text fits text_room bytes. Assumes nothing.
use mathlib.Core.Path.{◌≡◌, refl, sym, subst, ◌∙◌}
use mathlib.Core.Bool.{Bool, true, false, not, ◌&&◌}
use mathlib.Core.List.{List, [], ◌∷◌}
use Prim.Native.Nat.{ℕ, suc, ◌+◌, ◌≤◌, ◌<◌}
use native.Mathlib.Decide.{ℕ_discrete, dec_le}
use native.Mathlib.Nat.{min-le_right}
use native.Mathlib.Omega.{arith}
use lib.Dec.{eqb}
use lib.ListN.{length, get_or, drop, length-append}
use Rattle.counting.proofs.TestLaws.{split, cond_le}
use Rattle.machine.specs.Refusals.{accepted}
use Rattle.machine.specs.Tables.{level_fits, table_refusal}
use Rattle.machine.specs.Runs.{limit}
use Rattle.machine.specs.Images.{Slot, STATE, says_passes, size_in, is_header, length_in, slots_in}
use Rattle.machine.specs.Images.{location_in, level_in, in_range, off_diagonal, fits_slot}
use Rattle.machine.specs.Images.{Found, slot_refusal, first_refusal, image_refusal}
use Rattle.machine.specs.Bytes.{words_in, bytes_fit}
use Rattle.machine.specs.Inputs.{image_part, event_part, Input, input_of}
use Rattle.machine.specs.Inputs.Input.{BadBytes, BadImage, TooMany, Ready}
use Rattle.machine.specs.Text.{posts_line, run_lines, text_of, printed}
use Rattle.machine.specs.Exports.{printed_in}
use Rattle.machine.proofs.SoundRows.{sound_few}
use Rattle.machine.proofs.InputLaws.{words_bad_image, bytes_bad, bytes_words}
use Rattle.image_theorems.proofs.Slots.{length-slots}
use Rattle.image_theorems.proofs.Headers.{header_facts}
use Rattle.image_theorems.proofs.Reading.{refused_header, refused_length, refused_words}
use Rattle.image_theorems.proofs.InputTheorems.{table_fits, holds_ready, holds_too_many}
use Rattle.images.proofs.CountLaws.{either_low}
use Rattle.text.specs.Printing.{text_room}
use Rattle.text.proofs.RoomLaws.{length_input, length_image, length_posts, length_many, length-run_lines}

-- ---- the refusal of an image

-- a refusal up to 5, at a place up to m
record Low (m : ℕ) (f : Found) : Type 0 where
  pub number : f.refusal ≤ 5
  pub place : f.place ≤ m

slot_low : (n : ℕ) (s : Slot) (w : ℕ) → slot_refusal n s w ≤ 5
unfolding slot_refusal
slot_low n s w =
    let misfit = eqb s.kind STATE && not (level_fits (location_in w) (level_in w)) in
    let unfit = cond_le misfit 5 0 5 (omega arith) (omega arith) in
    let over = cond_le (not (off_diagonal s w && in_range n s.kind w)) 4 _ 5 (omega arith) unfit in
    cond_le (not (fits_slot s w)) 3 _ 5 (omega arith) over

first_low : (n i m : ℕ) (ss : List Slot) (ws : List ℕ) → i + length ss ≤ m → Low m (first_refusal n i ss ws)
unfolding first_refusal
first_low n i m [] ws h = record { number = omega arith; place = omega arith }
first_low n i m (s ∷ ss) [] h = record { number = omega arith; place = omega arith }
first_low n i m (s ∷ ss) (w ∷ ws) h =
    split
    (λ b. Low m (elim b as (λ _. Found) [
      | true ↦ first_refusal n (suc i) ss ws
      | false ↦ record { refusal = slot_refusal n s w; place = i }
    ]))
    (eqb (slot_refusal n s w) accepted)
    (λ e. first_low n (suc i) m ss ws (omega arith))
    (λ e. record { number = slot_low n s w; place = omega arith })

image_low : (ws : List ℕ) → Low 336 (image_refusal ws)
image_low ws = go (is_header head) refl (ℕ_discrete (length ws) (length_in head)) where
  head : ℕ
  head = get_or ws 0 0

  -- no image is longer than that of 16 processes
  long : is_header head ≡ true → length_in head ≤ 336
  long e = either_low (says_passes head) (size_in head) (header_facts head e).few

  go : (b : Bool) → is_header head ≡ b → Dec (length ws ≡ length_in head) → Low 336 (image_refusal ws)
  go false e l =
      subst (Low 336) (sym (refused_header ws e)) (record { number = omega arith; place = omega arith })
  go true e (yes l) =
      subst (Low 336) (sym (refused_words ws e l))
      (first_low (size_in head) 1 336 (slots_in head) (drop 1 ws)
      (omega (
        arith,
        long e,
        length-slots (says_passes head) (size_in head) (omega (arith, (header_facts head e).some)),
      )))
  go true e (no l) =
      subst (Low 336) (sym (refused_length ws e l))
      (record { number = omega arith; place = omega (arith, long e, min-le_right (length ws) (length_in head)) })

-- ---- what an input holds

-- numbers of three digits and of two; a sound table; and at most as many words as a run takes
abbrev pub Bounded : Input → Type 0
Bounded BadBytes = Unit {0}
Bounded (BadImage place why) = (place < 1000) × (why < 100)
Bounded (TooMany t) = table_refusal t ≡ accepted
Bounded (Ready t ws) = (table_refusal t ≡ accepted) × (length ws ≤ limit)

pub input_bounded : (bs : List ℕ) → Bounded (input_of bs)
input_bounded bs = go (bytes_fit bs) refl (ℕ_discrete found.refusal accepted) (dec_le (length events) limit) where
  found : Found
  found = image_refusal (image_part (words_in bs))

  events : List ℕ
  events = event_part (words_in bs)

  go : (b : Bool) → bytes_fit bs ≡ b
      → Dec (found.refusal ≡ accepted)
      → Dec (length events ≤ limit)
      → Bounded (input_of bs)
  go false e read few = subst Bounded (sym (bytes_bad bs e)) tt
  go true e (yes z) (yes h) = subst Bounded (sym (holds_ready bs e z h)) (table_fits bs e z, h)
  go true e (yes z) (no h) = subst Bounded (sym (holds_too_many bs e z (omega (arith, h)))) (table_fits bs e z)
  go true e (no z) few =
      let low = image_low (image_part (words_in bs)) in
      subst Bounded (sym (bytes_words bs e ∙ words_bad_image (words_in bs) z))
      (omega (arith, low.place), omega (arith, low.number))

-- ---- its text

length_text : (i : Input) → Bounded i → length (text_of i) ≤ text_room
unfolding text_of
length_text BadBytes b = omega (arith, length_input)
length_text (BadImage place why) b = omega (arith, length_image place why b.0 b.1)
length_text (TooMany t) sound = omega (arith, length_many (length t) (sound_few t sound))
length_text (Ready t ws) b =
    omega (
      arith,
      length-append (posts_line t) (run_lines t 0 ws),
      length_posts (length t) (sound_few t b.0),
      length-run_lines t 0 ws b.0 (omega (arith, b.1)),
      b.1,
    )

-- No input's text is longer than text_room: a buffer of TEXT_BYTES bytes is never too short.
pub text_fits : (bs : List ℕ) → length (printed bs) ≤ text_room
unfolding printed
text_fits bs = length_text (input_of bs) (input_bounded bs)

-- nor is what printing answers
pub answer_fits : (bs l : List ℕ) → (printed_in bs l).number ≤ text_room
unfolding printed_in
answer_fits bs l = text_fits bs
