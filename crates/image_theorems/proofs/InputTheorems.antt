-- The promises about an input that holds a table (MANUAL, "Bytes and inputs" and "The call on bytes"): what it holds,
-- that its table is never refused afterwards, and that the number that C gets says what the run answers.
-- Assumes nothing.
use Prim.Native.Nat.{ℕ, ◌≤◌, ◌<◌}
use mathlib.Core.Path.{◌≡◌, ap, ◌∙◌, sym}
use mathlib.Core.Bool.{true}
use mathlib.Core.List.{List}
use native.Mathlib.Decide.{dec_le}
use native.Mathlib.Omega.{arith}
use lib.ListN.{length}
use Rattle.counting.proofs.TestLaws.{split}
use Rattle.machine.specs.Refusals.{accepted}
use Rattle.machine.specs.Tables.{Table, table_refusal}
use Rattle.machine.specs.Steps.{after_words}
use Rattle.machine.specs.Settings.{settings_fit}
use Rattle.machine.specs.Runs.{limit, Outcome, ran_of, run_of}
use Rattle.machine.specs.Images.{image_refusal, table_in}
use Rattle.machine.specs.Bytes.{words_in, bytes_fit}
use Rattle.machine.specs.Inputs.{image_part, event_part, Input, input_of}
use Rattle.machine.specs.Calls.{Called, number_of, room_for, ran_call, call_for, call_of}
use Rattle.machine.specs.declared.Settings.{Settings}
use Rattle.machine.proofs.SoundRows.{sound-accepted, accepted-sound}
use Rattle.machine.proofs.RunLaws.{run_of_settings, run_of_words, run_of_taken}
use Rattle.machine.proofs.InputLaws.{words_too_many, words_ready, bytes_words, call_unfit, call_ran, many_unfit}
use Rattle.machine.proofs.InputLaws.{many_words}
use Rattle.machine.proofs.WordsAreSteps.{words_keep_sound}
use Rattle.image_theorems.proofs.Reading.{accepted_facts}
use Rattle.image_theorems.proofs.RoundTrip.{table_sound}

-- The table of an accepted image is never refused afterwards, whatever words are given to it.
-- Excludes: an image that is read into a table which the step or the run then answers with 6 or 7.
pub never_refused : (ws : List ℕ) → (image_refusal ws).refusal ≡ accepted
    → (vs : List ℕ) → table_refusal (after_words (table_in ws) vs) ≡ accepted
never_refused ws z vs =
    let s = accepted-sound (table_in ws) (table_sound ws _ _ (accepted_facts ws z)) in
    sound-accepted (after_words (table_in ws) vs) (words_keep_sound (table_in ws) vs s).0

-- what a run answers, as one number
abbrev said : Outcome → ℕ
said o = number_of (ran_of o).taken (ran_of o).refusal

-- ---- an input whose bytes and whose image are accepted

module _ (bs : List ℕ) (fit : bytes_fit bs ≡ true)
    (read : (image_refusal (image_part (words_in bs))).refusal ≡ accepted) where
  -- its table and its event words
  abbrev pub table : Table
  table = table_in (image_part (words_in bs))

  abbrev pub words : List ℕ
  words = event_part (words_in bs)

  pub table_fits : table_refusal table ≡ accepted
  table_fits = table_sound (image_part (words_in bs)) _ _ (accepted_facts (image_part (words_in bs)) read)

  pub holds_ready : length words ≤ limit → input_of bs ≡ Input.Ready table words
  holds_ready h = bytes_words bs fit ∙ words_ready (words_in bs) read h

  pub holds_too_many : limit < length words → input_of bs ≡ Input.TooMany table
  holds_too_many h = bytes_words bs fit ∙ words_too_many (words_in bs) read h

  -- The number that C gets says what the run answers under the same settings, 18 and 12 included.
  -- Excludes: a call that counts or refuses otherwise than the run on the same table, words and settings.
  pub number_is_of_run : (m : Settings) (l : List ℕ)
      → room_for table ≤ length l
      → (call_of m bs l).number ≡ number_of (ran_of (run_of m table words)).taken (ran_of (run_of m table words)).refusal
  unfolding call_of ran_call
  number_is_of_run m l room = go (dec_le (length words) limit)
    where
      number : Called → ℕ
      number c = c.number

      ready : length words ≤ limit → (call_for m (Input.Ready table words) l).number ≡ said (run_of m table words)
      ready h =
          split (λ _. (call_for m (Input.Ready table words) l).number ≡ said (run_of m table words)) (settings_fit m)
          (λ f. ap number (call_ran m table words l f room) ∙ ap said (sym (run_of_taken m table words table_fits f h)))
          (λ f. ap number (call_unfit m table words l f) ∙ ap said (sym (run_of_settings m table words table_fits f)))

      many : limit < length words → (call_for m (Input.TooMany table) l).number ≡ said (run_of m table words)
      many h =
          split (λ _. (call_for m (Input.TooMany table) l).number ≡ said (run_of m table words)) (settings_fit m)
          (λ f. ap number (many_words m table words l f) ∙ ap said (sym (run_of_words m table words table_fits f h)))
          (λ f. ap number (many_unfit m table words l f) ∙ ap said (sym (run_of_settings m table words table_fits f)))

      go : Dec (length words ≤ limit) → (call_of m bs l).number ≡ said (run_of m table words)
      go (yes h) = ap (λ (i : Input). (call_for m i l).number) (holds_ready h) ∙ ready h
      go (no h) =
          let over : limit < length words = omega (arith, h) in
          ap (λ (i : Input). (call_for m i l).number) (holds_too_many over) ∙ many over
