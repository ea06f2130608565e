-- What an input holds, and the call for it, by their cases. Assumes nothing.
use Prim.Native.Nat.{ℕ, ◌≤◌, ◌<◌}
use mathlib.Core.Path.{◌≡◌, refl, ap, ap₂, ◌∙◌}
use mathlib.Core.Bool.{Bool, true, false, cond}
use mathlib.Core.List.{List}
use lib.Dec.{eqb, leb}
use lib.ListN.{length}
use borrow.Author.Tests.{eq-eqb, ne_eqb, le-leb, lt-leb}
use Rattle.machine.specs.Refusals.{accepted, too_many_words, too_few_lent, bad_settings}
use Rattle.machine.specs.Tables.{Table}
use Rattle.machine.specs.Settings.{settings_fit}
use Rattle.machine.specs.Runs.{limit}
use Rattle.machine.specs.Images.{image_refusal, table_in}
use Rattle.machine.specs.Bytes.{words_in, bytes_fit}
use Rattle.machine.specs.Inputs.{image_part, event_part, Input, words_hold, input_of}
use Rattle.machine.specs.Calls.{Called, refused_call, room_for, ran_call, call_for}
use Rattle.machine.specs.declared.Settings.{Settings}

-- ---- the words of an input

module _ (ws : List ℕ) where
  abbrev refusal : ℕ
  refusal = (image_refusal (image_part ws)).refusal

  abbrev runs : Bool → Input
  runs b =
      elim b [
        | false ↦ Input.TooMany (table_in (image_part ws))
        | true ↦ Input.Ready (table_in (image_part ws)) (event_part ws)
      ]

  abbrev reads : Bool → Input
  reads b =
      elim b [
        | false ↦ Input.BadImage (image_refusal (image_part ws)).place refusal
        | true ↦ runs (leb (length (event_part ws)) limit)
      ]

  words_by : (b : Bool) → eqb refusal accepted ≡ b → words_hold ws ≡ reads b
  unfolding words_hold
  words_by b e = ap reads e

  pub words_bad_image : (refusal ≡ accepted → ⊥)
      → words_hold ws ≡ Input.BadImage (image_refusal (image_part ws)).place refusal
  words_bad_image n = words_by false (ne_eqb refusal accepted n)

  pub words_too_many : refusal ≡ accepted → limit < length (event_part ws)
      → words_hold ws ≡ Input.TooMany (table_in (image_part ws))
  words_too_many z h =
      words_by true (eq-eqb refusal accepted z) ∙ ap runs (lt-leb (length (event_part ws)) limit h)

  pub words_ready : refusal ≡ accepted → length (event_part ws) ≤ limit
      → words_hold ws ≡ Input.Ready (table_in (image_part ws)) (event_part ws)
  words_ready z h =
      words_by true (eq-eqb refusal accepted z) ∙ ap runs (le-leb (length (event_part ws)) limit h)

-- ---- the bytes of an input

module _ (bs : List ℕ) where
  abbrev fits : Bool → Input
  fits b = elim b [ false ↦ Input.BadBytes | true ↦ words_hold (words_in bs) ]

  bytes_by : input_of bs ≡ fits (bytes_fit bs)
  unfolding input_of
  bytes_by = refl

  pub bytes_bad : bytes_fit bs ≡ false → input_of bs ≡ Input.BadBytes
  bytes_bad e = bytes_by ∙ ap fits e

  pub bytes_words : bytes_fit bs ≡ true → input_of bs ≡ words_hold (words_in bs)
  bytes_words e = bytes_by ∙ ap fits e

-- ---- the call for a table, under settings

module _ (s : Settings) (t : Table) (ws l : List ℕ) where
  abbrev fit : Bool → Bool → Called
  fit b c =
      elim b [
        | false ↦ refused_call l bad_settings
        | true ↦ elim c [ false ↦ refused_call l too_few_lent | true ↦ ran_call s t ws l ]
      ]

  call_by : call_for s (Input.Ready t ws) l ≡ fit (settings_fit s) (leb (room_for t) (length l))
  unfolding call_for
  call_by = refl

  pub call_unfit : settings_fit s ≡ false → call_for s (Input.Ready t ws) l ≡ refused_call l bad_settings
  call_unfit e = call_by ∙ ap (λ (b : Bool). fit b (leb (room_for t) (length l))) e

  pub call_short : settings_fit s ≡ true
      → length l < room_for t
      → call_for s (Input.Ready t ws) l ≡ refused_call l too_few_lent
  call_short e h = call_by ∙ ap₂ fit e (lt-leb (room_for t) (length l) h)

  pub call_ran : settings_fit s ≡ true → room_for t ≤ length l → call_for s (Input.Ready t ws) l ≡ ran_call s t ws l
  call_ran e h = call_by ∙ ap₂ fit e (le-leb (room_for t) (length l) h)

  -- more event words than a run takes
  abbrev many : Bool → Called
  many b = cond b (refused_call l too_many_words) (refused_call l bad_settings)

  many_by : call_for s (Input.TooMany t) l ≡ many (settings_fit s)
  unfolding call_for
  many_by = refl

  pub many_unfit : settings_fit s ≡ false → call_for s (Input.TooMany t) l ≡ refused_call l bad_settings
  many_unfit e = many_by ∙ ap many e

  pub many_words : settings_fit s ≡ true → call_for s (Input.TooMany t) l ≡ refused_call l too_many_words
  many_words e = many_by ∙ ap many e
