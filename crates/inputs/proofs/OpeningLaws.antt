-- What an input holds by its cases, and what the answers say of it. Assumes nothing.
use mathlib.Core.Path.{◌≡◌, refl, sym, ap, ◌∙◌}
use mathlib.Core.Bool.{Bool, true, false}
use mathlib.Core.List.{List, [], ◌∷◌}
use Prim.Native.Nat.{ℕ, zero, suc, ◌≤◌, ◌<◌}
use native.Mathlib.Omega.{arith}
use lib.ListN.{length, get_or, take, drop, length-take}
use Rattle.machine.specs.Refusals.{no_header}
use Rattle.machine.specs.Runs.{limit}
use Rattle.machine.specs.Images.{says_passes, size_in, is_header, image_length, length_in, Found, image_refusal, table_in}
use Rattle.machine.specs.Inputs.{image_part, event_part, Input, words_hold}
use Rattle.machine.specs.Refusals.{number}
use Rattle.machine.specs.Tables.{Table}
use Rattle.machine.specs.Bytes.{words_in}
use Rattle.machine.specs.declared.ImageError.{ImageError}
use Rattle.machine.proofs.InputLaws.{words_bad_image, words_too_many, words_ready}
use Rattle.image_theorems.proofs.Headers.{header_facts}
use Rattle.image_theorems.proofs.Reading.{refused_header}
use Rattle.tables.proofs.RefusalLaws.{number_some}
use Rattle.images.proofs.CountLaws.{either_low}
use Rattle.inputs.specs.Splitting.{Splits}
use Rattle.inputs.specs.Opening.{Tabled, ShowsMany, ShowsReady}
use Rattle.images.proofs.ReadingLaws.{Loaded}

-- ---- the words of an input, of which the first m are its image

module _ (ws : List ℕ) (m : ℕ) (split : Splits ws m) where
  abbrev image : List ℕ
  image = take m ws

  abbrev found : List ℕ → ℕ
  found k = (image_refusal k).refusal

  pub holds_refused : (e : ImageError) → record { refusal = number e.refusal; place = e.place } ≡ image_refusal image
      → words_hold ws ≡ Input.BadImage e.place (number e.refusal)
  holds_refused e is =
      let all = is ∙ ap image_refusal split.image_is in
      words_bad_image ws (λ z. number_some e.refusal (ap (λ (f : Found). f.refusal) all ∙ z))
      ∙ ap (λ (f : Found). Input.BadImage f.place f.refusal) (sym all)

  -- an image that was read into the first n of the rows y, and the words es after it
  module _ (y : Table) (n : ℕ) (read : Loaded image y n) (es : List ℕ) (rest : es ≡ drop m ws) where
    table_is : table_in (image_part ws) ≡ take n y
    table_is = ap table_in (sym split.image_is) ∙ sym read.rows_are

    image_read : found (image_part ws) ≡ 0
    image_read = ap found (sym split.image_is) ∙ read.accepted

    events_are : event_part ws ≡ es
    events_are = sym split.events_are ∙ sym rest

    events_count : length (event_part ws) ≡ length es
    events_count = ap length events_are

    tabled : n ≤ length y → Tabled y n
    tabled h = record { sound = read.sound; few = read.few; within = h }

    pub shows_many : n ≤ length y → limit < length es → ShowsMany (words_hold ws) y n
    shows_many h many =
        record {
          holds =
              words_too_many ws image_read (omega (arith, events_count)) ∙ ap Input.TooMany table_is;
          table = tabled h;
        }

    pub shows_ready : n ≤ length y → (bs : List ℕ) → words_in bs ≡ es → length es ≤ limit
        → ShowsReady (words_hold ws) y n bs
    shows_ready h bs is few =
        record {
          holds =
              words_ready ws image_read (omega (arith, events_count))
              ∙ (λ x. Input.Ready (table_is x) ((events_are ∙ sym is) x));
          table = tabled h;
          few = omega (arith, ap length is);
        }

-- ---- more words than the longest image has

head_of_lem : (k : ℕ) (ws : List ℕ) → 0 < length (take k ws) → get_or (take k ws) 0 0 ≡ get_or ws 0 0
head_of_lem zero ws h = absurd (omega arith)
head_of_lem (suc k) [] h = refl
head_of_lem (suc k) (w ∷ ws) h = refl

module _ (ws : List ℕ) (long : image_length 16 < length (image_part ws)) where
  abbrev head : ℕ
  head = get_or ws 0 0

  no-header : is_header head ≡ false
  no-header = go (is_header head) refl
    where
      go : (b : Bool) → is_header head ≡ b → b ≡ false
      go false e = refl
      go true e =
          absurd
          (omega (
            arith,
            long,
            either_low (says_passes head) (size_in head) (header_facts head e).few,
            length-take (length_in head) ws,
          ))

  pub holds_longer : words_hold ws ≡ Input.BadImage 0 no_header
  holds_longer =
      let first = ap is_header (head_of_lem (length_in head) ws (omega (arith, long))) ∙ no-header in
      let refused = refused_header (image_part ws) first in
      words_bad_image ws (λ z. absurd (omega (arith, sym (ap (λ (f : Found). f.refusal) refused) ∙ z)))
      ∙ ap (λ (f : Found). Input.BadImage f.place f.refusal) refused
