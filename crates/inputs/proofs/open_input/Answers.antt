-- `open_input` meets its contract: bad bytes, a refused image, or its table and what stands after it. Assumes nothing.
use native.Mathlib.Omega.{arith}
use mathlib.Core.Path.{◌≡◌, refl, sym, ap, subst, ◌∙◌}
use mathlib.Core.List.{List}
use Prim.Native.Nat.{ℕ, ◌*◌, ◌≤◌}
use borrow.Author.Rules.{rules}
use lib.ListN.{length, take}
use lib.Seq.{length-take-le}
use Rattle.std.specs.Prelude.{Err}
use Rattle.counting.specs.Placing.{placed}
use Rattle.machine.specs.Images.{image_refusal}
use Rattle.machine.specs.Bytes.{words_in}
use Rattle.machine.proofs.InputLaws.{bytes_bad, bytes_words}
use Rattle.images.proofs.ReadingLaws.{Loaded, loaded}
use Rattle.octets.proofs.ByteLaws.{length_words_in, words_first, words_rest, take_unpacked}
use Rattle.inputs.specs.Splitting.{Splits}
use Rattle.inputs.specs.Opening.{Roomy}
use Rattle.inputs.specs.declared.InputError.TheVariants.{BadImage}
use Rattle.inputs.proofs.SplitLaws.{split_count}
use Rattle.inputs.proofs.OpeningLaws.{holds_refused, holds_longer, shows_many, shows_ready}
use Rattle.inputs.proofs.open_input.Goals as goal

-- the image's words are among those of the bytes
within : (bs : List ℕ) (m : ℕ) → Splits (words_in bs) m → 4 * m ≤ length bs
within bs m split = omega (arith, split.within, length_words_in bs)

-- and there is room for them
room : (bs ws : List ℕ) (m : ℕ) → Splits (words_in bs) m → Roomy bs ws → m ≤ 336 → m ≤ length ws
room bs ws m split roomy few =
    let count = split_count (words_in bs) m split in
    omega (arith, roomy (omega (arith, count)))

-- the words of the image, as they were unpacked
image_is : (bs ws y image : List ℕ) (m : ℕ) → Splits (words_in bs) m → image ≡ take (4 * m) bs
    → y ≡ placed ws 0 (words_in image)
    → take m y ≡ take m (words_in bs)
image_is bs ws y image m split front put =
    let long = ap length front ∙ length-take-le (4 * m) bs (within bs m split) in
    take_unpacked image ws y m (omega (arith, long)) put ∙ ap words_in front ∙ words_first m bs

pub returns-then-not-bytes_fit-clause-shows : goal.returns-then-not-bytes_fit-clause-shows
returns-then-not-bytes_fit-clause-shows c =
    bytes_bad c.args.input.now (sym c.bytes_fit.ensures ∙ c.if-not-bytes_fit.true)

-- ---- where the bytes fit

pub returns-then-m-gt-IMAGE_WORDS-clause-shows : goal.returns-then-m-gt-IMAGE_WORDS-clause-shows
returns-then-m-gt-IMAGE_WORDS-clause-shows c =
    let bytes = c.args.input.now in
    let count = split_count (words_in bytes) _ c.image_length-m.ensures in
    bytes_words bytes (sym c.bytes_fit.ensures ∙ c.if-not-bytes_fit.false)
    ∙ holds_longer (words_in bytes) (omega (arith, c.if-m-gt-IMAGE_WORDS.true))

pub split_at-requires : goal.split_at-requires
split_at-requires c = within c.args.input.now c.image_length-m.result c.image_length-m.ensures

pub unpack-count-requires : goal.unpack-count-requires
unpack-count-requires c =
    let bytes = c.args.input.now in
    let m = c.image_length-m in
    let enough = room bytes c.args.words.now m.result m.ensures c.requires.room (omega arith) in
    record { whole = omega (arith, c.split_at.ensures.front_len); room = omega (arith, c.split_at.ensures.front_len) }

pub returns-in_err-size-clause-shows : goal.returns-in_err-size-clause-shows
returns-in_err-size-clause-shows c =
    let bytes = c.args.input.now in
    let m = c.image_length-m in
    let parts = c.split_at.ensures in
    let e = c.in_err-size.field-0.0 in
    let same = image_is bytes c.args.words.now _ _ m.result m.ensures parts.front c.unpack-count.ensures.1 in
    let answer : c.from_residual.result ≡ Err (BadImage e) = search rules in
    rw answer
    (bytes_words bytes (sym c.bytes_fit.ensures ∙ c.if-not-bytes_fit.false)
    ∙ holds_refused (words_in bytes) m.result m.ensures e (c.in_err-size.ensures.found_is ∙ ap image_refusal same))

-- ---- a table was read

pub returns-then-events-gt-RUN_LIMIT-clause-shows : goal.returns-then-events-gt-RUN_LIMIT-clause-shows
returns-then-events-gt-RUN_LIMIT-clause-shows c =
    let bytes = c.args.input.now in
    let m = c.image_length-m in
    let parts = c.split_at.ensures in
    let y = c.read_cells.new.rows in
    let n = c.in_ok-size.size in
    let same = image_is bytes c.args.words.now _ _ m.result m.ensures parts.front c.unpack-count.ensures.1 in
    let read = subst (λ (l : List ℕ). Loaded l y n) same (loaded _ _ y n c.in_ok-size.ensures) in
    let rest = ap words_in parts.back ∙ words_rest m.result bytes in
    let among : n ≤ length y = omega (arith, read.few, c.read_cells.auto.rows, c.requires.rows) in
    let count = length_words_in c.split_at.result.1.now in
    rw (bytes_words bytes (sym c.bytes_fit.ensures ∙ c.if-not-bytes_fit.false))
    (shows_many (words_in bytes) m.result m.ensures y n read _ rest among (omega (arith, c.if-events-gt-RUN_LIMIT.true)))

pub returns-clause-shows : goal.returns-clause-shows
returns-clause-shows c =
    let bytes = c.args.input.now in
    let m = c.image_length-m in
    let parts = c.split_at.ensures in
    let y = c.read_cells.new.rows in
    let n = c.in_ok-size.size in
    let events = c.split_at.result.1.now in
    let same = image_is bytes c.args.words.now _ _ m.result m.ensures parts.front c.unpack-count.ensures.1 in
    let read = subst (λ (l : List ℕ). Loaded l y n) same (loaded _ _ y n c.in_ok-size.ensures) in
    let rest = ap words_in parts.back ∙ words_rest m.result bytes in
    let among : n ≤ length y = omega (arith, read.few, c.read_cells.auto.rows, c.requires.rows) in
    let count = length_words_in events in
    rw (bytes_words bytes (sym c.bytes_fit.ensures ∙ c.if-not-bytes_fit.false))
    (shows_ready (words_in bytes) m.result m.ensures y n read _ rest among events refl
    (omega (arith, c.if-events-gt-RUN_LIMIT.false)))

-- the events are a part of the input
pub returns-clause-part : goal.returns-clause-part
returns-clause-part c =
    record {
      image = c.image_length-m.result;
      split = c.image_length-m.ensures;
      rest = c.split_at.ensures.back;
    }
