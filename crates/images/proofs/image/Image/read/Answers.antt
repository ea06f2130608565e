-- `read` meets its contract: the rows decide where they refuse, else the turn cells, else the passes, where there are
-- such words. Assumes nothing.
use mathlib.Core.Path.{◌≡◌, refl, sym, ap, ◌∙◌}
use mathlib.Core.Bool.{Bool, true, false, false≢true}
use borrow.Author.Rules.{rules}
use Rattle.std.specs.Prelude.{Result, Ok, Err, OnOk}
use Rattle.tables.proofs.RefusalLaws.{number_some}
use Rattle.images.specs.Inner.{words_refusal}
use Rattle.images.proofs.CountLaws.{sized_long, sized_counted, counts_none}
use Rattle.images.proofs.ImageLaws.{image_rows, image_turns, image_bare, image_counts}
use Rattle.images.proofs.image.Image.read.Goals as goal

on_ok : {A E P : Type 0} (r : Result A E) → P → OnOk r P
on_ok (Ok x) p = p
on_ok (Err e) p = tt

pub returns-in_err-fit : goal.returns-in_err-fit
returns-in_err-fit c =
    let i = c.args.self.now in
    let e = c.in_err-fit.field-0.0 in
    let found = c.in_err-fit.ensures.found_is in
    let same : c.from_residual.result ≡ Err e = search rules in
    rw same
    (record {
      found_is =
          found
          ∙ sym (image_rows i.size i.words.now i.counted (λ z. number_some e.refusal (ap (λ f. f.refusal) found ∙ z)));
      rows_are = tt;
    })

-- where the rows pass
pub returns-in_err-check_turns : goal.returns-in_err-check_turns
returns-in_err-check_turns c =
    let i = c.args.self.now in
    let e = c.in_err-check_turns.field-0.0 in
    let found = c.in_err-check_turns.ensures in
    let none = sym (ap (λ f. f.refusal) c.in_ok-fit.ensures.found_is) in
    let long = sized_long i.words.now i.size i.counted i.sized in
    let same : c.from_residual-in_err-check_turns.result ≡ Err e = search rules in
    rw same
    (record {
      found_is =
          found
          ∙ sym (image_turns i.size i.words.now i.sized.some long none i.counted
          (λ z. number_some e.refusal (ap (λ f. f.refusal) found ∙ z)));
      rows_are = tt;
    })

-- where the turn cells pass too
pub returns-then-fit : goal.returns-then-fit
returns-then-fit c =
    let i = c.args.self.now in
    let n = i.size in
    let ws = i.words.now in
    let none = sym (ap (λ f. f.refusal) c.in_ok-fit.ensures.found_is) in
    let turns = c.in_ok-check_turns.ensures in
    let long = sized_long ws n i.counted i.sized in
    let by : (b : Bool) → i.counted ≡ b → record { refusal = 0; place = 0 } ≡ words_refusal ws n b =
    elim [
      | false ↦ λ b. turns ∙ sym (image_bare n ws i.sized.some long none)
      | true ↦ λ b.
          sym (image_counts n ws i.sized.some long none (sym (ap (λ f. f.refusal) turns))
          ∙ counts_none n ws (sized_counted ws n i.counted i.sized b) (c.in_ok-fit.ensures.fits.none b c.if-fit.true))
    ] in
    record { found_is = by i.counted refl; rows_are = c.in_ok-fit.ensures.rows_are }

pub returns : goal.returns
returns c =
    let i = c.args.self.now in
    let n = i.size in
    let ws = i.words.now in
    let read = c.in_ok-fit.ensures in
    let none = sym (ap (λ f. f.refusal) read.found_is) in
    let turns = sym (ap (λ f. f.refusal) c.in_ok-check_turns.ensures) in
    let long = sized_long ws n i.counted i.sized in
    let by : (b : Bool) → i.counted ≡ b → b ≡ true =
    elim [
      | false ↦ λ b. absurd (false≢true (sym c.if-fit.false ∙ read.fits.bare b))
      | true ↦ λ b. refl
    ] in
    record {
      found_is =
          c.check_counts.ensures
          ∙ sym (ap (words_refusal ws n) (by i.counted refl) ∙ image_counts n ws i.sized.some long none turns);
      rows_are = on_ok c.check_counts.result read.rows_are;
    }
