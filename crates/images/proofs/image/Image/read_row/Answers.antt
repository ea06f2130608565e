-- `read_row` meets its contract: the row is that of the words where they stand. Assumes nothing.
use mathlib.Core.Path.{◌≡◌, sym, ap, ◌∙◌}
use borrow.Author.Rules.{rules}
use Rattle.std.specs.Prelude.{Err}
use Rattle.images.specs.RowWords.{row_of_words}
use Rattle.images.proofs.WalkLaws.{row_within, row_found, row_passes}
use Rattle.images.proofs.image.Image.read_row.Goals as goal

pub returns-in_err-check_row : goal.returns-in_err-check_row
returns-in_err-check_row c =
    let i = c.args.self.now in
    let q = c.args.q in
    let same : c.from_residual.result ≡ Err c.in_err-check_row.field-0.0 = search rules in
    rw same
    (record {
      found_is =
          c.in_err-check_row.ensures
          ∙ row_found i.size q c.row_words-w.result i.words.now (row_within _ _ _ q i.sized c.requires) c.row_words-w.ensures;
      row_is = tt;
      fits = tt;
    })

pub row_of-requires : goal.row_of-requires
row_of-requires c =
    row_passes c.args.self.now.size c.args.q c.row_words-w.result (sym (ap (λ f. f.refusal) c.in_ok-check_row.ensures))

pub returns : goal.returns
returns c =
    let i = c.args.self.now in
    let q = c.args.q in
    let read = c.passes-fit.ensures in
    record {
      found_is =
          c.in_ok-check_row.ensures
          ∙ row_found i.size q c.row_words-w.result i.words.now (row_within _ _ _ q i.sized c.requires) c.row_words-w.ensures;
      row_is =
          c.row_of.ensures
          ∙ (λ k. row_of_words (c.row_words-w.ensures k) (c.turn.ensures k) (read.list_value k));
      fits = read.fits;
    }
