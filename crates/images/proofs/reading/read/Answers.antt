-- `read` meets its contract: the rows past the table are blank, as they were. Assumes nothing.
use mathlib.Core.Path.{◌≡◌, sym, ap, ◌∙◌}
use mathlib.Core.List.{[]}
use borrow.Author.Rules.{rules}
use Rattle.std.specs.Prelude.{Err}
use Rattle.counting.proofs.PlacingLaws.{placed_padded}
use Rattle.machine.specs.Rows.{blank}
use Rattle.machine.specs.Tables.{handed}
use Rattle.machine.specs.Images.{table_in}
use Rattle.image_theorems.proofs.Reading.{read_accepted, read_refused}
use Rattle.tables.proofs.RefusalLaws.{number_some}
use Rattle.images.proofs.reading.read.Goals as goal

pub returns-in_err-size : goal.returns-in_err-size
returns-in_err-size c =
    let ws = c.args.words.now in
    let e = c.in_err-size.field-0.0 in
    let found = c.in_err-size.ensures.found_is in
    let same : c.from_residual.result ≡ Err e = search rules in
    rw same
    (sym (read_refused ws (λ z. number_some e.refusal (ap (λ f. f.refusal) found ∙ z)) ∙ ap (λ f. handed f.refusal f.place []) (sym found)))

pub returns : goal.returns
returns c =
    let ws = c.args.words.now in
    let read = c.in_ok-size.ensures in
    let rows = read.rows_are ∙ placed_padded 16 blank (table_in ws) in
    (λ i. record { refusal = 0; place = 0; size = read.size_is i; rows = rows i })
    ∙ sym (read_accepted ws (sym (ap (λ f. f.refusal) read.found_is)))
