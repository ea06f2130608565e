-- `read_cells` meets its contract: the words past the header decide, and the rows are those of the table. Assumes
-- nothing.
use Prim.Native.Nat.{ℕ}
use mathlib.Core.Path.{sym, ap, ◌∙◌}
use mathlib.Core.List.{List}
use Rattle.counting.specs.Placing.{placed}
use Rattle.machine.specs.Images.{rows_in, table_in}
use Rattle.image_theorems.proofs.RoundTrip.{length-table_in}
use Rattle.images.specs.Inner.{words_refusal}
use Rattle.images.proofs.decoding.read_cells.Goals as goal

pub returns : goal.returns
unfolding table_in
returns c =
    let ws = c.args.words.now in
    let i = c.in_ok-image.image in
    let holds = c.in_ok-image.ensures.opened in
    let read = c.in_ok-read.ensures in
    record {
      found_is =
          read.found_is
          ∙ ap (λ (l : List ℕ). words_refusal l i.size i.counted) holds.words_are
          ∙ sym holds.refusal_is;
      size_is = sym (length-table_in ws i.size (sym holds.size_is));
      rows_are =
          read.rows_are
          ∙ ap (λ (l : List ℕ). placed c.args.rows.now 0 (rows_in i.size l 0 i.size)) holds.words_are
          ∙ ap (λ (n : ℕ). placed c.args.rows.now 0 (rows_in n ws 0 n)) holds.size_is;
      kept = c.read.auto.rows;
    }
