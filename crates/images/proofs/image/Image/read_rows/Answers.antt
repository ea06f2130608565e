-- `read_rows` meets its contract. The invariant: what is left of the rows' words decides the refusal, the first rows
-- are those read so far, and their passes fit where it says so. Assumes nothing.
use Prim.Native.Nat.{◌+◌}
use mathlib.Core.Path.{◌≡◌, sym, ap, ◌∙◌}
use native.Mathlib.Omega.{arith}
use borrow.Author.Rules.{rules}
use lib.ListN.{set}
use Rattle.counting.proofs.PlacingLaws.{begun_start, begun_next, begun_end}
use Rattle.std.specs.Prelude.{Err}
use Rattle.machine.specs.Rows.{blank}
use Rattle.machine.specs.Images.{row_in, rows_in}
use Rattle.image_theorems.proofs.RoundTrip.{length-rows_in, row-rows_in}
use Rattle.tables.proofs.RefusalLaws.{number_some}
use Rattle.images.proofs.WalkLaws.{from_row, rows_start, rows_stop, rows_on, rows_end}
use Rattle.images.proofs.CountLaws.{sized_long, fit_start, fit_next}
use Rattle.images.proofs.image.Image.read_rows.Goals as goal

pub loop-q-init : goal.loop-q-init
loop-q-init c =
    let i = c.args.self.now in
    let ws = i.words.now in
    (rows_start i.size ws, begun_start c.args.rows.now 0 (rows_in i.size ws 0 i.size), fit_start ws i.size i.counted)

pub returns-in_err-fit : goal.returns-in_err-fit
returns-in_err-fit c =
    let i = c.args.self.now in
    let ws = i.words.now in
    let e = c.in_err-fit.field-0.0 in
    let read = c.in_err-fit.ensures in
    let same : c.from_residual.result ≡ Err e = search rules in
    rw same
    (record {
      found_is =
          read.found_is
          ∙ sym (c.loop-q.invariant.0 ∙ rows_stop i.size ws c.loop-q.q c.loop-q-test.true
          (λ z. number_some e.refusal (ap (λ f. f.refusal) read.found_is ∙ z)));
      rows_are = tt;
      fits = tt;
    })

pub loop-q-preserved : goal.loop-q-preserved
loop-q-preserved c =
    let i = c.args.self.now in
    let n = i.size in
    let ws = i.words.now in
    let at = c.loop-q in
    let q = at.q in
    let read = c.in_ok-fit.ensures in
    let inv = at.invariant in
    let h = c.loop-q-test.true in
    let count = length-rows_in n ws 0 n in
    let row_is = ap (row_in n ws) {x = q} {y = 0 + q} (omega arith) ∙ sym (row-rows_in n ws 0 n q h) in (
      inv.0 ∙ rows_on n ws q h (sized_long ws n i.counted i.sized) (sym (ap (λ f. f.refusal) read.found_is)),
      (λ k. set (inv.1 k) q c.read_row.new.row)
          ∙ begun_next c.args.rows.now 0 (rows_in n ws 0 n) (omega arith) q (q + 1) q c.read_row.new.row blank
          (omega arith) (omega arith) (omega arith) (read.row_is ∙ row_is),
      fit_next ws n q i.counted at.fit c.in_ok-fit.field-0 inv.2 read.fits,
    )

pub returns : goal.returns
returns c =
    let i = c.args.self.now in
    let n = i.size in
    let ws = i.words.now in
    let l = c.loop-q in
    let end : l.q ≡ n = omega arith in
    record {
      found_is = sym (l.invariant.0 ∙ ap (from_row n ws) end ∙ rows_end n ws);
      rows_are =
          l.invariant.1 ∙ begun_end c.args.rows.now 0 (rows_in n ws 0 n) l.q (omega (arith, length-rows_in n ws 0 n));
      fits = record { none = λ t f j h. l.invariant.2.none t f j (omega arith); bare = l.invariant.2.bare };
    }
