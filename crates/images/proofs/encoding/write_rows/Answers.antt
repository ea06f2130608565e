-- `write_rows` meets its contract. The invariant: the words of the first q rows are put. Assumes nothing.
use Prim.Native.Nat.{◌+◌, ◌*◌}
use mathlib.Core.Path.{◌≡◌, sym, ◌∙◌, subst}
use native.Mathlib.Omega.{arith}
use lib.ListN.{length}
use Rattle.counting.specs.Placing.{placed}
use Rattle.counting.proofs.PlacingLaws.{begun_start, begun_more, begun_end}
use Rattle.machine.specs.Tables.{row}
use Rattle.machine.specs.Images.{row_place}
use Rattle.machine.proofs.SoundRows.{sound_rows}
use Rattle.images.specs.Inner.{Packable, row_words_of, rows_part}
use Rattle.images.proofs.WriteLaws.{row_at, packable, length-rows_part, row_words}
use Rattle.images.proofs.encoding.write_rows.Goals as goal

pub loop-q-init : goal.loop-q-init
loop-q-init c = begun_start c.args.out.now 1 (rows_part c.args.rows.now)

pub write_row-requires : goal.write_row-requires
write_row-requires c =
    let t = c.args.rows.now in
    let q = c.loop-q.q in
    let h = c.loop-q-test.true in
    let few = (sound_rows t c.requires.is_sound).1 in
    let kept : length c.loop-q.out ≡ length c.args.out.now = c.loop-q.auto.out in
    record {
      packable = subst Packable (sym (row_at t q h)) (packable t c.requires.is_sound q h);
      q_bound = (omega arith, omega (arith, c.requires.long));
    }

pub loop-q-preserved : goal.loop-q-preserved
loop-q-preserved c =
    let t = c.args.rows.now in
    let q = c.loop-q.q in
    let h = c.loop-q-test.true in
    let parts = length-rows_part t in
    c.write_row.ensures
    ∙ (λ i. placed (c.loop-q.invariant i) (row_place q) (row_words_of q (row_at t q h i)))
    ∙ begun_more c.args.out.now 1 (rows_part t) (omega (arith, c.requires.long)) (4 * q) (4 * (q + 1)) (row_place q)
    (row_words_of q (row t q)) 0 (omega arith) (omega arith) (omega arith) (λ k l. row_words t q k h l)

pub returns : goal.returns
returns c =
    let t = c.args.rows.now in
    c.loop-q.invariant ∙ begun_end c.args.out.now 1 (rows_part t) (4 * c.loop-q.q) (omega (arith, length-rows_part t))
