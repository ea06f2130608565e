-- `write_counts` meets its contract. The invariant: the words of the first q processes are put. Assumes nothing.
use mathlib.Core.Path.{◌≡◌, ◌∙◌}
use native.Mathlib.Omega.{arith}
use lib.ListN.{length}
use Rattle.counting.specs.Placing.{placed}
use Rattle.machine.specs.Images.{pass_place}
use Rattle.machine.proofs.SoundRows.{sound_rows}
use Rattle.images.specs.Inner.{pass_words}
use Rattle.images.proofs.CountLaws.{passes_within}
use Rattle.images.proofs.WriteLaws.{row_at, passes_start, passes_next, passes_end}
use Rattle.images.proofs.counts.write_counts.Goals as goal

pub loop-q-init : goal.loop-q-init
loop-q-init c = passes_start c.args.rows.now c.args.out.now

pub write_passes-requires : goal.write_passes-requires
write_passes-requires c =
    let t = c.args.rows.now in
    let q = c.loop-q.q in
    let few = (sound_rows t c.requires.is_sound).1 in
    let kept : length c.loop-q.out ≡ length c.args.out.now = c.loop-q.auto.out in
    record {
      n_bound = (omega arith, c.loop-q-test.true);
      n_in_bounds = omega (arith, passes_within (length t) q c.loop-q-test.true, c.requires.long);
    }

pub loop-q-preserved : goal.loop-q-preserved
loop-q-preserved c =
    let t = c.args.rows.now in
    let q = c.loop-q.q in
    let h = c.loop-q-test.true in
    c.write_passes.ensures
    ∙ (λ i. placed (c.loop-q.invariant i) (pass_place (length t) q 0) (pass_words (length t) q (row_at t q h i).passes))
    ∙ passes_next t c.args.out.now q h c.requires.long

pub returns : goal.returns
returns c =
    let t = c.args.rows.now in
    let end : c.loop-q.q ≡ length t = omega arith in
    c.loop-q.invariant ∙ passes_end t c.args.out.now c.loop-q.q end
