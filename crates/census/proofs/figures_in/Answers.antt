-- `figures_in` meets its contract. Assumes nothing.
use Prim.Native.Nat.{◌+◌}
use mathlib.Core.Path.{refl, ◌∙◌}
use native.Mathlib.Omega.{arith}
use native.Mathlib.Numerals.{add-one}
use lib.Dec.{leb, leb-zero}
use lib.ListN.{get_or, replicate}
use Rattle.census.specs.Series.{figure_at}
use Rattle.counting.proofs.RangeLaws.{filled_start, filled_next, filled_end}
use Rattle.counting.proofs.TestLaws.{times_bit}
use Rattle.census.proofs.figures_in.Goals as goal

pub loop-i-init : goal.loop-i-init
loop-i-init c =
    let g = figure_at c.args.n c.args.series.now in
    filled_next g 17 0 0 (replicate 17 0) (omega arith) (rw (leb-zero c.args.n) refl) (filled_start g 17)

pub loop-i-preserved : goal.loop-i-preserved
loop-i-preserved c =
    let n = c.args.n in
    let a = c.args.series.now in
    let at = c.loop-i in
    let e = times_bit (leb (at.i + 1) n) (get_or a at.i 0) _ c.reaches.ensures in
    filled_next (figure_at n a) 17 (at.i + 1) _ at.figures (omega arith) (e ∙ rw (add-one at.i) refl) at.invariant

pub returns : goal.returns
returns c =
    let at = c.loop-i in
    at.invariant ∙ filled_end (figure_at c.args.n c.args.series.now) 17 (at.i + 1) (omega arith)
