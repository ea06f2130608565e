-- `count_at` meets its contract: how many of the rows passed are there, at each turn of the loop. Assumes nothing.
use mathlib.Core.Path.{◌≡◌, refl, ap, sym, ◌∙◌}
use native.Mathlib.Omega.{arith}
use lib.ListN.{length}
use Rattle.counting.specs.Sums.{count}
use Rattle.counting.proofs.CountLaws.{count_zero}
use Rattle.machine.specs.Tables.{row}
use Rattle.census.specs.Series.{is_at}
use Rattle.census.proofs.SeriesLaws.{count_fits, count_more}
use Rattle.census.proofs.count_at.Goals as goal

pub loop-r-init : goal.loop-r-init
loop-r-init c = sym (count_zero _)

pub overflow_add-s : goal.overflow_add-s
overflow_add-s c =
    let l = c.loop-r in
    record { fits = count_fits (is_at c.args.low c.args.high) c.args.rows.now l.r-index (omega arith) (omega arith) _ l.s l.invariant }

pub loop-r-preserved : goal.loop-r-preserved
loop-r-preserved c =
    let l = c.loop-r in
    count_more (is_at c.args.low c.args.high) c.args.rows.now l.r-index (omega arith) _ l.s _ l.invariant refl

pub returns : goal.returns
returns c =
    let t = c.args.rows.now in
    let e : c.loop-r.r-index ≡ length t = omega arith in
    c.loop-r.invariant ∙ ap (count (λ i. is_at c.args.low c.args.high (row t i))) e
