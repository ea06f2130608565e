-- `has_writer` meets its contract: none of the rows passed is at 24 with the level, at each turn of the loop.
-- Assumes nothing.
use mathlib.Core.Path.{◌≡◌, refl, ap, sym, ◌∙◌}
use native.Mathlib.Omega.{arith}
use lib.ListN.{length}
use Rattle.std.proofs.lemmas.List.{get_or_default}
use Rattle.counting.specs.Ranges.{some}
use Rattle.counting.proofs.RangeLaws.{none_next, one_some}
use Rattle.machine.specs.Rows.{blank}
use Rattle.machine.specs.Tables.{row}
use Rattle.machine.specs.Settings.{writes_turn}
use Rattle.tables.proofs.has_writer.Goals as goal

pub loop-r-init : goal.loop-r-init
unfolding some
loop-r-init c = refl

pub returns-then-r-k : goal.returns-then-r-k
returns-then-r-k c =
    let t = c.args.rows.now in
    let k = c.args.k in
    let q = c.loop-r.r-index in
    sym
    (one_some (λ i. writes_turn k (row t i)) (length t) q (omega arith)
    (ap (writes_turn k) (sym (get_or_default t q _ blank (omega arith))) ∙ c.if-r-k.true))

pub loop-r-preserved : goal.loop-r-preserved
loop-r-preserved c =
    let t = c.args.rows.now in
    let k = c.args.k in
    let q = c.loop-r.r-index in
    none_next (λ i. writes_turn k (row t i)) q c.loop-r.invariant
    (ap (writes_turn k) (sym (get_or_default t q _ blank (omega arith))) ∙ c.if-r-k.false)

pub returns : goal.returns
returns c =
    let t = c.args.rows.now in
    let e : c.loop-r.r-index ≡ length t = omega arith in
    sym (sym (ap (some (λ i. writes_turn c.args.k (row t i))) e) ∙ c.loop-r.invariant)
