-- `forget` meets its contract: the rows passed have forgotten p, at each turn of the loop. Assumes nothing.
use Rattle.std.proofs.Common.{arith}
use Rattle.std.proofs.lemmas.List.{get_or_default}
use Rattle.std.proofs.lemmas.List.Edits.{map_over_more}
use Rattle.machine.specs.Steps.{forgets}
use Rattle.tables.proofs.forget.Goals as goal

pub loop-r-preserved : goal.loop-r-preserved
unfolding forgets
loop-r-preserved c =
    rw c.removed-r.ensures (map_over_more (forgets c.args.p) c.args.rows.now c.loop-r.rows c.loop-r.r-index _ (omega arith) c.loop-r.invariant (get_or_default c.loop-r.rows c.loop-r.r-index _ _ (omega arith)))
