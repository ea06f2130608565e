-- `add` meets its contract: the counts passed have the process, at each turn of the loop. Assumes nothing.
use native.Mathlib.Omega.{arith}
use Rattle.census.specs.Series.{more_at}
use Rattle.census.proofs.SeriesLaws.{counts_are}
use Rattle.census.proofs.add.Goals as goal

pub returns : goal.returns
returns c =
    let a = c.args in
    counts_are (more_at a.series.now a.from) c.loop-i.series c.loop-i.invariant.0 (λ k l. c.loop-i.invariant.1 k (omega arith))
