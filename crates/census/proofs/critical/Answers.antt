-- `critical` meets its contract. Assumes nothing.
use mathlib.Core.Path.{◌∙◌}
use lib.ListN.{length}
use Rattle.counting.proofs.CountLaws.{count_cong}
use Rattle.counting.proofs.TestLaws.{at_one}
use Rattle.machine.specs.Tables.{row}
use Rattle.machine.specs.Census.{is_critical}
use Rattle.census.specs.Series.{is_at}
use Rattle.census.proofs.critical.Goals as goal

pub returns : goal.returns
returns c =
    let t = c.args.rows.now in
    c.count_at.ensures
    ∙ count_cong (λ q. is_at 30 30 (row t q)) (λ q. is_critical (row t q)) (length t)
    (λ q l. at_one 30 (row t q).location)
