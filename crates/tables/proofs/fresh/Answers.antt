-- `fresh` meets its contract. Assumes nothing.
use Rattle.std.proofs.Common.{rules, ◌≡◌}
use Rattle.machine.specs.Tables.{fresh_table}
use Rattle.tables.proofs.FreshLaws.{made_table}
use Rattle.tables.proofs.fresh.Goals as goal

pub returns : goal.returns
returns c =
    let first : c.fill.new.self ≡ fresh_table c.args.n = search rules in
    made_table c.args.n _ c.in_ok-check_size.ensures first
