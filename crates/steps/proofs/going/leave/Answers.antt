-- `going::leave` meets its contract: GO at 30, a departure. Assumes nothing.
use Rattle.machine.specs.Shared.{cell_at}
use Rattle.machine.proofs.Forms.{gone_30}
use Rattle.steps.proofs.ReadLaws.{read_row}
use Rattle.steps.proofs.ToldLaws.{goes_at}
use Rattle.steps.proofs.going.leave.Goals as goal

pub returns : goal.returns
unfolding cell_at
returns c =
    let x = c.args.rows.now in
    let own = read_row x c.args.p c.requires.ready.one in
    let leaves = gone_30 x c.args.p c.requires.there in
    goes_at 30 c.requires.there c.with_event.ensures (cc)
