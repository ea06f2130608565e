-- `going::rest` meets its contract: GO at 40. Assumes nothing.
use Rattle.machine.specs.Shared.{cell_at}
use Rattle.machine.proofs.Forms.{gone_40}
use Rattle.steps.proofs.ReadLaws.{read_row}
use Rattle.steps.proofs.ToldLaws.{goes_at}
use Rattle.steps.proofs.going.rest.Goals as goal

pub returns : goal.returns
unfolding cell_at
returns c =
    let x = c.args.rows.now in
    let own = read_row x c.args.p c.requires.ready.one in
    let rests = gone_40 x c.args.p c.requires.there in
    goes_at 40 c.requires.there c.act_written.ensures (cc)
