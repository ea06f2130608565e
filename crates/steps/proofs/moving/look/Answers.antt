-- `moving::look` meets its contract. Assumes nothing.
use Rattle.machine.specs.Shared.{cell_at}
use Rattle.steps.proofs.ReadLaws.{read_row}
use Rattle.steps.proofs.MoveLaws.{moved_look}
use Rattle.steps.proofs.moving.look.Goals as goal

pub returns : goal.returns
unfolding cell_at
returns c =
    let x = c.args.rows.now in
    let own = read_row x c.args.p c.requires.ready.one in
    let seen = read_row x c.args.q c.requires.seen in
    let looks = moved_look x c.args.p c.args.q in
    record { told_is = c.act_read.ensures; becomes = cc }
