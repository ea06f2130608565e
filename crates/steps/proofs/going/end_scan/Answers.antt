-- `going::end_scan` meets its contract: GO at 22. Assumes nothing.
use mathlib.Core.Path.{refl, sym}
use Rattle.machine.specs.Shared.{cell_at}
use Rattle.machine.proofs.Forms.{gone_22}
use Rattle.steps.proofs.ReadLaws.{read_row}
use Rattle.steps.proofs.ToldLaws.{goes_at}
use Rattle.steps.proofs.going.end_scan.Goals as goal

pub returns : goal.returns
unfolding cell_at
returns c =
    let x = c.args.rows.now in
    goes_at 22 c.requires.there refl
    (rw (read_row x c.args.p c.requires.ready.one) (sym (gone_22 x c.args.p c.requires.there)))
