-- `moving::cancel` meets its contract. Assumes nothing.
use mathlib.Core.Path.{refl, sym}
use Rattle.machine.specs.Shared.{cell_at}
use Rattle.steps.proofs.ReadLaws.{read_row}
use Rattle.steps.proofs.MoveLaws.{moved_cancel}
use Rattle.steps.proofs.moving.cancel.Goals as goal

pub returns : goal.returns
unfolding cell_at
returns c =
    let x = c.args.rows.now in
    record {
      told_is = refl;
      becomes = rw (read_row x c.args.p c.requires.one) (sym (moved_cancel x c.args.p 0));
    }
