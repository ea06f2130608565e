-- `taking::take_cancel` meets its contract. Assumes nothing.
use mathlib.Core.Path.{sym}
use native.Mathlib.Omega.{arith}
use Rattle.machine.specs.Words.{CANCEL}
use Rattle.steps.proofs.ToldLaws.{cancel_moves}
use Rattle.steps.proofs.TakeLaws.{takes_moved, others_fit}
use Rattle.steps.proofs.taking.take_cancel.Goals as goal

pub returns : goal.returns
returns c =
    takes_moved (sym c.in_ok-check_at.ensures) (others_fit _ CANCEL _ (omega arith)) (cancel_moves _ c.cancel.ensures)
