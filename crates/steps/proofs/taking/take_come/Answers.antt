-- `taking::take_come` meets its contract. Assumes nothing.
use mathlib.Core.Path.{sym}
use native.Mathlib.Omega.{arith}
use Rattle.machine.specs.Words.{COME}
use Rattle.steps.proofs.ToldLaws.{come_moves}
use Rattle.steps.proofs.TakeLaws.{takes_moved, others_fit}
use Rattle.steps.proofs.taking.take_come.Goals as goal

pub returns : goal.returns
returns c =
    takes_moved (sym c.in_ok-check_at.ensures) (others_fit _ COME _ (omega arith)) (come_moves _ c.come.ensures)
