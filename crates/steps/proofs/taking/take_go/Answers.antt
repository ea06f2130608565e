-- `taking::take_go` meets its contract: with another argument than 0 it is refused. Assumes nothing.
use Rattle.machine.specs.Settings.{settings_of}
use Rattle.steps.proofs.TakeLaws.{go_argument, go_zero}
use Rattle.steps.proofs.SettingLaws.{takes_early}
use Rattle.steps.proofs.taking.take_go.Goals as goal

pub refusal_at-requires-clause-refused : goal.refusal_at-requires-clause-refused
refusal_at-requires-clause-refused c =
    λ z. c.if-a-ne0.true (go_argument c.args.rows.now c.args.p c.args.a z)

pub returns-then-a-ne0 : goal.returns-then-a-ne0
returns-then-a-ne0 c = takes_early (settings_of c.args.memory) _ c.refusal_at.ensures

pub returns : goal.returns
returns c = go_zero (settings_of c.args.memory) c.if-a-ne0.false c.go_under.ensures
