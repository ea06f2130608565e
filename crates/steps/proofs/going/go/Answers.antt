-- `going::go` meets its contract: of settings GO asks for one writer alone. Assumes nothing.
use Rattle.steps.proofs.SettingLaws.{go_as}
use Rattle.steps.proofs.going.go.Goals as goal

pub returns : goal.returns
returns c = go_as _ c.args.settings c.turn_for_go-turn.ensures c.go_under.ensures
