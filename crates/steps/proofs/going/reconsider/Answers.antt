-- `going::reconsider` meets its contract: GO at 23. Assumes nothing.
use mathlib.Core.Path.{refl, sym, ap, ◌∙◌}
use mathlib.Core.Bool.{true, false}
use Rattle.machine.specs.Shared.{turn_read, asks_turn}
use Rattle.machine.specs.Steps.{quiet, with_cell}
use Rattle.machine.specs.declared.Row.{Row}
use Rattle.machine.proofs.Forms.{gone_23}
use Rattle.steps.proofs.ReadLaws.{read_row}
use Rattle.steps.proofs.ToldLaws.{goes_asking}
use Rattle.steps.proofs.going.reconsider.Goals as goal

pub returns-then-asks_turn : goal.returns-then-asks_turn
returns-then-asks_turn c =
    let x = c.args.rows.now in
    let there = c.requires.there in
    let own = read_row x c.args.p c.requires.ready.one in
    let turn = read_row x _ c.requires.ready.low in
    let asks = sym (c.asks_turn.ensures ∙ ap asks_turn own) ∙ c.if-asks_turn.true in
    let cell = c.turn_read.ensures ∙ ap (λ (r : Row). with_cell (turn_read r.level) quiet) own in
    let reconsiders = gone_23 x c.args.p there in
    goes_asking true there asks cell (cc)

pub returns : goal.returns
returns c =
    let x = c.args.rows.now in
    let there = c.requires.there in
    let own = read_row x c.args.p c.requires.ready.one in
    let turn = read_row x _ c.requires.ready.low in
    let asks = sym (c.asks_turn.ensures ∙ ap asks_turn own) ∙ c.if-asks_turn.false in
    let reconsiders = gone_23 x c.args.p there in
    goes_asking false there asks refl (cc)
