-- `moving::flicker` meets its contract. Assumes nothing.
use mathlib.Core.Path.{sym, ap, ◌∙◌}
use Rattle.machine.specs.Shared.{turn_written}
use Rattle.machine.specs.Steps.{turned, quiet, with_cell}
use Rattle.machine.specs.declared.Row.{Row}
use Rattle.machine.proofs.Forms.{flickered_act, flickered_turn}
use Rattle.steps.proofs.ReadLaws.{read_row}
use Rattle.steps.proofs.MoveLaws.{moved_flicker}
use Rattle.steps.proofs.ToldLaws.{flicker_turn, flicker_act}
use Rattle.steps.proofs.moving.flicker.Goals as goal

pub returns-then-r-eq24 : goal.returns-then-r-eq24
unfolding turned
returns-then-r-eq24 c =
    let x = c.args.rows.now in
    let own = read_row x c.args.p c.requires.ready.one in
    let there = rw own at c.if-r-eq24.true in
    let turn = read_row x _ c.requires.ready.low in
    record {
      told_is =
          c.turn_written.ensures
          ∙ ap (λ (r : Row). with_cell (turn_written r.level) quiet) own
          ∙ flicker_turn x c.args.p c.args.a there;
      becomes = rw (own, turn) (sym (moved_flicker x c.args.p c.args.a ∙ flickered_turn x c.args.p c.args.a there));
    }

pub returns : goal.returns
returns c =
    let x = c.args.rows.now in
    let own = read_row x c.args.p c.requires.ready.one in
    let not_24 = rw own at c.if-r-eq24.false in
    record {
      told_is = c.act_written.ensures ∙ flicker_act x c.args.p c.args.a c.requires not_24;
      becomes = rw own (sym (moved_flicker x c.args.p c.args.a ∙ flickered_act x c.args.p c.args.a not_24));
    }
