-- `taking::take_look` meets its contract. Assumes nothing.
use mathlib.Core.Path.{sym, ◌∙◌}
use native.Mathlib.Omega.{arith}
use Rattle.machine.specs.Words.{LOOK}
use Rattle.machine.specs.Steps.{argument_fits}
use Rattle.steps.proofs.ReadLaws.{read_row}
use Rattle.steps.proofs.TakeLaws.{row_accepts, row_refuses, may_look, takes_moved, others_fit}
use Rattle.steps.proofs.taking.take_look.Goals as goal

pub look-requires : goal.look-requires
unfolding argument_fits
look-requires c =
    let s = c.args in
    let own = read_row s.rows.now s.p c.requires.one in
    may_look c.requires (row_accepts s.rows.now LOOK s.p s.a (rw own at (sym c.looks.ensures ∙ c.if-looks.true)))

pub returns-then-looks : goal.returns-then-looks
unfolding argument_fits
returns-then-looks c =
    let s = c.args in
    let own = read_row s.rows.now s.p c.requires.one in
    takes_moved (row_accepts s.rows.now LOOK s.p s.a (rw own at (sym c.looks.ensures ∙ c.if-looks.true)))
    (others_fit _ LOOK _ (omega arith)) c.look.ensures

pub refusal_at-requires-clause-refused : goal.refusal_at-requires-clause-refused
unfolding argument_fits
refusal_at-requires-clause-refused c =
    let s = c.args in
    let own = read_row s.rows.now s.p c.requires.one in
    row_refuses s.rows.now LOOK s.p s.a (rw own at (sym c.looks.ensures ∙ c.if-looks.false))
