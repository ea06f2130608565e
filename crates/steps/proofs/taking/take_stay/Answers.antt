-- `taking::take_stay` meets its contract. Assumes nothing.
use native.Mathlib.Omega.{arith}
use Rattle.machine.specs.Words.{STAY}
use Rattle.machine.specs.Steps.{allowed, argument_fits}
use Rattle.steps.proofs.ReadLaws.{read_row}
use Rattle.steps.proofs.ToldLaws.{stay_moves}
use Rattle.steps.proofs.TakeLaws.{row_accepts, row_refuses, takes_moved, others_fit}
use Rattle.steps.proofs.taking.take_stay.Goals as goal

pub returns-then-rows-p : goal.returns-then-rows-p
unfolding allowed argument_fits
returns-then-rows-p c =
    let s = c.args in
    let own = read_row s.rows.now s.p c.requires.one in
    takes_moved (row_accepts s.rows.now STAY s.p s.a (rw own at c.if-rows-p.true))
    (others_fit _ STAY _ (omega arith)) stay_moves

pub refusal_at-requires-clause-refused : goal.refusal_at-requires-clause-refused
unfolding allowed argument_fits
refusal_at-requires-clause-refused c =
    let s = c.args in
    let own = read_row s.rows.now s.p c.requires.one in
    row_refuses s.rows.now STAY s.p s.a (rw own at c.if-rows-p.false)
