-- `stepping::step` meets its contract. Assumes nothing.
use mathlib.Core.Path.{◌≡◌}
use borrow.Author.Rules.{rules}
use Rattle.std.specs.Prelude.{Err}
use Rattle.steps.proofs.StepLaws.{checked-steps}
use Rattle.steps.proofs.stepping.step.Goals as goal

pub returns-in_err-memory : goal.returns-in_err-memory
returns-in_err-memory c =
    let a = c.args in
    let is : c.from_residual.result ≡ Err c.in_err-memory.field-0.0 = search rules in
    rw is (checked-steps a.settings a.rows.now a.word c.in_err-memory.field-0.0 c.in_err-memory.ensures)
