-- `check_run` meets its contract. Assumes nothing.
use mathlib.Core.Path.{◌≡◌}
use native.Mathlib.Omega.{arith}
use borrow.Author.Rules.{rules}
use Rattle.std.specs.Prelude.{Err}
use Rattle.runs.proofs.CheckLaws.{run_refused, run_allowed}
use Rattle.runs.proofs.check_run.Goals as goal

pub returns-in_err-memory : goal.returns-in_err-memory
returns-in_err-memory c =
    let a = c.args in
    let is : c.from_residual.result ≡ Err c.in_err-memory.field-0.0 = search rules in
    rw is (run_refused a.settings a.rows.now a.words.now c.in_err-memory.field-0.0 c.in_err-memory.ensures)

pub returns-then-words-gt-RUN_LIMIT : goal.returns-then-words-gt-RUN_LIMIT
returns-then-words-gt-RUN_LIMIT c =
    let a = c.args in
    (run_allowed a.settings a.rows.now c.in_ok-memory.memory c.in_ok-memory.ensures).too_many a.words.now (omega arith)
