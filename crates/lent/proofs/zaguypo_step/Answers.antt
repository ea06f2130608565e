-- `lent::zaguypo_step` meets its contract. Assumes nothing.
use Prim.Native.Nat.{ℕ}
use mathlib.Core.Path.{sym, ap, ◌∙◌}
use Rattle.std.specs.Prelude.{Ok, Err}
use Rattle.machine.specs.Refusals.{number, numbered}
use Rattle.machine.specs.Shared.{no_cell}
use Rattle.machine.specs.declared.StepAnswer.{StepAnswer}
use Rattle.lent.proofs.AnswerLaws.{told_c}
use Rattle.lent.proofs.zaguypo_step.Goals as goal

pub returns-in-Ok : goal.returns-in-Ok
returns-in-Ok c =
    let said = sym (ap numbered c.in-Ok.is) ∙ c.step.ensures.answer_is in
    (told_c _ c.args.rows.now c.args.word (Ok c.in-Ok.told) said, c.step.ensures.becomes)

pub returns-in-Err : goal.returns-in-Err
returns-in-Err c =
    let said = sym (ap numbered c.in-Err.is) ∙ c.step.ensures.answer_is in (
      ap (λ (k : ℕ). record { refusal = k; cell = no_cell }) c.into.ensures
          ∙ told_c _ c.args.rows.now c.args.word (Err (number c.in-Err.refusal)) said,
      c.step.ensures.becomes,
    )
