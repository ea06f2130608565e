-- `rounds` meets its contract. Assumes nothing.
use mathlib.Core.Path.{refl, sym, ◌∙◌}
use Rattle.machine.proofs.RoundAnswers.{rounds_refused, rounds_none, rounds-some}
use Rattle.tables.proofs.RefusalLaws.{number_some}
use Rattle.rounds.proofs.RoundLaws.{ends, some_is}
use Rattle.rounds.proofs.rounds.Goals as goal

pub returns-in-Err : goal.returns-in-Err
returns-in-Err c =
    let why = c.into.ensures in
    ends (rounds_refused c.args.rows.now _ (why ∙ c.in-Err.ensures) (λ z. number_some c.in-Err.refusal (sym why ∙ z)))
    c.answer.ensures refl

-- ---- where the table is sound

pub returns-then-count_at-eq0 : goal.returns-then-count_at-eq0
returns-then-count_at-eq0 c =
    let x = c.args.rows.now in
    let at-30 = some_is c.critical.ensures in
    ends (rounds_none x (sym c.in_default.ensures) (sym c.count_at.ensures ∙ c.if-count_at-eq0.true))
    (rw at-30 at c.answer-then-count_at-eq0.ensures) refl

pub returns : goal.returns
returns c =
    let x = c.args.rows.now in
    let h = c.run_rounds.ensures in
    ends (rounds-some x (sym c.in_default.ensures) (λ z. c.if-count_at-eq0.false (c.count_at.ensures ∙ z)))
    h.answer_is h.becomes
