-- `going::go_forbidden` meets its contract. Assumes nothing.
use mathlib.Core.Path.{◌≡◌, sym, ap, ◌∙◌}
use borrow.Author.Rules.{rules}
use Rattle.machine.specs.Settings.{turn_number, settings_of}
use Rattle.machine.specs.declared.Row.{Row}
use Rattle.rows.specs.Pushing.{to_push}
use Rattle.tables.specs.Writers.{has_writer}
use Rattle.steps.proofs.ReadLaws.{read_row}
use Rattle.steps.proofs.SettingLaws.{forbids_away, forbids_by}
use Rattle.steps.proofs.going.go_forbidden.Goals as goal

pub returns-then-not-to_push : goal.returns-then-not-to_push
returns-then-not-to_push c =
    let a = c.args in
    let one : turn_number a.memory.turn ≡ 1 = search rules in
    let own = read_row a.rows.now a.p c.requires.one in
    sym (forbids_away a.rows.now a.p (settings_of a.memory) one c.requires.one
    (sym (c.to_push.ensures ∙ ap to_push own) ∙ c.if-not-to_push.true))

pub returns : goal.returns
returns c =
    let a = c.args in
    let one : turn_number a.memory.turn ≡ 1 = search rules in
    let own = read_row a.rows.now a.p c.requires.one in
    c.has_writer.ensures
    ∙ ap (λ (r : Row). has_writer r.level a.rows.now) own
    ∙ sym (forbids_by a.rows.now a.p (settings_of a.memory) one c.requires.one
    (sym (c.to_push.ensures ∙ ap to_push own) ∙ c.if-not-to_push.false))
