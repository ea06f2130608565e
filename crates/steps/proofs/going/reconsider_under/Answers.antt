-- `going::reconsider_under` meets its contract. Assumes nothing.
use mathlib.Core.Path.{◌≡◌, refl, sym, ◌∙◌}
use mathlib.Core.Bool.{true}
use Rattle.machine.specs.Tables.{row}
use Rattle.machine.specs.Words.{GO}
use Rattle.machine.specs.Steps.{allowed, argument_fits}
use Rattle.machine.specs.Settings.{settings_of}
use Rattle.machine.specs.declared.Refusal.{Refusal}
use Rattle.machine.proofs.SettingLaws.{go_forbidden_lem, go_free}
use Rattle.steps.proofs.TakeLaws.{refused_not, goes_on}
use Rattle.steps.proofs.SettingLaws.{takes_forbidden, takes_free}
use Rattle.steps.proofs.going.reconsider_under.Goals as goal

pub returns-then-go_forbidden : goal.returns-then-go_forbidden
unfolding argument_fits allowed
returns-then-go_forbidden c =
    let x = c.args.rows.now in
    let m = settings_of c.args.memory in
    let may : allowed GO (row x c.args.p) ≡ true = rw c.requires.there refl in
    takes_forbidden m Refusal.SecondWriter (refused_not x GO c.args.p 0 may refl)
    (go_forbidden_lem m x GO c.args.p refl (sym c.go_forbidden.ensures ∙ c.if-go_forbidden.true))

pub returns : goal.returns
unfolding allowed
returns c =
    let x = c.args.rows.now in
    let m = settings_of c.args.memory in
    let may : allowed GO (row x c.args.p) ≡ true = rw c.requires.there refl in
    takes_free m (go_free m x GO c.args.p refl (sym c.go_forbidden.ensures ∙ c.if-go_forbidden.false))
    (goes_on 23 c.requires.there refl may c.reconsider.ensures)
