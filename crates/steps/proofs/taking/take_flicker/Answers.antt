-- `taking::take_flicker` meets its contract. Assumes nothing.
use mathlib.Core.Path.{refl, sym, ◌∙◌}
use native.Mathlib.Omega.{arith}
use Rattle.machine.specs.Words.{FLICKER}
use Rattle.machine.specs.Settings.{settings_of}
use Rattle.machine.specs.declared.Refusal.{Refusal}
use Rattle.machine.proofs.SettingLaws.{flicker_forbidden_lem, flicker_free}
use Rattle.steps.proofs.ReadLaws.{read_row}
use Rattle.steps.proofs.TakeLaws.{takes_moved, others_fit}
use Rattle.steps.proofs.SettingLaws.{takes_forbidden, takes_free}
use Rattle.steps.proofs.taking.take_flicker.Goals as goal

pub returns-then-flicker_forbidden_under : goal.returns-then-flicker_forbidden_under
returns-then-flicker_forbidden_under c =
    let m = settings_of c.args.memory in
    let x = c.args.rows.now in
    let own = read_row x c.args.p c.requires.one in
    let shows = rw own at (sym c.flicker_forbidden_under.ensures ∙ c.if-flicker_forbidden_under.true) in
    takes_forbidden m Refusal.PlainFlicker (sym c.in_ok-check_at.ensures)
    (flicker_forbidden_lem m x FLICKER c.args.p refl shows)

pub returns : goal.returns
returns c =
    let m = settings_of c.args.memory in
    let x = c.args.rows.now in
    let own = read_row x c.args.p c.requires.one in
    let shows = rw own at (sym c.flicker_forbidden_under.ensures ∙ c.if-flicker_forbidden_under.false) in
    takes_free m (flicker_free m x FLICKER c.args.p refl shows)
    (takes_moved (sym c.in_ok-check_at.ensures) (others_fit _ FLICKER _ (omega arith)) c.flicker.ensures)
