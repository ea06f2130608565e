-- `stepping::advance_under` meets its contract: a word that names a process is its kind, taken. Assumes nothing.
use mathlib.Core.Path.{sym, ◌∙◌}
use native.Mathlib.Omega.{arith}
use Rattle.machine.specs.Words.{STAY, COME, FLICKER, GO, LOOK, CANCEL}
use Rattle.machine.proofs.SettingLaws.{others_free}
use Rattle.steps.proofs.SettingLaws.{takes_free}
use Rattle.steps.proofs.StepLaws.{kind-steps, process-steps, ready, taken_so, kind_is, kind_last}
use Rattle.steps.proofs.stepping.advance_under.Goals as goal

-- ---- no such process, or no kind

pub returns-then-not-formed : goal.returns-then-not-formed
returns-then-not-formed c =
    let a = c.args in
    kind-steps a.memory a.rows.now a.word c.requires (sym c.formed.ensures ∙ c.if-not-formed.true)

pub returns-then-rows-p : goal.returns-then-rows-p
returns-then-rows-p c =
    let a = c.args in
    process-steps a.memory a.rows.now a.word c.requires (sym c.formed.ensures ∙ c.if-not-formed.false)
    (omega (arith, c.process_of-p.ensures, c.if-rows-p.true))

pub returns-then-not-formed-2 : goal.returns-then-not-formed-2
returns-then-not-formed-2 c =
    let a = c.args in
    kind-steps a.memory a.rows.now a.word c.requires (sym c.formed-2.ensures ∙ c.if-not-formed-2.true)

-- ---- the kinds

pub take_look-requires : goal.take_look-requires
take_look-requires c = ready c.args.rows.now c.requires _ (omega arith)

pub take_go-requires : goal.take_go-requires
take_go-requires c = ready c.args.rows.now c.requires _ (omega arith)

pub take_stay-requires : goal.take_stay-requires
take_stay-requires c = ready c.args.rows.now c.requires _ (omega arith)

pub take_flicker-requires : goal.take_flicker-requires
take_flicker-requires c = ready c.args.rows.now c.requires _ (omega arith)

pub take_come-requires : goal.take_come-requires
take_come-requires c = ready c.args.rows.now c.requires _ (omega arith)

pub take_cancel-requires : goal.take_cancel-requires
take_cancel-requires c = ready c.args.rows.now c.requires _ (omega arith)

pub returns-then-is_of : goal.returns-then-is_of
returns-then-is_of c =
    let a = c.args in
    let is = kind_is a.word LOOK (sym c.is_of.ensures ∙ c.if-is_of.true) in
    taken_so a.memory a.rows.now a.word c.requires LOOK _ _ is c.process_of-p.ensures c.argument_of-a.ensures (omega arith)
    (takes_free _ (others_free _ _ LOOK _ (omega arith) (omega arith)) c.take_look.ensures)

pub returns-then-is_of-2 : goal.returns-then-is_of-2
returns-then-is_of-2 c =
    let a = c.args in
    let is = kind_is a.word GO (sym c.is_of-2.ensures ∙ c.if-is_of-2.true) in
    taken_so a.memory a.rows.now a.word c.requires GO _ _ is c.process_of-p.ensures c.argument_of-a.ensures (omega arith)
    c.take_go.ensures

pub returns-then-is_of-3 : goal.returns-then-is_of-3
returns-then-is_of-3 c =
    let a = c.args in
    let is = kind_is a.word STAY (sym c.is_of-3.ensures ∙ c.if-is_of-3.true) in
    taken_so a.memory a.rows.now a.word c.requires STAY _ _ is c.process_of-p.ensures c.argument_of-a.ensures (omega arith)
    (takes_free _ (others_free _ _ STAY _ (omega arith) (omega arith)) c.take_stay.ensures)

pub returns-then-is_of-4 : goal.returns-then-is_of-4
returns-then-is_of-4 c =
    let a = c.args in
    let is = kind_is a.word FLICKER (sym c.is_of-4.ensures ∙ c.if-is_of-4.true) in
    taken_so a.memory a.rows.now a.word c.requires FLICKER _ _ is c.process_of-p.ensures c.argument_of-a.ensures
    (omega arith) c.take_flicker.ensures

pub returns-then-is_of-5 : goal.returns-then-is_of-5
returns-then-is_of-5 c =
    let a = c.args in
    let is = kind_is a.word COME (sym c.is_of-5.ensures ∙ c.if-is_of-5.true) in
    taken_so a.memory a.rows.now a.word c.requires COME _ _ is c.process_of-p.ensures c.argument_of-a.ensures (omega arith)
    (takes_free _ (others_free _ _ COME _ (omega arith) (omega arith)) c.take_come.ensures)

pub returns : goal.returns
returns c =
    let a = c.args in
    let is =
    kind_last a.word (sym c.formed-2.ensures ∙ c.if-not-formed-2.false) (sym c.is_of.ensures ∙ c.if-is_of.false)
    (sym c.is_of-2.ensures ∙ c.if-is_of-2.false) (sym c.is_of-3.ensures ∙ c.if-is_of-3.false)
    (sym c.is_of-4.ensures ∙ c.if-is_of-4.false) (sym c.is_of-5.ensures ∙ c.if-is_of-5.false) in
    taken_so a.memory a.rows.now a.word c.requires CANCEL _ _ is c.process_of-p.ensures c.argument_of-a.ensures (omega arith)
    (takes_free _ (others_free _ _ CANCEL _ (omega arith) (omega arith)) c.take_cancel.ensures)
