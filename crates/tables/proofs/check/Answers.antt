-- `check` meets its contract. Assumes nothing.
use mathlib.Core.Path.{sym, ◌∙◌}
use mathlib.Core.Bool.{true, false}
use native.Mathlib.Omega.{arith}
use lib.ListN.{length}
use Rattle.std.proofs.lemmas.Result.{err_from_is_err_and}
use Rattle.tables.proofs.CheckLaws.{sound_start, sound_suc, sound_not, sound_all, refused_size, judged}
use Rattle.tables.proofs.check.Goals as goal

pub returns-in_err-check_size : goal.returns-in_err-check_size
returns-in_err-check_size c =
    let p = err_from_is_err_and c.from_residual.result c.from_residual.ensures.1 in
    rw (p.1, p.2) (refused_size c.args.rows.now _ c.in_err-check_size.ensures)

pub loop-q-init : goal.loop-q-init
loop-q-init c = sound_start c.args.rows.now (length c.args.rows.now)

pub returns-then-not-row_fits : goal.returns-then-not-row_fits
returns-then-not-row_fits c =
    let t = c.args.rows.now in
    let l = c.loop-q in
    let unsound = sound_not t (length t) l.q (omega arith) _ _ c.row_fits.ensures l.passes l.invariant c.if-not-row_fits.true in
    sym (judged t false c.in_ok-check_size.ensures unsound)

pub loop-q-preserved : goal.loop-q-preserved
loop-q-preserved c =
    let t = c.args.rows.now in
    let l = c.loop-q in
    sound_suc t (length t) l.q (omega arith) _ _ c.row_fits.ensures l.passes _ l.invariant c.if-not-row_fits.false
    c.joined-more.ensures

pub returns-then-not-rest_clear : goal.returns-then-not-rest_clear
returns-then-not-rest_clear c =
    let t = c.args.rows.now in
    let l = c.loop-q in
    let all = sound_all t (length t) l.q l.passes (omega arith) l.invariant ∙ sym c.rest_clear.ensures.told in
    sym (judged t false c.in_ok-check_size.ensures (all ∙ c.if-not-rest_clear.true))

pub returns : goal.returns
returns c =
    let t = c.args.rows.now in
    let l = c.loop-q in
    let all = sound_all t (length t) l.q l.passes (omega arith) l.invariant ∙ sym c.rest_clear.ensures.told in
    sym (judged t true c.in_ok-check_size.ensures (all ∙ c.if-not-rest_clear.false))
