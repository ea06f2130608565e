-- `move_on` meets its contract. Assumes nothing.
use mathlib.Core.Path.{◌≡◌}
use mathlib.Core.Bool.{false, ◌&&◌, not}
use lib.Dec.{eqb}
use borrow.Author.Rules.{rules}
use Rattle.std.specs.Prelude.{Err}
use Rattle.machine.specs.Tables.{row}
use Rattle.steps.proofs.ReadLaws.{read_row}
use Rattle.steps.proofs.StepLaws.{ready}
use Rattle.rounds.proofs.MoveLaws.{listed_none, elsewhere, rest_moves, look_sees, look_moves, go_moves, go_refused}
use Rattle.rounds.proofs.move_on.Goals as goal
use Rattle.rounds.proofs.move_on.Goals.{then-r-ne0+else-r-eq22+else-rests, else-r-ne0}

-- ---- at 22 with a member of lis

pub look-told-requires : goal.look-told-requires
look-told-requires c =
    let own = read_row c.args.rows.now c.args.p c.requires.process_in in
    look_sees _ _ c.requires (rw own at c.if-r-eq22.true) (rw own at c.if-r-ne0.true) _ (rw own at c.first_of.ensures)

pub returns-then-r-eq22 : goal.returns-then-r-eq22
returns-then-r-eq22 c =
    let own = read_row c.args.rows.now c.args.p c.requires.process_in in
    look_moves _ _ c.requires (rw own at c.if-r-eq22.true) (rw own at c.if-r-ne0.true) _ (rw own at c.first_of.ensures)
    c.look-told.ensures

-- ---- at 10, with a member of lis and without

pub returns-then-rests : goal.returns-then-rests
returns-then-rests c =
    let own = read_row c.args.rows.now c.args.p c.requires.process_in in
    rest_moves _ _ c.requires (rw own at c.if-rests.true)

pub returns-then-rests-2 : goal.returns-then-rests-2
returns-then-rests-2 c =
    let own = read_row c.args.rows.now c.args.p c.requires.process_in in
    rest_moves _ _ c.requires (rw own at c.if-rests-2.true)

-- ---- elsewhere, or at 22 with no member of lis

pub go_under-requires : goal.go_under-requires
go_under-requires c = ready c.args.rows.now c.requires.table_sound _ c.requires.process_in

pub returns-in_err-_told : goal.returns-in_err-_told
returns-in_err-_told c =
    let own = read_row c.args.rows.now c.args.p c.requires.process_in in
    let no : (let r = row c.args.rows.now c.args.p in
    (eqb r.location 22 && not (eqb r.lis 0)) ≡ false) =
    let r = row c.args.rows.now c.args.p in
    elim c.if-r-ne0.branch [
      | then-r-ne0+else-r-eq22+else-rests w ↦ elsewhere r (rw own at w.if-r-eq22.false)
      | else-r-ne0 w ↦ listed_none r (rw own at w.if-r-ne0.false)
    ] in
    let is : c.from_residual.result ≡ Err c.in_err-_told.field-0.0 = search rules in
    rw is (go_refused _ _ c.requires (rw own at c.if-rests-2.false) no c.in_err-_told.ensures)

pub returns : goal.returns
returns c =
    let own = read_row c.args.rows.now c.args.p c.requires.process_in in
    let no : (let r = row c.args.rows.now c.args.p in
    (eqb r.location 22 && not (eqb r.lis 0)) ≡ false) =
    let r = row c.args.rows.now c.args.p in
    elim c.if-r-ne0.branch [
      | then-r-ne0+else-r-eq22+else-rests w ↦ elsewhere r (rw own at w.if-r-eq22.false)
      | else-r-ne0 w ↦ listed_none r (rw own at w.if-r-ne0.false)
    ] in
    rw own (go_moves _ _ c.requires (rw own at c.if-rests-2.false) no c.in_ok-_told.ensures)
