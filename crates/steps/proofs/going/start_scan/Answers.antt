-- `going::start_scan` meets its contract: GO at 21, which arrives at level 0. Assumes nothing.
use Rattle.machine.proofs.Forms.{gone_21}
use Rattle.steps.proofs.ReadLaws.{read_row}
use Rattle.steps.proofs.ToldLaws.{goes_above, goes_arrives}
use Rattle.steps.proofs.going.start_scan.Goals as goal

pub returns-then-r-eq0 : goal.returns-then-r-eq0
returns-then-r-eq0 c =
    let x = c.args.rows.now in
    let there = c.requires.there in
    let own = read_row x c.args.p c.requires.ready.one in
    let arrives = gone_21 x c.args.p there in
    goes_arrives c.with_event.ensures there (rw own at c.if-r-eq0.true) (cc)

pub returns : goal.returns
returns c =
    let x = c.args.rows.now in
    let there = c.requires.there in
    let own = read_row x c.args.p c.requires.ready.one in
    let starts = gone_21 x c.args.p there in
    goes_above there (rw own at c.if-r-eq0.false) (cc)
