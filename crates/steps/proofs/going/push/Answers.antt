-- `going::push` meets its contract: GO at 24, the turn cell after the row. Assumes nothing.
use Prim.Native.Nat.{◌<◌}
use mathlib.Core.Path.{ap, ◌∙◌}
use lib.ListN.{length, set, length-set}
use Rattle.machine.specs.Tables.{row}
use Rattle.machine.specs.Shared.{turn_written, cell_at}
use Rattle.machine.specs.Steps.{turned, quiet, with_cell}
use Rattle.machine.specs.declared.Row.{Row}
use Rattle.machine.proofs.Forms.{gone_24}
use Rattle.steps.proofs.ReadLaws.{read_row}
use Rattle.steps.proofs.ToldLaws.{goes_at}
use Rattle.steps.proofs.going.push.Goals as goal

pub returns : goal.returns
unfolding cell_at turned
returns c =
    let x = c.args.rows.now in
    let p = c.args.p in
    let own = read_row x p c.requires.ready.one in
    let low : (row x p).level < length (set x p c.pushed.result) = simp length-set c.requires.ready.low in
    let turn = read_row (set x p c.pushed.result) (row x p).level low in
    let pushes = gone_24 x p c.requires.there in
    goes_at 24 c.requires.there
    (c.turn_written.ensures ∙ ap (λ (r : Row). with_cell (turn_written r.level) quiet) own)
    (cc)
