-- `zaguypo::run_input` meets its contract: the call for what the input holds. Assumes nothing.
use mathlib.Core.Path.{refl}
use Rattle.machine.specs.Inputs.{input_of}
use Rattle.zaguypo.proofs.CallLaws.{held, calls_refused}
use Rattle.zaguypo.proofs.run_input.Goals as goal

pub returns-in-Ok : goal.returns-in-Ok
returns-in-Ok g c =
    held c.args.settings c.args.image.now c.args.input.now _ _ _ c.in-Ok.ensures.shows.holds c.run_table.ensures

pub returns-in-Err : goal.returns-in-Err
returns-in-Err g c =
    let s = c.args.settings in
    let l = c.args.image.now in
    let bs = c.args.input.now in
    held s l bs _ _ _ refl
    (calls_refused s l (input_of bs) _ c.in-Err.error c.refusal_for.result c.in-Err.ensures.shows c.refusal_for.ensures)
