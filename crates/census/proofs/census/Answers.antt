-- `census` meets its contract. Assumes nothing.
use mathlib.Core.Path.{refl, ◌∙◌}
use Rattle.census.proofs.CensusLaws.{census_refused}
use Rattle.tables.proofs.RefusalLaws.{number_some}
use Rattle.census.proofs.census.Goals as goal

pub returns-in-Err : goal.returns-in-Err
returns-in-Err c =
    let e = c.in-Err.ensures in
    let f = census_refused c.args.rows.now (λ z. number_some c.in-Err.refusal (e ∙ z)) in
    rw (f, c.into.ensures, e) refl
