-- `run_counted` meets its contract. Assumes nothing.
use mathlib.Core.Path.{sym, ap₂, ◌∙◌}
use borrow.Author.Rules.{rules}
use Rattle.machine.specs.Tables.{Table}
use Rattle.machine.specs.Shared.{no_cell}
use Rattle.machine.specs.Settings.{settings_of}
use Rattle.machine.specs.Runs.{zero_tally, run_from, run_of}
use Rattle.machine.specs.declared.Memory.{Memory}
use Rattle.runs.specs.Bounds.{outcome}
use Rattle.runs.proofs.RunLaws.{as_run}
use Rattle.runs.proofs.CheckLaws.{taken_by}
use Rattle.runs.proofs.run_counted.Goals as goal

pub returns-in-Ok : goal.returns-in-Ok
returns-in-Ok c =
    let a = c.args in
    let ws = a.words.now in
    let s = c.run_words.ensures in
    let same = ap₂ (λ (k : Memory) (t : Table). run_from (settings_of k) t zero_tally no_cell ws) c.new.ensures.memory
    c.new.ensures.table in
    as_run (outcome c.new.result ws) (run_of a.settings a.rows.now ws) (search rules) s.becomes s.ran_is s.tally_is
    (same ∙ sym (taken_by a.settings ws a.rows.now c.in-Ok.memory c.in-Ok.ensures))
