-- `step_all` meets its contract: what is left of the list is what the loop still gives. Assumes nothing.
use mathlib.Core.Path.{◌≡◌}
use lib.ListN.{drop}
use Rattle.machine.specs.Settings.{settings_of, list_under}
use Rattle.exclusion_code.proofs.step_all.Given as goal

abbrev pub invariant-loop-word : goal.invariant-loop-word
invariant-loop-word l = record {
  same_rows : l.system.rows.ghost_name ≡ l.initial.system.rows.ghost_name;
  memory : settings_of l.system.memory ≡ l.fn.settings;
  left :
      list_under l.fn.settings l.fn.rows l.words
      ≡ list_under l.fn.settings l.system.rows.now (drop l.word-index l.words);
}
