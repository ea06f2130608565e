-- `run_words` meets its contract: what is left of the run is what the loop still takes. Assumes nothing.
use Prim.Native.Nat.{ℕ, ◌≤◌}
use mathlib.Core.Path.{◌≡◌}
use lib.ListN.{length, drop}
use Rattle.machine.specs.Settings.{settings_of}
use Rattle.machine.specs.Runs.{run_from}
use Rattle.machine.specs.declared.Tally.{Tally}
use Rattle.runs.specs.Bounds.{outcome}
use Rattle.runs.proofs.run_words.Given as goal

-- the tally counts i words
pub record Counts (i : ℕ) (h : Tally) : Type 0 where
  pub words_are : h.words ≡ i
  pub comes_few : h.comes ≤ i
  pub arrivals_few : h.arrivals ≤ i

abbrev pub invariant-loop-i : goal.invariant-loop-i
invariant-loop-i g l = record {
  same_rows : l.system.rows.ghost_name ≡ l.initial.system.rows.ghost_name;
  same_memory : l.system.memory ≡ l.initial.system.memory;
  end_is : l.i-end ≡ length (g.W.Words.list l.words);
  few : length (g.W.Words.list l.words) ≤ 8192;
  counts : Counts l.i l.tally;
  left :
      outcome l.fn.system (g.W.Words.list l.words)
      ≡ run_from (settings_of l.system.memory) l.system.rows.now l.tally l.cell (drop l.i (g.W.Words.list l.words));
}
