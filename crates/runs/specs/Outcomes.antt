-- What a run promises of a table, and what it answers.
--
--   Runs x o y r         <=>  the table x has become y, and r is the answer, by a run with outcome o.
--   RunsTo m ws r h t u  <=>  the words ws, under the settings m, make the table u of t, with the answer r and the
--                             tally h: what the function for C ensures.
--
-- Assumes nothing.
use Rattle.std.specs.Prelude.{ℕ, ◌≡◌, List}
use Rattle.machine.specs.Tables.{Table}
use Rattle.machine.specs.Runs.{Outcome, run_of, ran_of}
use Rattle.machine.specs.declared.Settings.{Settings}
use Rattle.machine.specs.declared.Ran.{Ran}
use Rattle.machine.specs.declared.Tally.{Tally}
use Rattle.runs.specs.declared.RunAnswer.{RunAnswer}

pub record Runs (x : Table) (o : Outcome) (y : Table) (r : RunAnswer) : Type 0 where
  pub becomes : y ≡ o.table
  pub ran_is : r.ran ≡ ran_of o
  pub tally_is : r.tally ≡ o.tally

abbrev pub RunsTo : Settings → List ℕ → Ran → Tally → Table → Table → Type 0
RunsTo m ws r h t u = (u ≡ (run_of m t ws).table) × (r ≡ ran_of (run_of m t ws)) × (h ≡ (run_of m t ws).tally)
