-- What the step promises of a table.
--
--   checked m x           ==   the settings m, or the first of 6, 7 and 18 that refuses every word at the table x under m.
--   StepsUnder m x w y s  <=>  the step of word w under the settings m made y of the table x and answered s.
--
-- Assumes nothing.
use Rattle.std.specs.Prelude.{ℕ, ◌≡◌, cond, eqb, Result, Err}
use Rattle.machine.specs.Refusals.{accepted, numbered}
use Rattle.machine.specs.Tables.{Table, table_refusal}
use Rattle.machine.specs.Settings.{fitting, after_under, answer_under}
use Rattle.machine.specs.declared.Refusal.{Refusal}
use Rattle.machine.specs.declared.Settings.{Settings}
use Rattle.machine.specs.declared.Told.{Told}

abbrev pub checked : Settings → Table → Result Settings ℕ
checked m x = let n = table_refusal x in cond (eqb n accepted) (fitting m) (Err n)

pub record StepsUnder (m : Settings) (x : Table) (w : ℕ) (y : Table) (s : Result Told Refusal) : Type 0 where
  pub answer_is : numbered s ≡ answer_under m x w
  pub becomes : y ≡ after_under m x w
