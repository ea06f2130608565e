-- `check` meets its contract. Assumes nothing.
use Rattle.std.proofs.Common.{length}
use Rattle.tables.proofs.CheckLaws.{SoundSo}
use Rattle.tables.proofs.check.Given as goal

abbrev pub invariant-loop-q : goal.invariant-loop-q
invariant-loop-q l = SoundSo l.rows (length l.rows) l.q l.passes
