-- `text::running::put_run`: how far the printing has come (ProgressLaws), and how many processes are at 30.
-- Assumes nothing.
use Rattle.machine.specs.Bytes.{words_in}
use Rattle.text.specs.Running.{Counted}
use Rattle.text.proofs.ProgressLaws.{Printed}
use Rattle.text.proofs.running.put_run.Given as goal

abbrev pub invariant-loop-i : goal.invariant-loop-i
invariant-loop-i g l =
    Printed g.S.Sink.appended l.fn.out l.fn.rows (words_in l.fn.events) l.out l.system.rows.now l.i
    × Counted l.system l.inside
