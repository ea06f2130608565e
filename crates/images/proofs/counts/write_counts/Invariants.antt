-- `write_counts` meets its contract. The invariant: the words of the first q processes are put. Assumes nothing.
use mathlib.Core.Path.{◌≡◌}
use Rattle.images.proofs.WriteLaws.{passes_put}
use Rattle.images.proofs.counts.write_counts.Given as goal

abbrev pub invariant-loop-q : goal.invariant-loop-q
invariant-loop-q l = l.out ≡ passes_put l.rows l.initial.out l.q
