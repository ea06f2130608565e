-- `write_passes` meets its contract. The invariant: the words over the first r processes are put. Assumes nothing.
use mathlib.Core.Path.{◌≡◌}
use Rattle.counting.proofs.PlacingLaws.{begun}
use Rattle.images.specs.Inner.{pass_words}
use Rattle.images.proofs.counts.write_passes.Given as goal

abbrev pub invariant-loop-r : goal.invariant-loop-r
invariant-loop-r l = l.out ≡ begun l.initial.out l.at (pass_words l.n l.q l.passes) l.r
