-- `octets::unpack` meets its contract. The invariant of its loop: the first i words stand at the start.
-- Assumes nothing.
use mathlib.Core.Path.{◌≡◌}
use Rattle.machine.specs.Bytes.{words_in}
use Rattle.counting.proofs.PlacingLaws.{begun}
use Rattle.octets.proofs.unpack.Given as goal

abbrev pub invariant-loop-i : goal.invariant-loop-i
invariant-loop-i l = l.words ≡ begun l.initial.words 0 (words_in l.bytes) l.i
