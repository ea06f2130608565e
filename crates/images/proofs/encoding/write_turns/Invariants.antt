-- `write_turns` meets its contract. The invariant: the words of the turn cells up to turn[k] are put. Assumes nothing.
use Prim.Native.Nat.{◌-◌}
use mathlib.Core.Path.{◌≡◌}
use lib.ListN.{length}
use Rattle.counting.proofs.PlacingLaws.{begun}
use Rattle.machine.specs.Images.{turn_place}
use Rattle.images.specs.Inner.{turns_part}
use Rattle.images.proofs.encoding.write_turns.Given as goal

abbrev pub invariant-loop-k : goal.invariant-loop-k
invariant-loop-k l = l.out ≡ begun l.initial.out (turn_place (length l.rows) 1) (turns_part l.rows) (l.k - 1)
