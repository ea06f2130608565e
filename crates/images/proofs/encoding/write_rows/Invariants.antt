-- `write_rows` meets its contract. The invariant: the words of the first q rows are put. Assumes nothing.
use Prim.Native.Nat.{◌*◌}
use mathlib.Core.Path.{◌≡◌}
use Rattle.counting.proofs.PlacingLaws.{begun}
use Rattle.images.specs.Inner.{rows_part}
use Rattle.images.proofs.encoding.write_rows.Given as goal

abbrev pub invariant-loop-q : goal.invariant-loop-q
invariant-loop-q l = l.out ≡ begun l.initial.out 1 (rows_part l.rows) (4 * l.q)
