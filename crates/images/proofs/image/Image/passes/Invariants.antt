-- `passes` meets its contract. The invariant: the first r counts are put, the others 0, and no digit of an upper half is
-- joined just where the words so far have theirs. Assumes nothing.
use Prim.Native.Nat.{◌+◌, ◌*◌, ◌/◌}
use mathlib.Core.Path.{◌≡◌}
use lib.Dec.{eqb}
use lib.ListN.{get_or}
use Rattle.counting.specs.Ranges.{every}
use Rattle.counting.proofs.RangeLaws.{filled}
use Rattle.machine.specs.Images.{PASSES}
use Rattle.image_theorems.proofs.RowWords.{readAt}
use Rattle.images.proofs.image.Image.passes.Given as goal

abbrev pub invariant-loop-r : goal.invariant-loop-r
invariant-loop-r l =
    let ws = l.self.words.now in
    let upper = PASSES * 4096 + l.q * 256 in
    (l.list ≡ filled (readAt l.self.size ws l.q) 16 l.r)
    × (l.blank ≡ (upper + l.r) * 65536)
    × (eqb (l.odd / 65536) 0 ≡ every (λ j. eqb (get_or ws (l.at + j) 0 / 65536) (upper + j)) l.r)
