-- `read_rows` meets its contract. The invariant: what is left of the rows' words decides the refusal, the first rows
-- are those read so far, and their passes fit where it says so. Assumes nothing.
use mathlib.Core.Path.{◌≡◌}
use lib.ListN.{drop}
use Rattle.counting.proofs.PlacingLaws.{begun}
use Rattle.machine.specs.Images.{row_slots, first_refusal, rows_in}
use Rattle.images.specs.Inner.{AllFit}
use Rattle.images.proofs.WalkLaws.{from_row}
use Rattle.images.proofs.image.Image.read_rows.Given as goal

abbrev pub invariant-loop-q : goal.invariant-loop-q
invariant-loop-q l =
    let n = l.self.size in
    let ws = l.self.words.now in
    (first_refusal n 1 (row_slots 0 n) (drop 1 ws) ≡ from_row n ws l.q)
    × (l.rows ≡ begun l.initial.rows 0 (rows_in n ws 0 n) l.q)
    × AllFit ws n l.q l.self.counted l.fit
