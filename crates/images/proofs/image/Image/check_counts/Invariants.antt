-- `check_counts` meets its contract. The invariant: what is left of the processes' words decides. Assumes nothing.
use mathlib.Core.Path.{◌≡◌}
use lib.ListN.{drop}
use Rattle.machine.specs.Images.{bare_length, pass_slots, first_refusal}
use Rattle.images.proofs.CountLaws.{from_passes}
use Rattle.images.proofs.image.Image.check_counts.Given as goal

abbrev pub invariant-loop-q : goal.invariant-loop-q
invariant-loop-q l =
    first_refusal l.self.size (bare_length l.self.size) (pass_slots l.self.size 0 l.self.size)
    (drop (bare_length l.self.size) l.self.words.now)
    ≡ from_passes l.self.size l.self.words.now l.q
