-- `check_passes` meets its contract. The invariant: what is left of the words decides. Assumes nothing.
use mathlib.Core.Path.{◌≡◌}
use Rattle.images.specs.Inner.{passes_refusal}
use Rattle.images.proofs.CountLaws.{from_count}
use Rattle.images.proofs.image.Image.check_passes.Given as goal

abbrev pub invariant-loop-r : goal.invariant-loop-r
invariant-loop-r l = passes_refusal l.self.words.now l.self.size l.q ≡ from_count l.self.size l.self.words.now l.q l.r
