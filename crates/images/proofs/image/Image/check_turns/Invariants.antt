-- `check_turns` meets its contract. The invariant: what is left of the words decides. Assumes nothing.
use mathlib.Core.Path.{◌≡◌}
use Rattle.images.proofs.WalkLaws.{from_turn}
use Rattle.images.proofs.image.Image.check_turns.Given as goal

abbrev pub invariant-loop-k : goal.invariant-loop-k
invariant-loop-k l = from_turn l.self.size l.self.words.now 1 ≡ from_turn l.self.size l.self.words.now l.k
