-- The kinds of word of an image, by their numbers.
--
--   word_kind k  ==  the number of a kind.
--
-- Assumes nothing.
use Rattle.std.specs.Prelude.{ℕ}
use Rattle.machine.specs.Images.{STATE, EST, LIS, AHEAD, TURN, PASSES}
use Rattle.images.specs.declared.WordKind.{WordKind}
use Rattle.images.specs.declared.WordKind.TheVariants.{State, Est, Lis, Ahead, Turn, Passes}

abbrev pub word_kind : WordKind → ℕ
word_kind State = STATE
word_kind Est = EST
word_kind Lis = LIS
word_kind Ahead = AHEAD
word_kind Turn = TURN
word_kind Passes = PASSES
