-- `octets::Octets` hands out each of its words. Assumes nothing.
use native.Mathlib.Omega.{arith}
use Rattle.octets.proofs.ByteLaws.{length_words_in}
use Rattle.octets.proofs.OctetsWords.word.Goals as goal

pub word_at-requires : goal.word_at-requires
word_at-requires c = omega (arith, length_words_in c.args.self.now.bytes.now)
