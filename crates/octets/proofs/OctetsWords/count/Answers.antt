-- `octets::Octets` counts its words. Assumes nothing.
use mathlib.Core.Path.{sym}
use Rattle.octets.proofs.ByteLaws.{length_words_in}
use Rattle.octets.proofs.OctetsWords.count.Goals as goal

pub returns : goal.returns
returns c = sym (length_words_in c.args.self.now.bytes.now)
