-- `octets::word_at` meets its contract. Assumes nothing.
use native.Mathlib.Omega.{arith}
use mathlib.Core.Path.{◌∙◌}
use Rattle.octets.proofs.ByteLaws.{read_is}
use Rattle.octets.proofs.word_at.Goals as goal

pub returns : goal.returns
returns c =
    c.from_le_bytes.ensures ∙ read_is c.args.bytes.now c.args.i (omega arith)
