-- `sets::has` meets its contract: past 16 a u16 has no member. Assumes nothing.
use mathlib.Core.Path.{sym, ◌∙◌}
use borrow.Author.Rules.{rules}
use borrow.Author.Tests.{le-ltb}
use Rattle.counting.proofs.SetLaws.{has_over}
use Rattle.sets.proofs.has.Goals as goal

pub returns-else-q-lt16 : goal.returns-else-q-lt16
returns-else-q-lt16 c =
    le-ltb _ _ c.if-q-lt16.false ∙ sym (has_over c.args.s 16 c.args.q (search rules) c.if-q-lt16.false)
