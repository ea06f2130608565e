-- `sets::without` meets its contract: past 16 there is nothing to remove. Assumes nothing.
use mathlib.Core.Path.{sym}
use borrow.Author.Rules.{rules}
use Rattle.counting.proofs.SetLaws.{has_over, without_none}
use Rattle.sets.proofs.without.Goals as goal

pub returns-else-p-lt16 : goal.returns-else-p-lt16
returns-else-p-lt16 c =
    sym
    (without_none c.args.s c.args.p (search rules)
    (has_over c.args.s 16 c.args.p (search rules) (search rules)))
