-- `text::fields::put_long` calls itself for a hundredth of the number, which is less.
use Rattle.text.proofs.fields.+put_long.Given as goal

abbrev pub decreases-put_long : goal.decreases-put_long
decreases-put_long g l = l.n
