-- `text::lines::put_numbers` calls itself for the numbers after the first.
use Rattle.std.proofs.Common.{length}
use Rattle.text.proofs.lines.+put_numbers.Given as goal

abbrev pub decreases-put_numbers : goal.decreases-put_numbers
decreases-put_numbers g l = length l.numbers.now
