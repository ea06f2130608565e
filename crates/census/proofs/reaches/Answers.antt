-- `reaches` meets its contract. Assumes nothing.
use Rattle.census.proofs.TestLaws.{near_reaches}
use Rattle.census.proofs.reaches.Goals as goal

pub returns : goal.returns
returns c = near_reaches c.args.i c.args.from c.requires
