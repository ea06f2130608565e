-- `text::fields::put_long` meets its contract: it calls itself for a hundredth of the number, which is less.
-- Assumes nothing.
use Rattle.std.proofs.Common.{arith, sym}
use Rattle.text.proofs.Puts.{put_both}
use Rattle.text.proofs.DigitLaws.{decimal_long, length_decimal_long}
use Rattle.text.proofs.fields.+put_long.Goals as goal

pub put_long-requires : goal.put_long-requires
put_long-requires g t c κs within = (
  omega (arith, c.decreases, c.requires.long),
  (
    within,
    (
      omega (arith, c.if-n-lt10000.false),
      omega (arith, length_decimal_long c.args.n c.ranges.n.fits c.requires.long),
    ),
  ),
)

pub put_pair-requires-clause-room : goal.put_pair-requires-clause-room
put_pair-requires-clause-room g t c =
    omega (
      arith,
      length_decimal_long c.args.n c.ranges.n.fits c.requires.long,
      g.met.S.Sink.laws.takes_room c.put_long.ensures,
    )

pub returns : goal.returns
returns g t c =
    put_both g.met.S.Sink.laws (sym (decimal_long c.args.n c.ranges.n.fits c.requires.long))
    c.put_long.ensures c.put_pair.ensures
