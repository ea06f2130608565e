-- `text::fields::put_middle` meets its contract. Assumes nothing.
use Rattle.std.proofs.Common.{arith, sym}
use Rattle.text.proofs.Puts.{put_both}
use Rattle.text.proofs.DigitLaws.{decimal_long, length_decimal_long}
use Rattle.text.proofs.fields.put_middle.Goals as goal

pub put_short-requires-clause-room : goal.put_short-requires-clause-room
put_short-requires-clause-room g c =
    omega (arith, length_decimal_long c.args.n c.ranges.n.fits c.requires.middle.0)

pub put_pair-requires-clause-room : goal.put_pair-requires-clause-room
put_pair-requires-clause-room g c =
    omega (
      arith,
      length_decimal_long c.args.n c.ranges.n.fits c.requires.middle.0,
      g.met.S.Sink.laws.takes_room c.put_short.ensures,
    )

pub returns : goal.returns
returns g c =
    put_both g.met.S.Sink.laws (sym (decimal_long c.args.n c.ranges.n.fits c.requires.middle.0)) c.put_short.ensures
    c.put_pair.ensures
