-- A byte put on a page. Assumes nothing.
use Rattle.std.proofs.Common.{refl, arith}
use Rattle.counting.proofs.PlacingLaws.{placed_one}
use Rattle.text.proofs.sinks.PageSink.put_byte.Goals as goal

pub returns : goal.returns
returns c =
    let p = c.args.self in
    record {
      same_buffer = refl;
      bytes_are = placed_one p.bytes.now p.filled c.args.b (omega arith);
      filled_is = refl;
      room = c.requires;
    }
