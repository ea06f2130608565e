-- `text::printing::put_refused` meets its contract. Assumes nothing.
use Rattle.std.proofs.Common.{sym, ap}
use Rattle.text.specs.Printing.{refused_text}
use Rattle.text.proofs.Puts.{put_both}
use Rattle.text.proofs.printing.put_refused.Goals as goal

pub returns-in-TooMany : goal.returns-in-TooMany
returns-in-TooMany g c =
    put_both g.met.S.Sink.laws (sym (ap refused_text c.in-TooMany.is)) c.put_posts.ensures c.put_stop.ensures
