-- `text::printing::put_text` meets its contract. Assumes nothing.
use Rattle.std.proofs.Common.{sym, ap}
use Rattle.text.specs.Printing.{opened_text}
use Rattle.text.proofs.Puts.{put_both}
use Rattle.text.proofs.printing.put_text.Goals as goal

pub returns-in-Ok : goal.returns-in-Ok
returns-in-Ok g c =
    put_both g.met.S.Sink.laws (sym (ap (λ r. opened_text r c.args.rows.now) c.in-Ok.is)) c.put_posts-first.ensures
    c.put_run.ensures
