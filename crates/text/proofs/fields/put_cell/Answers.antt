-- `text::fields::put_cell` meets its contract. Assumes nothing.
use Rattle.std.proofs.Common.{sym, ap₂, ◌∙◌, ◌∷◌, ℕ}
use Rattle.machine.specs.Text.{decimal}
use Rattle.text.proofs.Puts.{put_both}
use Rattle.text.proofs.LineLaws.{cell_some}
use Rattle.text.proofs.fields.put_cell.Goals as goal

pub returns : goal.returns
returns g c =
    let puts = g.met.S.Sink.laws in
    let letters = ap₂ (λ (a b : ℕ). a ∷ b ∷ decimal c.args.cell.index) c.letter.ensures c.letter-2.ensures in
    put_both puts (letters ∙ sym (cell_some c.args.cell c.if-cell-eq0.false)) c.put_byte-2.ensures
    (puts.joined c.put_byte-letters.ensures c.put_number.ensures)
