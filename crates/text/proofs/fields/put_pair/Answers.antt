-- `text::fields::put_pair` meets its contract. Assumes nothing.
use Rattle.std.proofs.Common.{ap₂, ◌∷◌, [], ℕ}
use Rattle.text.proofs.Puts.{put_both}
use Rattle.text.proofs.DigitLaws.{pair_at}
use Rattle.text.proofs.fields.put_pair.Goals as goal

pub returns : goal.returns
returns g c =
    let two = pair_at c.args.n c.requires.low in
    put_both g.met.S.Sink.laws (ap₂ (λ (a b : ℕ). a ∷ b ∷ []) two.0 two.1) c.put_byte.ensures c.put_byte-2.ensures
