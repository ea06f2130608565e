-- `text::fields::put_short` meets its contract. Assumes nothing.
use Rattle.std.proofs.Common.{arith, sym, ap, ◌∙◌, ◌∷◌, [], ℕ, length}
use Rattle.text.proofs.Puts.{put_as}
use Rattle.text.proofs.DigitLaws.{decimal_one, decimal-pair}
use Rattle.text.proofs.fields.put_short.Goals as goal

-- ---- one digit

pub put_byte-requires : goal.put_byte-requires
put_byte-requires g c = omega (arith, ap length (decimal_one c.args.n c.if-n-lt10.true))

pub returns-then-n-lt10 : goal.returns-then-n-lt10
returns-then-n-lt10 g c =
    put_as g.met.S.Sink.laws
    (ap (λ (b : ℕ). b ∷ []) c.digit.ensures ∙ sym (decimal_one c.args.n c.if-n-lt10.true)) c.put_byte.ensures

-- ---- two

pub put_pair-requires-clause-room : goal.put_pair-requires-clause-room
put_pair-requires-clause-room g c =
    omega (arith, ap length (decimal-pair c.args.n c.if-n-lt10.false c.requires.low))

pub returns-else-n-lt10 : goal.returns-else-n-lt10
returns-else-n-lt10 g c =
    put_as g.met.S.Sink.laws (sym (decimal-pair c.args.n c.if-n-lt10.false c.requires.low)) c.put_pair.ensures
