-- `text::lines::put_numbers` meets its contract. Assumes nothing.
use Rattle.std.proofs.Common.{arith, sym, ap, length}
use Rattle.text.proofs.Puts.{put_as, put_both}
use Rattle.text.proofs.LineLaws.{spaced_none, spaced_one, spaced_more, length_spaced_more}
use Rattle.text.proofs.lines.+put_numbers.Goals as goal

pub returns-in-empty : goal.returns-in-empty
returns-in-empty g t c =
    let s = g.met.S.Sink.laws in
    put_as s (sym (spaced_none c.args.numbers.now (omega (arith, c.in-empty.len_below)))) (s.none c.args.out)

pub put_number-requires : goal.put_number-requires
put_number-requires g t c =
    omega (arith, ap length (spaced_one c.args.numbers.now c.in-len1.len_at_least c.in-len1.len_below))

pub returns-in-len1 : goal.returns-in-len1
returns-in-len1 g t c =
    put_as g.met.S.Sink.laws (sym (spaced_one c.args.numbers.now c.in-len1.len_at_least c.in-len1.len_below))
    c.put_number.ensures

pub put_field-requires : goal.put_field-requires
put_field-requires g t c = omega (arith, length_spaced_more c.args.numbers.now c.in-len1-up.len_at_least)

pub put_numbers-requires : goal.put_numbers-requires
put_numbers-requires g t c κs within = (
  omega (arith, c.decreases),
  (
    within,
    omega (
      arith,
      length_spaced_more c.args.numbers.now c.in-len1-up.len_at_least,
      g.met.S.Sink.laws.takes_room c.put_field.ensures,
    ),
  ),
)

pub returns-in-len1-up : goal.returns-in-len1-up
returns-in-len1-up g t c =
    put_both g.met.S.Sink.laws (sym (spaced_more c.args.numbers.now c.in-len1-up.len_at_least)) c.put_field.ensures
    c.put_numbers.ensures
