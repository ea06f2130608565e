-- `text::lines::put_taken` meets its contract: five numbers, each with a space after it, the cell, the line feed.
-- Assumes nothing.
use Rattle.std.proofs.Common.{arith}
use Rattle.text.proofs.Puts.{put_both}
use Rattle.text.proofs.LineLaws.{length_taken, taken_fields}
use Rattle.text.proofs.lines.put_taken.Goals as goal

-- ---- the room that is left after each field

pub put_field-out-requires : goal.put_field-out-requires
put_field-out-requires g c = omega (arith, length_taken c.args.word)

pub put_field-out-requires-2 : goal.put_field-out-requires-2
put_field-out-requires-2 g c =
    let s = g.met.S.Sink.laws in omega (arith, length_taken c.args.word, s.takes_room c.put_field-out.ensures)

pub put_field-out-requires-3 : goal.put_field-out-requires-3
put_field-out-requires-3 g c =
    let s = g.met.S.Sink.laws in
    omega (arith, length_taken c.args.word, s.takes_room c.put_field-out.ensures, s.takes_room c.put_field-out-2.ensures)

pub put_field-out-requires-4 : goal.put_field-out-requires-4
put_field-out-requires-4 g c =
    let s = g.met.S.Sink.laws in
    omega (
      arith,
      length_taken c.args.word,
      s.takes_room c.put_field-out.ensures,
      s.takes_room c.put_field-out-2.ensures,
      s.takes_room c.put_field-out-3.ensures,
    )

pub put_field-out-requires-5 : goal.put_field-out-requires-5
put_field-out-requires-5 g c =
    let s = g.met.S.Sink.laws in
    omega (
      arith,
      length_taken c.args.word,
      s.takes_room c.put_field-out.ensures,
      s.takes_room c.put_field-out-2.ensures,
      s.takes_room c.put_field-out-3.ensures,
      s.takes_room c.put_field-out-4.ensures,
    )

pub put_cell-requires : goal.put_cell-requires
put_cell-requires g c =
    let s = g.met.S.Sink.laws in
    omega (
      arith,
      length_taken c.args.word,
      s.takes_room c.put_field-out.ensures,
      s.takes_room c.put_field-out-2.ensures,
      s.takes_room c.put_field-out-3.ensures,
      s.takes_room c.put_field-out-4.ensures,
      s.takes_room c.put_field-out-5.ensures,
    )

pub put_byte-requires : goal.put_byte-requires
put_byte-requires g c =
    let s = g.met.S.Sink.laws in
    omega (
      arith,
      length_taken c.args.word,
      s.takes_room c.put_field-out.ensures,
      s.takes_room c.put_field-out-2.ensures,
      s.takes_room c.put_field-out-3.ensures,
      s.takes_room c.put_field-out-4.ensures,
      s.takes_room c.put_field-out-5.ensures,
      s.takes_room c.put_cell.ensures,
    )

pub returns : goal.returns
returns g c =
    let s = g.met.S.Sink.laws in
    put_both s (taken_fields c.args.word) c.put_field-out.ensures
    (s.joined c.put_field-out-2.ensures
    (s.joined c.put_field-out-3.ensures
    (s.joined c.put_field-out-4.ensures
    (s.joined c.put_field-out-5.ensures (s.joined c.put_cell.ensures c.put_byte.ensures)))))
