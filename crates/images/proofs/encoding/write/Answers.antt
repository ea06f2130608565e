-- `write` meets its contract: the check, the room, then the image. Assumes nothing.
use mathlib.Core.Path.{◌≡◌, sym}
use native.Mathlib.Omega.{arith}
use borrow.Author.Rules.{rules}
use Rattle.std.specs.Prelude.{Err}
use Rattle.machine.proofs.SoundRows.{sound_rows}
use Rattle.tables.proofs.RefusalLaws.{number_some}
use Rattle.images.proofs.WriteLaws.{written_sound, written_few, written_image}
use Rattle.images.proofs.encoding.write.Goals as goal

pub returns-in_err-check : goal.returns-in_err-check
returns-in_err-check c =
    let e = c.in_err-check.field-0.0 in
    let same : c.from_residual.result ≡ Err e = search rules in
    rw same (written_sound c.args.rows.now c.args.out.now (Err e) c.in_err-check.ensures (number_some e))

-- where the table is sound
pub image_words-requires : goal.image_words-requires
image_words-requires c =
    let few = (sound_rows c.args.rows.now (sym c.in_ok-check.ensures)).1 in
    omega (arith, few)

pub returns-then-out-image_words : goal.returns-then-out-image_words
returns-then-out-image_words c =
    written_few c.args.rows.now c.args.out.now (sym c.in_ok-check.ensures) (omega (arith, c.image_words.ensures))

pub write_cells-requires : goal.write_cells-requires
write_cells-requires c = record { is_sound = sym c.in_ok-check.ensures; long = omega (arith, c.image_words.ensures) }

pub returns : goal.returns
returns c =
    written_image c.args.rows.now c.args.out.now (sym c.in_ok-check.ensures) _ (omega (arith, c.image_words.ensures))
    c.write_cells.ensures
