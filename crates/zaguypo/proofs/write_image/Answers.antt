-- `zaguypo::write_image` meets its contract, by way of few words or of many. Assumes nothing.
use native.Mathlib.Omega.{arith}
use lib.ListN.{length}
use Rattle.machine.proofs.SoundRows.{sound_rows}
use Rattle.images.proofs.CountLaws.{image_mono}
use Rattle.zaguypo.proofs.write_image.Goals as goal

pub pack_image-requires-else-rows-le5 : goal.pack_image-requires-else-rows-le5
pack_image-requires-else-rows-le5 c =
    let x = c.args.rows.now in
    record {
      writable = c.requires;
      long = image_mono (length x) 16 (sound_rows x c.requires.sound).1;
      few = omega arith;
    }
