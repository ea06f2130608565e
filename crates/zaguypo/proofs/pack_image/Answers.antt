-- `zaguypo::pack_image` meets its contract: the words of the image, then their bytes. Assumes nothing.
use native.Mathlib.Omega.{arith}
use mathlib.Core.Path.{sym, ap, ◌∙◌}
use mathlib.Core.List.{List}
use Prim.Native.Nat.{ℕ, ◌<◌}
use lib.ListN.{length, take}
use Rattle.machine.specs.Images.{image_of}
use Rattle.machine.specs.Bytes.{bytes_of}
use Rattle.machine.proofs.SoundRows.{sound_rows}
use Rattle.image_theorems.proofs.RoundTrip.{length_image}
use Rattle.counting.specs.Placing.{placed}
use Rattle.counting.proofs.PlacingLaws.{take_first}
use Rattle.zaguypo.proofs.pack_image.Goals as goal

pub whole_as_slice-write_cells : goal.whole_as_slice-write_cells
whole_as_slice-write_cells g c = omega (arith, c.requires.few)

pub shared_whole_as_front-pack : goal.shared_whole_as_front-pack
shared_whole_as_front-pack g c =
    (omega (arith, c.requires.long, c.image_words.ensures), omega (arith, c.requires.few))

pub returns : goal.returns
returns g c =
    let x = c.args.rows.now in
    let all = c.image_words.result in
    let some : 0 < length x = omega (arith, (sound_rows x c.requires.writable.sound).0) in
    let words = ap (take all) c.write_cells.ensures
    ∙ take_first _ (image_of x) all (length_image x some ∙ sym c.image_words.ensures) in
    c.pack.ensures ∙ ap (λ (l : List ℕ). placed c.args.image.now 0 (bytes_of l)) words
