-- `write_cells` meets its contract: header, rows, turn cells and passes, each where the last ended. Assumes nothing.
use Prim.Native.Nat.{ℕ}
use mathlib.Core.Path.{ap, ◌∙◌}
use mathlib.Core.List.{List}
use native.Mathlib.Omega.{arith}
use lib.ListN.{length}
use Rattle.counting.specs.Placing.{placed}
use Rattle.machine.specs.Images.{bare_length, turn_place}
use Rattle.machine.proofs.SoundRows.{sound_rows}
use Rattle.images.specs.Inner.{turns_part, passes_part}
use Rattle.images.proofs.WriteLaws.{image_placed}
use Rattle.images.proofs.encoding.write_cells.Goals as goal

pub bounds-out-0 : goal.bounds-out-0
bounds-out-0 c =
    let some = (sound_rows c.args.rows.now c.requires.is_sound).0 in
    omega (arith, c.requires.long)

pub returns : goal.returns
returns c =
    let t = c.args.rows.now in
    let all = sound_rows t c.requires.is_sound in
    c.write_counts.ensures
    ∙ ap (λ (l : List ℕ). placed l (bare_length (length t)) (passes_part t))
    (c.write_turns.ensures
    ∙ ap (λ (l : List ℕ). placed l (turn_place (length t) 1) (turns_part t)) c.write_rows.ensures)
    ∙ image_placed t c.args.out.now (omega (arith, all.0)) c.requires.long (turn_place (length t) 1)
    (bare_length (length t)) (omega arith) (omega arith)
