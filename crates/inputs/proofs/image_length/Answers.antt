-- `inputs::image_length` meets its contract. Assumes nothing.
use Prim.Native.Nat.{◌≤◌, min}
use mathlib.Core.Path.{sym, ap, ap₂, ◌∙◌}
use native.Mathlib.Omega.{arith}
use lib.ListN.{length}
use Rattle.machine.specs.Bytes.{words_in}
use Rattle.machine.specs.Images.{length_in}
use Rattle.octets.proofs.ByteLaws.{length_words_in}
use Rattle.inputs.proofs.SplitLaws.{splits_over, splits_min}
use Rattle.inputs.proofs.image_length.Goals as goal

pub returns-then-len-eq0 : goal.returns-then-len-eq0
returns-then-len-eq0 c =
    let bs = c.args.input.now in
    let count = length_words_in bs in
    let none : length (words_in bs) ≤ 0 = omega (arith, c.if-len-eq0.true, count) in
    splits_over (words_in bs) 0 (omega (arith, none)) (omega (arith, none))

pub returns : goal.returns
returns c =
    let bs = c.args.input.now in
    splits_min (words_in bs) _
    (c.min.ensures
    ∙ ap₂ min (c.words_by.ensures ∙ ap length_in c.word_at.ensures) (sym (length_words_in bs)))
