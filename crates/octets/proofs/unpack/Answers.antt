-- `octets::unpack` meets its contract. The invariant of its loop: the first i words stand at the start.
-- Assumes nothing.
use native.Mathlib.Omega.{arith}
use mathlib.Core.Path.{refl, ap, ◌∙◌}
use mathlib.Core.List.{List}
use Prim.Native.Nat.{ℕ, ◌+◌}
use lib.ListN.{set}
use Rattle.machine.specs.Bytes.{words_in}
use Rattle.counting.proofs.PlacingLaws.{begun_start, begun_next, begun_end}
use Rattle.octets.proofs.ByteLaws.{length_words_in}
use Rattle.octets.proofs.unpack.Goals as goal

pub loop-i-init : goal.loop-i-init
loop-i-init c = begun_start c.args.words.now 0 (words_in c.args.bytes.now)

pub loop-i-preserved : goal.loop-i-preserved
loop-i-preserved c =
    let a = c.args in
    let i = c.loop-i.i in
    let word = c.word_at in
    let count = length_words_in a.bytes.now in
    ap (λ (d : List ℕ). set d i word.result) c.loop-i.invariant
    ∙ begun_next a.words.now 0 (words_in a.bytes.now) (omega arith) i (i + 1) i word.result 0
    (omega arith) refl (omega arith) word.ensures

pub returns : goal.returns
returns c =
    let a = c.args in
    let count = length_words_in a.bytes.now in
    (refl, c.loop-i.invariant ∙ begun_end a.words.now 0 (words_in a.bytes.now) c.loop-i.i (omega arith))
