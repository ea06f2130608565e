-- `write_turns` meets its contract. The invariant: the words of the turn cells up to turn[k] are put. Assumes nothing.
use Prim.Native.Nat.{◌+◌, ◌-◌}
use mathlib.Core.Path.{◌≡◌, ap, ◌∙◌}
use native.Mathlib.Omega.{arith}
use lib.ListN.{length, set}
use Rattle.counting.proofs.PlacingLaws.{begun_start, begun_next, begun_end}
use Rattle.machine.specs.Tables.{row}
use Rattle.machine.specs.Images.{TURN, turn_place, body_of}
use Rattle.machine.specs.declared.Row.{Row}
use Rattle.machine.proofs.SoundRows.{sound_rows}
use Rattle.images.specs.Inner.{word_for, turns_part}
use Rattle.images.proofs.WriteLaws.{row_at, length-turns_part, turn_word}
use Rattle.images.proofs.encoding.write_turns.Goals as goal

pub loop-k-init : goal.loop-k-init
loop-k-init c = begun_start c.args.out.now (turn_place (length c.args.rows.now) 1) (turns_part c.args.rows.now)

pub upper-requires : goal.upper-requires
upper-requires c =
    let few = (sound_rows c.args.rows.now c.requires.is_sound).1 in
    omega arith

pub whole-requires : goal.whole-requires
whole-requires c =
    let few = (sound_rows c.args.rows.now c.requires.is_sound).1 in
    omega (arith, c.upper.ensures)

pub turn_place-requires : goal.turn_place-requires
turn_place-requires c =
    let few = (sound_rows c.args.rows.now c.requires.is_sound).1 in
    (omega arith, c.loop-k-test.true)

pub loop-k-preserved : goal.loop-k-preserved
unfolding body_of
loop-k-preserved c =
    let t = c.args.rows.now in
    let k = c.loop-k.k in
    let h = c.loop-k-test.true in
    let n = length t in
    let place = c.turn_place in
    let parts = length-turns_part t in
    let row_is = row_at t k h in
    let word : c.whole.result ≡ word_for TURN k (row t k) =
    omega (arith, c.whole.ensures, c.upper.ensures, ap (λ (r : Row). r.turn) row_is) in
    ap (λ o. set o place.result c.whole.result) c.loop-k.invariant
    ∙ begun_next c.args.out.now (turn_place n 1) (turns_part t) (omega (arith, c.requires.long)) (k - 1) (k + 1 - 1)
    place.result c.whole.result 0 (omega (arith, place.ensures)) (omega arith) (omega arith)
    (word ∙ turn_word t k (omega arith) h)

pub returns : goal.returns
returns c =
    let t = c.args.rows.now in
    c.loop-k.invariant
    ∙ begun_end c.args.out.now (turn_place (length t) 1) (turns_part t) (c.loop-k.k - 1) (omega (arith, length-turns_part t))
