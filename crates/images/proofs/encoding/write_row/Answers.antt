-- `write_row` meets its contract: the four words are those of the row. Assumes nothing.
use mathlib.Core.Path.{◌≡◌, ◌∙◌}
use mathlib.Core.List.{[], ◌∷◌}
use native.Mathlib.Omega.{arith}
use Rattle.counting.specs.Placing.{placed}
use Rattle.counting.proofs.PlacingLaws.{placed_four}
use Rattle.machine.specs.Images.{STATE, EST, LIS, AHEAD, body_of}
use Rattle.images.specs.Inner.{word_for}
use Rattle.images.proofs.encoding.write_row.Goals as goal

pub returns : goal.returns
unfolding body_of
returns c =
    let a = c.args in
    let r = a.r.now in
    let first : c.whole.result ≡ word_for STATE a.q r = omega (arith, c.whole.ensures, c.upper.ensures, c.state_body.ensures) in
    let second : c.whole-2.result ≡ word_for EST a.q r = omega (arith, c.whole-2.ensures, c.upper-2.ensures) in
    let third : c.whole-3.result ≡ word_for LIS a.q r = omega (arith, c.whole-3.ensures, c.upper-3.ensures) in
    let fourth : c.whole-4.result ≡ word_for AHEAD a.q r = omega (arith, c.whole-4.ensures, c.upper-4.ensures) in
    placed_four a.out.now _ _ _ _ _ (omega arith)
    ∙ (λ i. placed a.out.now (c.row_place-i.ensures i) (first i ∷ second i ∷ third i ∷ fourth i ∷ []))
