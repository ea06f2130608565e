-- `write_passes` meets its contract. The invariant: the words over the first r processes are put. Assumes nothing.
use Prim.Native.Nat.{ℕ, ◌+◌}
use mathlib.Core.Path.{◌≡◌, refl, sym, ap, ◌∙◌}
use mathlib.Core.List.{List}
use native.Mathlib.Omega.{arith}
use lib.ListN.{get_or, set}
use Rattle.counting.specs.Placing.{placed}
use Rattle.counting.proofs.PlacingLaws.{begun_start, begun_next, begun_end}
use Rattle.images.specs.Inner.{pass_word, pass_words}
use Rattle.images.proofs.CountLaws.{length-pass_words, pass_word_lem}
use Rattle.images.proofs.counts.write_passes.Goals as goal

pub loop-r-init : goal.loop-r-init
loop-r-init c =
    let a = c.args in
    begun_start a.out.now c.pass_place-at.result (pass_words a.n a.q a.passes)

pub loop-r-preserved : goal.loop-r-preserved
loop-r-preserved c =
    let a = c.args in
    let l = c.loop-r in
    let low = c.loop-r-test.true in
    let at = c.pass_place-at in
    let long = length-pass_words a.n a.q a.passes in
    let v = c.whole.result in
    let room = c.requires.n_in_bounds in
    let word : v ≡ pass_word a.q l.r (get_or a.passes l.r 0) =
    omega (arith, c.whole.ensures, c.passes_upper-upper.ensures) in
    ap (λ (o : List ℕ). set o (at.result + l.r) v) l.invariant
    ∙ begun_next a.out.now at.result (pass_words a.n a.q a.passes) (omega (arith, at.ensures)) l.r (l.r + 1)
    (at.result + l.r) v 0 refl refl (omega arith) (word ∙ sym (pass_word_lem a.n a.q a.passes l.r low))

pub returns : goal.returns
returns c =
    let a = c.args in
    let at = c.pass_place-at in
    let ws = pass_words a.n a.q a.passes in
    let long = length-pass_words a.n a.q a.passes in
    c.loop-r.invariant
    ∙ begun_end a.out.now at.result ws c.loop-r.r (omega arith)
    ∙ ap (λ (i : ℕ). placed a.out.now i ws) at.ensures
