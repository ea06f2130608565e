-- `check_turns` meets its contract. The invariant: what is left of the words decides. Assumes nothing.
use mathlib.Core.Path.{◌≡◌, refl, sym, ap, ◌∙◌}
use native.Mathlib.Omega.{arith}
use borrow.Author.Rules.{rules}
use Rattle.machine.specs.Images.{found_in}
use Rattle.machine.specs.Refusals.{refusal_in}
use Rattle.images.specs.Inner.{found_at}
use Rattle.images.proofs.SlotLaws.{err_some}
use Rattle.images.proofs.WalkLaws.{from_turn, turns_stop, turns_on, turns_end}
use Rattle.images.proofs.CountLaws.{sized_long}
use Rattle.images.proofs.image.Image.check_turns.Goals as goal

pub returns-in_err-placed : goal.returns-in_err-placed
returns-in_err-placed c =
    let i = c.args.self.now in
    let r = c.from_residual in
    let is : found_in r.result ≡ found_at (refusal_in c.check_turn.result) c.turn_place-i.result = search rules in
    let long = sized_long i.words.now i.size i.counted i.sized in
    turns_stop i.size i.words.now c.loop-k.k _ _ _ c.loop-k-test.true long c.turn_place-i.ensures c.check_turn.ensures is
    (err_some r.result r.ensures.0)
    ∙ sym c.loop-k.invariant

pub loop-k-preserved : goal.loop-k-preserved
loop-k-preserved c =
    let i = c.args.self.now in
    let long = sized_long i.words.now i.size i.counted i.sized in
    c.loop-k.invariant
    ∙ turns_on i.size i.words.now c.loop-k.k _ _ _ c.loop-k-test.true long c.turn_place-i.ensures c.check_turn.ensures
    c.in_ok-placed.ensures refl

pub returns : goal.returns
returns c =
    let i = c.args.self.now in
    let some = i.sized.some in
    let end : c.loop-k.k ≡ i.size = omega arith in
    sym (c.loop-k.invariant ∙ ap (from_turn i.size i.words.now) end ∙ turns_end i.size i.words.now)
