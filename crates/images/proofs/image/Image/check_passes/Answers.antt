-- `check_passes` meets its contract. The invariant: what is left of the words decides. Assumes nothing.
use Prim.Native.Nat.{◌+◌, ◌<◌}
use mathlib.Core.Path.{◌≡◌, refl, sym, ap, ◌∙◌}
use native.Mathlib.Omega.{arith}
use borrow.Author.Rules.{rules}
use lib.ListN.{length}
use Rattle.machine.specs.Images.{pass_place, found_in}
use Rattle.machine.specs.Refusals.{refusal_in}
use Rattle.images.specs.Inner.{found_at}
use Rattle.images.proofs.SlotLaws.{err_some}
use Rattle.images.proofs.CountLaws.{sized_counted, passes_within, from_count, passes_start, passes_stop, passes_on, passes_end}
use Rattle.images.proofs.image.Image.check_passes.Goals as goal

pub loop-r-init : goal.loop-r-init
loop-r-init c = passes_start c.args.self.now.size c.args.self.now.words.now c.args.q

pub returns-in_err-placed : goal.returns-in_err-placed
returns-in_err-placed c =
    let i = c.args.self.now in
    let q = c.args.q in
    let k = c.loop-r.r in
    let r = c.from_residual in
    let is : found_in r.result ≡ found_at (refusal_in c.check_count.result) (c.pass_place-at.result + k) = search rules in
    let long = sized_counted i.words.now i.size i.counted i.sized c.requires.counted in
    let within : pass_place i.size q k < length i.words.now = omega (arith, passes_within i.size q c.requires.q_in) in
    passes_stop i.size i.words.now q k _ _ _ c.loop-r-test.true within (omega arith) c.check_count.ensures is
    (err_some r.result r.ensures.0)
    ∙ sym c.loop-r.invariant

pub loop-r-preserved : goal.loop-r-preserved
loop-r-preserved c =
    let i = c.args.self.now in
    let q = c.args.q in
    let k = c.loop-r.r in
    let long = sized_counted i.words.now i.size i.counted i.sized c.requires.counted in
    let within : pass_place i.size q k < length i.words.now = omega (arith, passes_within i.size q c.requires.q_in) in
    c.loop-r.invariant
    ∙ passes_on i.size i.words.now q k _ _ _ c.loop-r-test.true within (omega arith) c.check_count.ensures
    c.in_ok-placed.ensures refl

pub returns : goal.returns
returns c =
    let i = c.args.self.now in
    let end : c.loop-r.r ≡ i.size = omega arith in
    sym
    (c.loop-r.invariant ∙ ap (from_count i.size i.words.now c.args.q) end ∙ passes_end i.size i.words.now c.args.q)
