-- `check_counts` meets its contract. The invariant: what is left of the processes' words decides. Assumes nothing.
use mathlib.Core.Path.{◌≡◌, sym, ap, ◌∙◌}
use native.Mathlib.Omega.{arith}
use borrow.Author.Rules.{rules}
use Rattle.machine.specs.Images.{found_in}
use Rattle.images.specs.Inner.{passes_refusal}
use Rattle.images.proofs.SlotLaws.{none_found, err_some}
use Rattle.images.proofs.CountLaws.{sized_counted, from_passes, counts_start, counts_stop, counts_on, counts_end}
use Rattle.images.proofs.image.Image.check_counts.Goals as goal

pub loop-q-init : goal.loop-q-init
loop-q-init c = counts_start c.args.self.now.size c.args.self.now.words.now

pub returns-in_err-check_passes : goal.returns-in_err-check_passes
returns-in_err-check_passes c =
    let i = c.args.self.now in
    let r = c.from_residual in
    let is : found_in r.result ≡ passes_refusal i.words.now i.size c.loop-q.q = search rules in
    is
    ∙ sym
    (c.loop-q.invariant
    ∙ counts_stop i.size i.words.now c.loop-q.q c.loop-q-test.true
    (λ z. err_some r.result r.ensures.0 (none_found (sym is) z)))

pub loop-q-preserved : goal.loop-q-preserved
loop-q-preserved c =
    let i = c.args.self.now in
    let long = sized_counted i.words.now i.size i.counted i.sized c.requires in
    c.loop-q.invariant
    ∙ counts_on i.size i.words.now c.loop-q.q c.loop-q-test.true long
    (sym (ap (λ f. f.refusal) c.in_ok-check_passes.ensures))

pub returns : goal.returns
returns c =
    let i = c.args.self.now in
    let end : c.loop-q.q ≡ i.size = omega arith in
    sym (c.loop-q.invariant ∙ ap (from_passes i.size i.words.now) end ∙ counts_end i.size i.words.now)
