-- `going::enter` meets its contract: GO at 20. Assumes nothing.
use Prim.Native.Nat.{ℕ}
use mathlib.Core.Path.{sym, ap₂, ◌∙◌}
use Rattle.machine.specs.Shared.{cell_at}
use Rattle.machine.specs.Steps.{raisable}
use Rattle.machine.specs.declared.Row.{Row}
use Rattle.machine.proofs.Forms.{gone_20}
use Rattle.steps.proofs.ReadLaws.{read_row}
use Rattle.steps.proofs.ToldLaws.{goes_at}
use Rattle.steps.proofs.TakeLaws.{enters_full, enters_moved}
use Rattle.steps.proofs.going.enter.Goals as goal

pub returns-then-not-raisable : goal.returns-then-not-raisable
returns-then-not-raisable c =
    let x = c.args.rows.now in
    let own = read_row x c.args.p c.requires.ready.one in
    let room =
    c.raisable.ensures ∙ ap₂ (λ (m : ℕ) (r : Row). raisable m r.passes) c.competitors-c.ensures own in
    enters_full x c.args.p c.requires.there (sym room ∙ c.if-not-raisable.true)

pub returns : goal.returns
unfolding cell_at
returns c =
    let x = c.args.rows.now in
    let own = read_row x c.args.p c.requires.ready.one in
    let room =
    c.raisable.ensures ∙ ap₂ (λ (m : ℕ) (r : Row). raisable m r.passes) c.competitors-c.ensures own in
    let enters = gone_20 x c.args.p c.requires.there in
    enters_moved x c.args.p c.requires.there (sym room ∙ c.if-not-raisable.false)
    (goes_at 20 c.requires.there c.act_written.ensures (cc))
