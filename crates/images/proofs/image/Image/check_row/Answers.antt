-- `check_row` meets its contract: the first word that does not pass stops, and one that passes leaves the refusal to the
-- words after it. Assumes nothing.
use Prim.Native.Nat.{ℕ, ◌+◌}
use mathlib.Core.Path.{◌≡◌, refl, sym, ◌∙◌}
use mathlib.Core.List.{List, []}
use native.Mathlib.Omega.{arith}
use borrow.Author.Rules.{rules}
use Rattle.machine.specs.Images.{found_in, row_slots, first_refusal}
use Rattle.machine.specs.Refusals.{refusal_in}
use Rattle.image_theorems.proofs.Reading.{first_next}
use Rattle.images.specs.Inner.{found_at}
use Rattle.images.proofs.SlotLaws.{err_some, stop_at, pass_at, last_at}
use Rattle.images.proofs.image.Image.check_row.Goals as goal

-- no words are left
nothing_left : (n p : ℕ) (ws : List ℕ) → first_refusal n p [] ws ≡ record { refusal = 0; place = 0 }
unfolding first_refusal
nothing_left n p ws = refl

pub returns-in_err-placed : goal.returns-in_err-placed
unfolding row_slots
returns-in_err-placed c =
    let r = c.from_residual in
    let is : found_in r.result ≡ found_at (refusal_in c.check_state.result) c.row_place-i.result = search rules in
    stop_at _ _ _ is c.args.self.now.size _ _ _ (sym c.row_place-i.ensures) c.check_state.ensures _ _
    (err_some r.result r.ensures.0)

-- the three sets at once
pub returns-then-sets_fit : goal.returns-then-sets_fit
unfolding row_slots
returns-then-sets_fit c =
    let fit = c.sets_fit.ensures in
    let yes = c.if-sets_fit.true in
    sym
    (pass_at _ _ _ c.in_ok-placed.ensures _ _ _ _ (sym c.row_place-i.ensures) c.check_state.ensures _ _ refl
    ∙ first_next _ _ _ _ _ _ (fit.est yes)
    ∙ first_next _ _ _ _ _ _ (fit.lis yes)
    ∙ first_next _ _ _ _ _ _ (fit.ahead yes)
    ∙ nothing_left _ _ _)

pub returns-in_err-placed-2 : goal.returns-in_err-placed-2
unfolding row_slots
returns-in_err-placed-2 c =
    let r = c.from_residual-in_err-placed-2 in
    let is : found_in r.result ≡ found_at (refusal_in c.check_set.result) (c.row_place-i.result + 1) = search rules in
    stop_at _ _ _ is c.args.self.now.size _ _ _ (omega (arith, c.row_place-i.ensures)) c.check_set.ensures _ _
    (err_some r.result r.ensures.0)
    ∙ sym (pass_at _ _ _ c.in_ok-placed.ensures _ _ _ _ (sym c.row_place-i.ensures) c.check_state.ensures _ _ refl)

pub returns-in_err-placed-3 : goal.returns-in_err-placed-3
unfolding row_slots
returns-in_err-placed-3 c =
    let r = c.from_residual-in_err-placed-3 in
    let is : found_in r.result ≡ found_at (refusal_in c.check_set-2.result) (c.row_place-i.result + 2) = search rules in
    stop_at _ _ _ is c.args.self.now.size _ _ _ (omega (arith, c.row_place-i.ensures)) c.check_set-2.ensures _ _
    (err_some r.result r.ensures.0)
    ∙ sym
    (pass_at _ _ _ c.in_ok-placed.ensures _ _ _ _ (sym c.row_place-i.ensures) c.check_state.ensures _ _ refl
    ∙ pass_at _ _ _ c.in_ok-placed-2.ensures _ _ _ _ (omega (arith, c.row_place-i.ensures)) c.check_set.ensures _ _ refl)

pub returns : goal.returns
unfolding row_slots
returns c =
    last_at _ _ _ c.placed-4.ensures c.args.self.now.size _ _ _ (omega (arith, c.row_place-i.ensures)) c.check_set-3.ensures _
    ∙ sym
    (pass_at _ _ _ c.in_ok-placed.ensures _ _ _ _ (sym c.row_place-i.ensures) c.check_state.ensures _ _ refl
    ∙ pass_at _ _ _ c.in_ok-placed-2.ensures _ _ _ _ (omega (arith, c.row_place-i.ensures)) c.check_set.ensures _ _ refl
    ∙ pass_at _ _ _ c.in_ok-placed-3.ensures _ _ _ _ (omega (arith, c.row_place-i.ensures)) c.check_set-2.ensures _ _ refl)
