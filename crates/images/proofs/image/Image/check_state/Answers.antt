-- `check_state` meets its contract: the tests are those of the law. Assumes nothing.
use Prim.Native.Nat.{ℕ, ◌<◌}
use mathlib.Core.Bool.{Bool, ◌&&◌, and-eq-true_iff}
use mathlib.Core.Path.{◌≡◌, ap, ◌∙◌}
use native.Mathlib.Omega.{arith}
use borrow.Author.Tests.{ltb-true}
use Rattle.machine.specs.Tables.{one_of, locations, level_fits}
use Rattle.machine.specs.Images.{code_in, location_in, level_in}
use Rattle.image_theorems.proofs.Locations.{known_at}
use Rattle.images.proofs.SlotLaws.{state_slot}
use Rattle.images.proofs.image.Image.check_state.Goals as goal

-- of a word with a code below 8, its location is one of the eight
fits_is : (w l : ℕ) (b : Bool) → code_in w < 8 → l ≡ location_in w → b ≡ (one_of l locations && level_fits l (level_in w))
    → b ≡ level_fits (location_in w) (level_in w)
fits_is w l b low location is =
    is
    ∙ ap (λ (k : ℕ). one_of k locations && level_fits k (level_in w)) location
    ∙ ap (λ (k : Bool). k && level_fits (location_in w) (level_in w)) (known_at locations (code_in w) low)

pub returns-then-not-w-upper : goal.returns-then-not-w-upper
returns-then-not-w-upper c =
    let a = c.args in
    let i = a.self.now in
    let few = i.sized.few in
    let e = state_slot i.size a.q a.w c.upper.result (omega arith) c.upper.ensures in
    grind arith

pub returns-then-not-code-level : goal.returns-then-not-code-level
returns-then-not-code-level c =
    let a = c.args in
    let i = a.self.now in
    let few = i.sized.few in
    let e = state_slot i.size a.q a.w c.upper.result (omega arith) c.upper.ensures in
    grind arith

pub returns-then-not-location_fits : goal.returns-then-not-location_fits
returns-then-not-location_fits c =
    let a = c.args in
    let i = a.self.now in
    let few = i.sized.few in
    let e = state_slot i.size a.q a.w c.upper.result (omega arith) c.upper.ensures in
    let low : code_in a.w < 8 = ltb-true _ _ ((and-eq-true_iff _ _).0 c.if-not-code-level.false).0 in
    let f = fits_is a.w c.location_of.result c.location_fits.result low c.location_of.ensures c.location_fits.ensures in
    grind arith

pub returns : goal.returns
returns c =
    let a = c.args in
    let i = a.self.now in
    let few = i.sized.few in
    let e = state_slot i.size a.q a.w c.upper.result (omega arith) c.upper.ensures in
    let low : code_in a.w < 8 = ltb-true _ _ ((and-eq-true_iff _ _).0 c.if-not-code-level.false).0 in
    let f = fits_is a.w c.location_of.result c.location_fits.result low c.location_of.ensures c.location_fits.ensures in
    grind arith
