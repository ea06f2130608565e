-- The level that goes with a location, as plain facts: above 0 at 22, 23 and 24, and 0 at 30. Assumes nothing.
use Prim.Native.Nat.{ℕ, ◌≤◌, ◌<◌}
use mathlib.Core.Path.{◌≡◌}
use mathlib.Core.Bool.{Bool, true, ◌&&◌, ◌||◌, not, and-eq-true_iff}
use lib.Dec.{eqb, leb, ltb}
use borrow.Author.Tests.{eqb-true, ltb-true, leb-true, eq-eqb, lt-ltb, le-leb}
use Rattle.counting.proofs.TestLaws.{implied, implies}
use Rattle.machine.specs.Tables.{level_fits}

module _ (l v : ℕ) where
  abbrev pushing : Bool
  pushing = leb 22 l && leb l 24

  abbrev some_fits : Bool
  some_fits = not pushing || ltb 0 v

  abbrev none_fits : Bool
  none_fits = not (eqb l 30) || eqb v 0

  pub fits_true : (22 ≤ l → l ≤ 24 → 0 < v) → (l ≡ 30 → v ≡ 0) → level_fits l v ≡ true
  fits_true f g =
      (and-eq-true_iff some_fits none_fits).1 (
        implies pushing (ltb 0 v)
            (λ e.
            let both = (and-eq-true_iff (leb 22 l) (leb l 24)).0 e in
            lt-ltb _ _ (f (leb-true _ _ both.0) (leb-true _ _ both.1))),
        implies (eqb l 30) (eqb v 0) (λ e. eq-eqb _ _ (g (eqb-true _ _ e))),
      )

  pub fits_some : level_fits l v ≡ true → 22 ≤ l → l ≤ 24 → 0 < v
  fits_some h a b =
      ltb-true _ _
      (implied pushing (ltb 0 v) ((and-eq-true_iff some_fits none_fits).0 h).0
      ((and-eq-true_iff (leb 22 l) (leb l 24)).1 (le-leb _ _ a, le-leb _ _ b)))

  pub fits_none : level_fits l v ≡ true → l ≡ 30 → v ≡ 0
  fits_none h e =
      eqb-true _ _
      (implied (eqb l 30) (eqb v 0) ((and-eq-true_iff some_fits none_fits).0 h).1 (eq-eqb _ _ e))
