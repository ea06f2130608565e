-- Where GO is allowed, in the words of the code; and what each kind makes of a table. Assumes nothing.
use Prim.Native.Nat.{ℕ}
use mathlib.Core.Path.{◌≡◌, refl}
use mathlib.Core.Bool.{true, false, ◌&&◌, or-true}
use mathlib.Core.Logic.{◌≢◌}
use mathlib.Core.List.{List, [], ◌∷◌}
use lib.Dec.{eqb}
use lib.ListN.{set}
use borrow.Author.Tests.{ne_eqb}
use Rattle.machine.specs.Rows.{with_location}
use Rattle.machine.specs.Tables.{Table, row, one_of}
use Rattle.machine.specs.Words.{STAY, COME, FLICKER, GO, LOOK, CANCEL}
use Rattle.machine.specs.Steps.{looked, flickered, gone, moved, allowed}
use Rattle.machine.specs.declared.Row.{Row}

-- ---- where GO is allowed

-- at six locations it is, at 22 where lis is empty, and nowhere else
abbrev go_places : List ℕ
go_places = 20 ∷ 21 ∷ 23 ∷ 24 ∷ 30 ∷ 40 ∷ []

pub place_may : (r : Row) (l : ℕ) → r.location ≡ l → one_of l go_places ≡ true → allowed GO r ≡ true
unfolding allowed
place_may r l e h = rw (e, h) refl

pub scan_may : (r : Row) → (eqb r.location 22 && eqb r.lis 0) ≡ true → allowed GO r ≡ true
unfolding allowed
scan_may r h = rw h (or-true (one_of r.location go_places))

pub left_not : (r : Row)
    → r.location ≢ 20
    → r.location ≢ 21
    → r.location ≢ 23
    → r.location ≢ 24
    → r.location ≢ 30
    → r.location ≢ 40
    → (eqb r.location 22 && eqb r.lis 0) ≡ false
    → allowed GO r ≡ false
unfolding allowed
left_not r a b c d e f h =
    let l = r.location in
    rw (ne_eqb l 20 a, ne_eqb l 21 b, ne_eqb l 23 c, ne_eqb l 24 d, ne_eqb l 30 e, ne_eqb l 40 f, h) refl

-- ---- the kinds

module _ (t : Table) (p a : ℕ) where
  pub moved_stay : moved t STAY p a ≡ t
  unfolding moved
  moved_stay = refl

  pub moved_come : moved t COME p a ≡ set t p (with_location 20 (row t p))
  unfolding moved
  moved_come = refl

  pub moved_flicker : moved t FLICKER p a ≡ flickered t p a
  unfolding moved
  moved_flicker = refl

  pub moved_go : moved t GO p a ≡ gone t p
  unfolding moved
  moved_go = refl

  pub moved_look : moved t LOOK p a ≡ set t p (looked a (row t a).act (row t p))
  unfolding moved
  moved_look = refl

  pub moved_cancel : moved t CANCEL p a ≡ set t p (with_location 40 (row t p))
  unfolding moved
  moved_cancel = refl
