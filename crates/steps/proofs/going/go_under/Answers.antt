-- `going::go_under` meets its contract, location by location. Assumes nothing.
use Prim.Native.Nat.{ℕ}
use mathlib.Core.Path.{◌≡◌, refl, sym, ap}
use mathlib.Core.Bool.{true, false, and-eq-true_iff}
use mathlib.Core.List.{[], ◌∷◌}
use native.Mathlib.Omega.{arith}
use lib.Dec.{eqb}
use borrow.Author.Tests.{eqb-true}
use Rattle.std.specs.Prelude.{Ok}
use Rattle.machine.specs.Tables.{Table, row, one_of}
use Rattle.machine.specs.Words.{GO}
use Rattle.machine.specs.Steps.{allowed}
use Rattle.machine.specs.Settings.{settings_of}
use Rattle.machine.specs.declared.Row.{Row}
use Rattle.machine.specs.declared.Refusal.{Refusal}
use Rattle.machine.specs.declared.Settings.{Settings}
use Rattle.machine.specs.declared.Told.{Told}
use Rattle.steps.specs.Moves.{Ready, At, Goes, TakesUnder}
use Rattle.steps.proofs.ReadLaws.{read, read_row, read_at}
use Rattle.steps.proofs.MoveLaws.{place_may, scan_may, left_not}
use Rattle.steps.proofs.TakeLaws.{goes_on, refused_there}
use Rattle.steps.proofs.SettingLaws.{goes_free, takes_early}
use Rattle.steps.proofs.going.go_under.Goals as goal

-- GO away from 20 and 23 is taken
moves : (m : Settings) {x : Table} {p l : ℕ} {y : Table} {s : Told}
    → At x p l
    → eqb l 20 ≡ false
    → eqb l 23 ≡ false
    → allowed GO (row x p) ≡ true
    → Goes x p y s
    → TakesUnder m x GO p 0 y (Ok s)
moves m {l = l} h away free may g = goes_free m l h.there free (goes_on l h.there away may g)

-- .. at a location where it is allowed whatever lis is
passes : (m : Settings) (x : Table) (p l : ℕ) {y : Table} {s : Told}
    → Ready x p
    → (read x p).location ≡ l
    → eqb l 20 ≡ false
    → eqb l 23 ≡ false
    → one_of l (20 ∷ 21 ∷ 23 ∷ 24 ∷ 30 ∷ 40 ∷ []) ≡ true
    → Goes x p y s
    → TakesUnder m x GO p 0 y (Ok s)
passes m x p l ready e away free one g =
    let h = read_at x p l ready e in moves m h away free (place_may _ l h.there one) g

-- ---- 22 with lis empty

pub end_scan-requires : goal.end_scan-requires
end_scan-requires c = read_at _ _ 22 c.requires (eqb-true _ _ ((and-eq-true_iff _ _).0 c.if-l-r.true).0)

pub returns-then-l-r : goal.returns-then-l-r
returns-then-l-r c =
    let own = read_row c.args.rows.now c.args.p c.requires.one in
    let scans = rw own at c.if-l-r.true in
    let here = read_at _ _ 22 c.requires (eqb-true _ _ ((and-eq-true_iff _ _).0 c.if-l-r.true).0) in
    moves (settings_of c.args.memory) here refl refl (scan_may _ scans) c.end_scan.ensures

-- ---- the other locations

pub returns-in-20 : goal.returns-in-20
returns-in-20 c =
    goes_free (settings_of c.args.memory) 20 (read_at _ _ 20 c.requires c.in-20.is).there refl c.enter.ensures

pub returns-in-21 : goal.returns-in-21
returns-in-21 c = passes _ _ _ 21 c.requires c.in-21.is refl refl refl c.start_scan.ensures

pub returns-in-24 : goal.returns-in-24
returns-in-24 c = passes _ _ _ 24 c.requires c.in-24.is refl refl refl c.push.ensures

pub returns-in-30 : goal.returns-in-30
returns-in-30 c = passes _ _ _ 30 c.requires c.in-30.is refl refl refl c.leave.ensures

pub returns-in-40 : goal.returns-in-40
returns-in-40 c = passes _ _ _ 40 c.requires c.in-40.is refl refl refl c.rest.ensures

-- ---- where GO is not allowed

pub returns-in_default : goal.returns-in_default
returns-in_default c =
    let x = c.args.rows.now in
    let own = read_row x c.args.p c.requires.one in
    let here = ap (λ (r : Row). r.location) own in
    takes_early (settings_of c.args.memory) Refusal.NotAllowed
    (sym (refused_there x GO c.args.p 0
    (left_not (row x c.args.p) (λ z. omega arith) (λ z. omega arith) (λ z. omega arith) (λ z. omega arith)
    (λ z. omega arith)
    (λ z. omega arith) (rw own at c.if-l-r.false))))
