-- What the answer of a step tells. Assumes nothing.
use Prim.Native.Nat.{ℕ}
use mathlib.Core.Path.{◌≡◌, refl}
use mathlib.Core.Bool.{Bool, true, false, cond}
use native.Mathlib.Omega.{arith}
use lib.Dec.{eqb}
use borrow.Author.Tests.{eqb-true, eqb-false}
use Rattle.machine.specs.Tables.{Table}
use Rattle.machine.specs.Steps.{refusal_of, told_of, answer_of}
use Rattle.machine.specs.Settings.{refusal_under, answer_under}
use Rattle.machine.specs.declared.Settings.{Settings}
use Rattle.machine.specs.declared.Told.{Told}
use Rattle.std.specs.Prelude.{Result, Ok, Err}

moved_case : (b : Bool) (d s : Told) (v : ℕ)
    → cond b (Ok d) (Err v) ≡ Ok s
    → (b ≡ true) × (s ≡ d)
moved_case true d s v h = (refl, cc)
moved_case false d s v h = absurd (let z : ◌≡◌ {A = ℕ} 0 1 = cc in omega arith)

refused_case : (b : Bool) (d : Told) (u v : ℕ)
    → cond b (Ok d) (Err v) ≡ Err u
    → (b ≡ false) × (u ≡ v)
refused_case true d u v h = absurd (let z : ◌≡◌ {A = ℕ} 0 1 = cc in omega arith)
refused_case false d u v h = (refl, cc)

-- the answer for the refusal n, or 0, and what is told, d
module _ (n : ℕ) (d : Told) where
  abbrev answer : Result Told ℕ
  answer = cond (eqb n 0) (Ok d) (Err n)

  moved_by : (s : Told) → answer ≡ Ok s → (n ≡ 0) × (s ≡ d)
  moved_by s h = let m = moved_case (eqb n 0) d s n h in (eqb-true _ _ m.0, m.1)

  refused_by : (u : ℕ) → answer ≡ Err u → (n ≡ 0 → ⊥) × (u ≡ n)
  refused_by u h = let m = refused_case (eqb n 0) d u n h in (eqb-false _ _ m.0, m.1)

module _ (t : Table) (w : ℕ) where
  pub answer-moved : (s : Told) → answer_of t w ≡ Ok s → (refusal_of t w ≡ 0) × (s ≡ told_of t w)
  unfolding answer_of
  answer-moved = moved_by (refusal_of t w) (told_of t w)

  pub answer_refused : (u : ℕ) → answer_of t w ≡ Err u → (refusal_of t w ≡ 0 → ⊥) × (u ≡ refusal_of t w)
  unfolding answer_of
  answer_refused = refused_by (refusal_of t w) (told_of t w)

-- under settings
module _ (m : Settings) (t : Table) (w : ℕ) where
  pub under_moved : (s : Told) → answer_under m t w ≡ Ok s → (refusal_under m t w ≡ 0) × (s ≡ told_of t w)
  unfolding answer_under
  under_moved = moved_by (refusal_under m t w) (told_of t w)

  pub under_refused : (u : ℕ) → answer_under m t w ≡ Err u
      → (refusal_under m t w ≡ 0 → ⊥) × (u ≡ refusal_under m t w)
  unfolding answer_under
  under_refused = refused_by (refusal_under m t w) (told_of t w)
