-- A kind with an argument at a table: refused and nothing moved, or taken. Assumes nothing.
use Prim.Native.Nat.{ℕ, ◌≤◌}
use mathlib.Core.Path.{◌≡◌, refl, sym, ap, ◌∙◌, subst}
use mathlib.Core.Bool.{Bool, true, false, cond, ◌&&◌, not, and-eq-true_iff, true≢false}
use native.Mathlib.Omega.{arith}
use lib.Dec.{eqb}
use lib.ListN.{length}
use borrow.Author.Tests.{eqb-true, eq-eqb, ne_eqb}
use Rattle.std.specs.Prelude.{Result, Ok, Err}
use Rattle.counting.proofs.SetLaws.{member_below}
use Rattle.counting.proofs.TestLaws.{cond_zero, cond_le}
use Rattle.machine.specs.Refusals.{accepted, not_allowed, bad_argument, passes_full, number}
use Rattle.machine.specs.Tables.{Table, row, competitors}
use Rattle.machine.specs.Words.{GO, LOOK}
use Rattle.machine.specs.Steps.{moved, allowed, argument_fits, raisable, overflows, refusal_at}
use Rattle.machine.specs.declared.Settings.{Settings}
use Rattle.machine.specs.declared.Told.{Told}
use Rattle.machine.specs.declared.Refusal.{Refusal}
use Rattle.tables.proofs.RefusalLaws.{number_some}
use Rattle.steps.specs.Moves.{kind_told, row_refusal, Ready, Free, Sees, Moves, Goes, TakesBy, Takes, TakesUnder}

-- ---- what refuses, in the code's order

module _ (t : Table) (k p a : ℕ) where
  pub refused_there : allowed k (row t p) ≡ false → row_refusal t k p a ≡ 10
  refused_there h = rw h refl

  pub refused_argument : allowed k (row t p) ≡ true → argument_fits (length t) k (row t p) a ≡ false
      → row_refusal t k p a ≡ 11
  refused_argument h g = rw (h, g) refl

  pub refused_not : allowed k (row t p) ≡ true → argument_fits (length t) k (row t p) a ≡ true → row_refusal t k p a ≡ 0
  refused_not h g = rw (h, g) refl

  abbrev second : ℕ
  second = cond (not (argument_fits (length t) k (row t p) a)) bad_argument accepted

  allowed_there : row_refusal t k p a ≡ 0 → allowed k (row t p) ≡ true
  allowed_there z = (cond_zero (allowed k (row t p)) 9 second z).0

  pub argument_fits_lem : row_refusal t k p a ≡ 0 → argument_fits (length t) k (row t p) a ≡ true
  argument_fits_lem z =
      (cond_zero (argument_fits (length t) k (row t p) a) 10 0 (cond_zero (allowed k (row t p)) 9 second z).1).0

  -- 11, where something refuses and the kind is allowed
  pub refused_allowed : allowed k (row t p) ≡ true → (row_refusal t k p a ≡ 0 → ⊥) → row_refusal t k p a ≡ 11
  refused_allowed h ne = go (argument_fits (length t) k (row t p) a) refl
    where
      go : (b : Bool) → argument_fits (length t) k (row t p) a ≡ b → row_refusal t k p a ≡ 11
      go true e = absurd (ne (refused_not h e))
      go false e = refused_argument h e

  -- 15 is asked for last
  pub refused_early : (row_refusal t k p a ≡ 0 → ⊥) → refusal_at t k p a ≡ row_refusal t k p a
  refused_early ne = go (allowed k (row t p)) (argument_fits (length t) k (row t p) a) ne
    where
      go : (b c : Bool)
          → (cond (not b) not_allowed (cond (not c) bad_argument accepted) ≡ 0 → ⊥)
          → cond (not b) not_allowed (cond (not c) bad_argument (cond (overflows t k p) passes_full accepted))
          ≡ cond (not b) not_allowed (cond (not c) bad_argument accepted)
      go false c n = refl
      go true false n = refl
      go true true n = absurd (n refl)

  pub row_refusals : row_refusal t k p a ≤ 11
  row_refusals =
      cond_le (not (allowed k (row t p))) not_allowed second 11 (omega arith)
      (cond_le (not (argument_fits (length t) k (row t p) a)) bad_argument accepted 11 (omega arith) (omega arith))

  pub refused_late : row_refusal t k p a ≡ 0 → refusal_at t k p a ≡ cond (overflows t k p) passes_full accepted
  refused_late z = rw (allowed_there z, argument_fits_lem z) refl

  -- both tests at once
  pub row_accepts : (allowed k (row t p) && argument_fits (length t) k (row t p) a) ≡ true → row_refusal t k p a ≡ 0
  row_accepts h =
      let both = (and-eq-true_iff (allowed k (row t p)) (argument_fits (length t) k (row t p) a)).0 h in
      refused_not both.0 both.1

  pub row_refuses : (allowed k (row t p) && argument_fits (length t) k (row t p) a) ≡ false → row_refusal t k p a ≡ 0 → ⊥
  row_refuses h z = true≢false (sym (rw (allowed_there z, argument_fits_lem z) refl) ∙ h)

-- ---- what is not refused may be done

pub may_move : {x : Table} {p : ℕ} (k a : ℕ) → Ready x p → row_refusal x k p a ≡ 0 → Free x k p
may_move {x} {p} k a ready z = record { ready = ready; may = allowed_there x k p a z }

-- LOOK is at a member of lis, which is a process
pub may_look : {x : Table} {p a : ℕ} → Ready x p → row_refusal x LOOK p a ≡ 0 → Sees x p a
unfolding argument_fits
may_look {x} {p} {a} ready z =
    let member = argument_fits_lem x LOOK p a z in
    record { ready = ready; seen = member_below (row x p).lis (length x) a ready.listed member }

-- ---- refused, or moved

module _ (n : ℕ) (x : Table) (k p a : ℕ) where
  abbrev answers : Bool → Result Told ℕ
  answers b = cond b (Ok (kind_told k p a (row x p))) (Err n)

  abbrev tables : Bool → Table
  tables b = cond b (moved x k p a) x

-- by a refusal of that number
pub refused_with : {x : Table} {k p a n : ℕ} (e : Refusal) → number e ≡ n → TakesBy n x k p a x (Err e)
refused_with {x} {k} {p} {a} {n} e why =
    let ne = ne_eqb n 0 (λ z. number_some e (why ∙ z)) in
    record {
      answer_is = ap (λ (m : ℕ). Err m) why ∙ sym (ap (answers n x k p a) ne);
      becomes = sym (ap (tables n x k p a) ne);
    }

module _ {x : Table} {k p a : ℕ} where
  pub takes_refused : (e : Refusal) → number e ≡ row_refusal x k p a → Takes x k p a x (Err e)
  takes_refused e why =
      refused_with e (why ∙ sym (refused_early x k p a (λ z. number_some e (why ∙ z))))

  pub takes_full : row_refusal x k p a ≡ 0 → overflows x k p ≡ true → Takes x k p a x (Err Refusal.PassesFull)
  takes_full z full =
      refused_with Refusal.PassesFull
      (sym (refused_late x k p a z ∙ ap (λ (b : Bool). cond b passes_full accepted) full))

  pub takes_moved : {y : Table} {s : Told}
      → row_refusal x k p a ≡ 0
      → overflows x k p ≡ false
      → Moves x k p a y s
      → Takes x k p a y (Ok s)
  takes_moved z fits m =
      let n = refusal_at x k p a in
      let eq = eq-eqb n 0
      (refused_late x k p a z ∙ ap (λ (b : Bool). cond b passes_full accepted) fits) in
      record {
        answer_is = ap (λ (g : Told). Ok g) m.told_is ∙ sym (ap (answers n x k p a) eq);
        becomes = m.becomes ∙ sym (ap (tables n x k p a) eq);
      }

-- ---- which kinds add to counts

-- GO alone
pub others_fit : (t : Table) (k p : ℕ) → (k ≡ GO → ⊥) → overflows t k p ≡ false
unfolding overflows
others_fit t k p ne = rw (ne_eqb k GO ne)

-- GO where it is allowed, away from 20
pub goes_on : {x y : Table} {p : ℕ} {s : Told} (l : ℕ)
    → (row x p).location ≡ l
    → eqb l 20 ≡ false
    → allowed GO (row x p) ≡ true
    → Goes x p y s
    → Takes x GO p 0 y (Ok s)
unfolding argument_fits overflows
goes_on {x} {p = p} l there away may m =
    takes_moved (refused_not x GO p 0 may refl)
    (ap (λ (b : Bool). b && not (raisable (competitors x) (row x p).passes)) (ap (λ (v : ℕ). eqb v 20) there ∙ away))
    m

-- GO at 20, by whether the counts have room
module _ (x : Table) (p : ℕ) (there : (row x p).location ≡ 20) where
  enters-may : row_refusal x GO p 0 ≡ 0
  unfolding allowed argument_fits
  enters-may = rw there refl

  enters_counts : (b : Bool)
      → raisable (competitors x) (row x p).passes ≡ b
      → overflows x GO p ≡ not b
  unfolding overflows
  enters_counts b e = rw (there, e) refl

  pub enters_full : raisable (competitors x) (row x p).passes ≡ false → Takes x GO p 0 x (Err Refusal.PassesFull)
  enters_full e = takes_full enters-may (enters_counts false e)

  pub enters_moved : {y : Table} {s : Told}
      → raisable (competitors x) (row x p).passes ≡ true
      → Goes x p y s
      → Takes x GO p 0 y (Ok s)
  enters_moved e m = takes_moved enters-may (enters_counts true e) m

-- GO is taken with no other argument than 0
pub go_argument : (t : Table) (p a : ℕ) → row_refusal t GO p a ≡ 0 → a ≡ 0
unfolding argument_fits
go_argument t p a z = eqb-true a 0 (argument_fits_lem t GO p a z)

pub go_zero : {x y : Table} {p a : ℕ} {s : Result Told Refusal} (m : Settings)
    → a ≡ 0
    → TakesUnder m x GO p 0 y s
    → TakesUnder m x GO p a y s
go_zero {x} {y} {p} {s = s} m e h = subst (λ (b : ℕ). TakesUnder m x GO p b y s) (sym e) h
