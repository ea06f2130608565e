-- What a step does to what the invariant speaks of: many steps, few effects.
--
--   Idles r s     <=>  s competes as little as r, and has its bb, est and ahead.
--   Stays t r s   <=>  s competes as r does, neither of them at 24, with its act, bb, level and ahead; est may lose
--                      only who has act 0, and only level 0 leads to 30.
--   Effect t p u  <=>  the row of p idles, or stays, or is changed by one of the statements that count.
--   effect_of     every step of a process of a sound table has one
--
-- Assumes nothing.
use Prim.Native.Nat.{ℕ, ◌-◌, ◌≤◌, ◌<◌}
use mathlib.Core.Path.{◌≡◌, refl, ap, ◌∙◌}
use mathlib.Core.Bool.{true, false, ◌&&◌, and-eq-true_iff}
use native.Mathlib.Omega.{arith}
use lib.Dec.{leb}
use lib.ListN.{length, set}
use borrow.Author.Tests.{le-leb}
use Rattle.counting.specs.Sets.{has, size, without}
use Rattle.counting.proofs.SetLaws.{without_other}
use Rattle.machine.specs.Rows.{with_location, with_est, with_lis}
use Rattle.machine.specs.Tables.{Table, row, competes}
use Rattle.machine.specs.System as system
use Rattle.machine.specs.System.{Step}
use Rattle.machine.specs.System.Step.{rests, comes, flickers_20, enters, starts_scan, wins, discards, keeps, ends_scan}
use Rattle.machine.specs.System.Step.{lowers, to_push, waits, skips, flickers_24, pushes, exits, flickers_40, leaves}
use Rattle.machine.specs.System.Step.{cancels}
use Rattle.machine.specs.declared.Row.{Row}
use Rattle.machine.proofs.Assignments.{bare, Becomes, TurnsKept, TurnsKeptBut, set_becomes, set_keeps_turns}
use Rattle.machine.proofs.Assignments.{other_turns_keep, turn_set_is, turn_set_others, competes_at}
use Rattle.machine.proofs.StepRows.{entered_row, lowered_row, pushed_row, step_becomes}

pub record Idles (r s : Row) : Type 0 where
  pub idle_before : competes r ≡ false
  pub idle_after : competes s ≡ false
  pub same_bb : s.bb ≡ r.bb
  pub same_est : s.est ≡ r.est
  pub same_ahead : s.ahead ≡ r.ahead

-- set b has the members of a, but perhaps not those with act 0
abbrev pub Spares : Table → ℕ → ℕ → Type 0
Spares t a b = (x : ℕ) → x < 16 → ((row t x).act ≡ 0 → ⊥) → has a x ≡ true → has b x ≡ true

pub record Stays (t : Table) (r s : Row) : Type 0 where
  pub before : competes r ≡ true
  pub after : competes s ≡ true
  pub not_at_24 : r.location ≡ 24 → ⊥
  pub not_to_24 : s.location ≡ 24 → ⊥
  -- only from level 0 does it go on to 30
  pub inside : 0 < r.level → s.location ≤ 23
  pub same_act : s.act ≡ r.act
  pub same_bb : s.bb ≡ r.bb
  pub same_level : s.level ≡ r.level
  pub same_ahead : s.ahead ≡ r.ahead
  pub est_spares : Spares t r.est s.est

-- no row but that of p changes
abbrev pub Alone : Table → ℕ → Row → Table → Type 0
Alone t p s u = Becomes t p (λ r. r) s u

pub data Effect (t : Table) (p : ℕ) (u : Table) : Type 0 where
  idled : (s : Row) → Idles (row t p) s → Alone t p s u → TurnsKept t u → Effect t p u
  stayed : (s : Row) → Stays t (row t p) s → Alone t p s u → TurnsKept t u → Effect t p u
  entered : (row t p).location ≡ 20 → Alone t p (entered_row t p) u → TurnsKept t u → Effect t p u
  lowered :
      (row t p).location ≡ 23 → size (row t p).est < (row t p).level
      → Alone t p (lowered_row (size (row t p).est) (row t p)) u → TurnsKept t u → Effect t p u
  went_to_push :
      (row t p).location ≡ 23 → (row t p).bb ≡ 0 → Alone t p (with_location 24 (row t p)) u → TurnsKept t u → Effect t p u
  passed :
      (row t p).location ≡ 23 → ((row t p).bb ≡ 0 → ⊥) → ((row t (row t p).level).turn ≡ p → ⊥)
      → Alone t p (lowered_row ((row t p).level - 1) (row t p)) u → TurnsKept t u → Effect t p u
  flickered : (row t p).location ≡ 24 → Alone t p (row t p) u → TurnsKeptBut (row t p).level t u → Effect t p u
  pushed :
      (row t p).location ≡ 24 → Alone t p (pushed_row t p (row t p)) u
      → TurnsKeptBut (row t p).level t u → (row u (row t p).level).turn ≡ p
      → Effect t p u
  exited :
      (row t p).location ≡ 30 → Becomes t p (system.exited p) (with_location 40 (system.exited p (row t p))) u
      → Effect t p u

-- ---- every step has one

-- at 21, 22 or 23
abbrev Inside : ℕ → Type 0
Inside v = (21 ≤ v) × (v ≤ 23)

inside_competes : (v : ℕ) → Inside v → (leb 21 v && leb v 30) ≡ true
inside_competes v (a, b) = (and-eq-true_iff (leb 21 v) (leb v 30)).1 (le-leb 21 v a, le-leb v 30 (omega arith))

module _ (t : Table) (p : ℕ) (l : p < length t) where
  -- from location v, at which p does not compete, to row s, at which it does not either
  idle-set : (v : ℕ) (s : Row)
      → (row t p).location ≡ v
      → (leb 21 v && leb v 30) ≡ false
      → competes s ≡ false
      → s.bb ≡ (row t p).bb
      → s.est ≡ (row t p).est
      → s.ahead ≡ (row t p).ahead
      → s.turn ≡ (row t p).turn
      → Effect t p (set t p s)
  idle-set v s e o f b c d g =
      let out = competes_at (row t p) v e ∙ o in
      idled s (record { idle_before = out; idle_after = f; same_bb = b; same_est = c; same_ahead = d })
      (set_becomes t p l s) (set_keeps_turns t p l s g)

  -- from 21, 22 or 23 to location v, by changes of lis and est alone
  stay_set : (v a b : ℕ)
      → Inside (row t p).location
      → (leb 21 v && leb v 30) ≡ true
      → (v ≡ 24 → ⊥)
      → (0 < (row t p).level → v ≤ 23)
      → Spares t (row t p).est b
      → Effect t p (set t p (with_location v (with_lis a (with_est b (row t p)))))
  stay_set v a b at o n m k =
      stayed _
      (record {
        before = inside_competes (row t p).location at;
        after = o;
        not_at_24 = λ e. omega arith;
        not_to_24 = n;
        inside = m;
        same_act = refl;
        same_bb = refl;
        same_level = refl;
        same_ahead = refl;
        est_spares = k;
      })
      (set_becomes t p l _) (set_keeps_turns t p l _ refl)

  -- and where v is one of them
  stay_inside : (v a b : ℕ)
      → Inside (row t p).location
      → Inside v
      → Spares t (row t p).est b
      → Effect t p (set t p (with_location v (with_lis a (with_est b (row t p)))))
  stay_inside v a b at to =
      stay_set v a b at (inside_competes v to) (λ e. omega arith) (λ h. to.1)

  same_est : Spares t (row t p).est (row t p).est
  same_est x j n h = h

  pub effect_of : {u : Table} → (row t p).level < length t → Step t p u → Effect t p u
  effect_of i (rests e) =
      let out = competes_at (row t p) 10 e in
      idled (row t p)
      (record { idle_before = out; idle_after = out; same_bb = refl; same_est = refl; same_ahead = refl })
      (record { same_size = refl; own = refl; other = λ q ne. refl }) (λ k. refl)
  effect_of i (comes e) = idle-set 10 _ e refl refl refl refl refl refl
  effect_of i (flickers_20 a e h) = idle-set 20 _ e refl (competes_at (row t p) 20 e) refl refl refl refl
  effect_of i (enters e) = entered e (set_becomes t p l _) (set_keeps_turns t p l _ refl)
  effect_of i (starts_scan e h) =
      stay_inside 22 (row t p).est (row t p).est (omega arith, omega arith) (omega arith, omega arith) same_est
  effect_of i (wins e h) =
      stay_set 30 (row t p).lis (row t p).est (omega arith, omega arith) refl (λ z. omega arith)
      (λ z. absurd (omega arith)) same_est
  effect_of i (discards q e h z) =
      stay_inside (row t p).location (without (row t p).lis q) (without (row t p).est q)
      (omega arith, omega arith) (omega arith, omega arith)
      (λ x j n m. without_other (row t p).est q x j (λ y. n (ap (λ (x : ℕ). (row t x).act) y ∙ z)) ∙ m)
  effect_of i (keeps q e h n) =
      stay_inside (row t p).location (without (row t p).lis q) (row t p).est
      (omega arith, omega arith) (omega arith, omega arith) same_est
  effect_of i (ends_scan e h) =
      stay_inside 23 (row t p).lis (row t p).est (omega arith, omega arith) (omega arith, omega arith) same_est
  effect_of i (lowers e h) = lowered e h (set_becomes t p l _) (set_keeps_turns t p l _ refl)
  effect_of i (to_push e h z) = went_to_push e z (set_becomes t p l _) (set_keeps_turns t p l _ refl)
  effect_of i (waits e h n m) = passed e n m (set_becomes t p l _) (set_keeps_turns t p l _ refl)
  effect_of i (skips e h n v) =
      stay_inside 21 (row t p).lis (row t p).est (omega arith, omega arith) (omega arith, omega arith) same_est
  effect_of i (flickers_24 a e h) =
      flickered e (step_becomes t p l i (flickers_24 a e h)) (other_turns_keep t (row t p).level a i)
  effect_of i (pushes e) =
      let keep : (r : Row) → (pushed_row t p r).turn ≡ r.turn = λ r. refl in
      let blind : (r : Row) → bare (pushed_row t p r) ≡ bare (pushed_row t p (bare r)) = λ r. refl in
      pushed e
      (step_becomes t p l i (pushes e))
      (turn_set_others t (row t p).level p i p l (pushed_row t p) keep blind)
      (turn_set_is t (row t p).level p i p l (pushed_row t p) keep blind)
  effect_of i (exits e) = exited e (step_becomes t p l i (exits e))
  effect_of i (flickers_40 a e h) = idle-set 40 _ e refl (competes_at (row t p) 40 e) refl refl refl refl
  effect_of i (leaves e) = idle-set 40 _ e refl refl refl refl refl refl
  effect_of i (cancels e) = idle-set 20 _ e refl refl refl refl refl refl
