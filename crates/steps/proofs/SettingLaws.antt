-- What settings forbid, in the words of the code; and a kind taken under settings, from what it is without them.
--
--   memory_fits                              settings that fit, as the code has them
--   forbids_not, forbids_away, forbids_by    GO of p is forbidden, by its row and by who is at 24
--   takes_early, takes_forbidden, takes_free    a kind with an argument under settings: 10 or 11; 16 or 17; as without
--   goes_free, weakest-takes                    GO away from 23, and every kind under 0 and 0, as without
--
-- Assumes nothing.
use Prim.Native.Nat.{ℕ, ◌<◌}
use mathlib.Core.Path.{◌≡◌, refl, sym, ap, ◌∙◌, subst}
use mathlib.Core.Bool.{Bool, true, false, cond, ◌&&◌, not, and-eq-true_iff}
use mathlib.Core.Logic.{◌≢◌}
use native.Mathlib.Decide.{ℕ_discrete}
use native.Mathlib.Omega.{arith}
use lib.Dec.{eqb, leb}
use lib.ListN.{length}
use borrow.Author.Tests.{eqb-true, eq-eqb, ne_eqb}
use Rattle.std.specs.Prelude.{Result, Err}
use Rattle.counting.proofs.TestLaws.{split}
use Rattle.counting.proofs.RangeLaws.{some_cong}
use Rattle.machine.specs.Refusals.{accepted, passes_full, second_writer, number}
use Rattle.machine.specs.Tables.{Table, row}
use Rattle.machine.specs.Steps.{overflows, refusal_at}
use Rattle.machine.specs.Words.{GO}
use Rattle.machine.specs.Settings.{weakest, settings_fit, act_number, turn_number, settings_of}
use Rattle.machine.specs.Settings.{writes_turn, other_writer, goes_to24, go_forbidden, forbidden_by, before15}
use Rattle.machine.specs.declared.Settings.{Settings}
use Rattle.machine.specs.declared.Memory.{Memory}
use Rattle.machine.specs.declared.ActMemory.{ActMemory}
use Rattle.machine.specs.declared.ActMemory.TheVariants as Act
use Rattle.machine.specs.declared.TurnMemory.{TurnMemory}
use Rattle.machine.specs.declared.TurnMemory.TheVariants as Turn
use Rattle.machine.specs.declared.Told.{Told}
use Rattle.machine.specs.declared.Refusal.{Refusal}
use Rattle.machine.proofs.SettingLaws.{goes_by, go_free, weakest_free, before15_free, before15_other}
use Rattle.rows.specs.Pushing.{to_push}
use Rattle.tables.specs.Writers.{has_writer}
use Rattle.steps.specs.Moves.{row_refusal, TakesBy, Takes, TakesUnder}
use Rattle.tables.proofs.RefusalLaws.{number_some}
use Rattle.steps.proofs.TakeLaws.{refused_early, refused_late, row_refusals, refused_with}

-- ---- settings that fit

pub memory_fits : (m : Memory) → settings_fit (settings_of m) ≡ true
memory_fits m = (and-eq-true_iff _ _).1 (act m.act, turn m.turn)
  where
    act : (a : ActMemory) → leb (act_number a) 1 ≡ true
    act Act.Safe = refl
    act Act.Plain = refl

    turn : (u : TurnMemory) → leb (turn_number u) 2 ≡ true
    turn Turn.WriteSafe = refl
    turn Turn.OneWriter = refl
    turn Turn.Plain = refl

-- ---- GO

module _ (t : Table) (p : ℕ) where
  -- a process at 23 is not at 24 itself
  writer_so : (row t p).location ≡ 23 → other_writer t p ≡ has_writer (row t p).level t
  unfolding other_writer
  writer_so e = some_cong _ _ (length t) (λ q l. go q (ℕ_discrete q p))
    where
      go : (q : ℕ) → Dec (q ≡ p)
          → (not (eqb q p) && writes_turn (row t p).level (row t q)) ≡ writes_turn (row t p).level (row t q)
      go q (yes i) = rw (eq-eqb q p i, ap (λ (j : ℕ). (row t j).location) i ∙ e) refl
      go q (no ne) = rw (ne_eqb q p ne) refl

  module _ (m : Settings) where
    pub forbids_not : m.turn ≢ 1 → go_forbidden m t p ≡ false
    forbids_not ne = rw (ne_eqb m.turn 1 ne) refl

    pub forbids_away : m.turn ≡ 1 → p < length t → to_push (row t p) ≡ false → go_forbidden m t p ≡ false
    forbids_away one l h = rw (eq-eqb m.turn 1 one, goes_by t p l, h) refl

    pub forbids_by : m.turn ≡ 1 → p < length t → to_push (row t p) ≡ true
        → go_forbidden m t p ≡ has_writer (row t p).level t
    forbids_by one l h =
        let at_23 = eqb-true _ _ ((and-eq-true_iff (eqb (row t p).location 23) _).0 h).0 in
        rw (eq-eqb m.turn 1 one, goes_by t p l, h) (writer_so at_23)

-- ---- a kind taken under settings

-- by another number that is the same
by_same : {n v : ℕ} {x y : Table} {k p a : ℕ} {s : Result Told Refusal}
    → v ≡ n
    → TakesBy n x k p a y s
    → TakesBy v x k p a y s
by_same {x = x} {y} {k} {p} {a} {s} e h = subst (λ (i : ℕ). TakesBy i x k p a y s) (sym e) h

module _ {x y : Table} {k p a : ℕ} {s : Result Told Refusal} (m : Settings) where
  pub takes_free : forbidden_by m x k p ≡ 0 → Takes x k p a y s → TakesUnder m x k p a y s
  takes_free e h = by_same (before15_free (forbidden_by m x k p) (refusal_at x k p a) e) h

-- GO away from 23 is not forbidden
pub goes_free : {x y : Table} {p a : ℕ} {s : Result Told Refusal} (m : Settings) (l : ℕ)
    → (row x p).location ≡ l
    → eqb l 23 ≡ false
    → Takes x GO p a y s
    → TakesUnder m x GO p a y s
unfolding goes_to24
goes_free {x} {p = p} m l e away h =
    takes_free m
    (go_free m x GO p refl
    (split (λ b. (b && (goes_to24 x p && other_writer x p)) ≡ false) (eqb m.turn 1)
    (λ _. rw (e, away) refl)
    (λ _. refl)))
    h

-- 0 and 0 forbid nothing
pub weakest-takes : {x y : Table} {k p a : ℕ} {s : Result Told Refusal}
    → TakesUnder weakest x k p a y s
    → Takes x k p a y s
weakest-takes {x} {k = k} {p} {a} h =
    by_same (sym (before15_free (forbidden_by weakest x k p) _ (weakest_free x k p))) h

module _ {x : Table} {k p a : ℕ} (m : Settings) where
  -- 10 and 11 come before 16 and 17
  pub takes_early : (e : Refusal) → number e ≡ row_refusal x k p a → TakesUnder m x k p a x (Err e)
  takes_early e why =
      let n = refusal_at x k p a in
      let early = why ∙ sym (refused_early x k p a (λ z. number_some e (why ∙ z))) in
      let few = row_refusals x k p a in
      let other = before15_other (forbidden_by m x k p) n (λ z. number_some e (early ∙ z))
      (λ z. absurd (omega (arith, early, z, why, few))) in
      refused_with e (early ∙ sym other)

  -- and these before 15
  pub takes_forbidden : (e : Refusal) → row_refusal x k p a ≡ 0 → forbidden_by m x k p ≡ number e
      → TakesUnder m x k p a x (Err e)
  takes_forbidden f z e =
      refused_with f (sym (late (overflows x k p) (refused_late x k p a z)))
    where
      late : (b : Bool)
          → refusal_at x k p a ≡ cond b passes_full accepted
          → before15 (forbidden_by m x k p) (refusal_at x k p a) ≡ number f
      late true i = rw (i, e, ne_eqb (number f) 0 (number_some f)) refl
      late false i = rw (i, e, ne_eqb (number f) 0 (number_some f)) refl

-- GO asks of settings whether turn has one writer, and nothing else
same_go : (m u : Settings) (t : Table) (p : ℕ) → eqb m.turn 1 ≡ eqb u.turn 1 → forbidden_by m t GO p ≡ forbidden_by u t GO p
unfolding forbidden_by
same_go m u t p e =
    ap (λ (b : Bool). cond (b && (goes_to24 t p && other_writer t p)) second_writer accepted) e

pub go_as : (m u : Settings) {x y : Table} {p : ℕ} {s : Result Told Refusal} → eqb m.turn 1 ≡ eqb u.turn 1
    → TakesUnder m x GO p 0 y s
    → TakesUnder u x GO p 0 y s
go_as m u {x} {y} {p} {s} e h =
    subst (λ (n : ℕ). TakesBy n x GO p 0 y s)
    (ap (λ (f : ℕ). before15 f (refusal_at x GO p 0)) (same_go m u x p e)) h
