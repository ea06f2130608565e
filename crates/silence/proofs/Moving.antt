-- A move in a quiet table leads to 30, or leaves the table quiet, with the same competitors.
--
--   Among C n t     <=>  t is quiet, of n processes, and just those that have C compete.
--   quiet_moves          a move from such a table to a sound one leads to 30 or to such a table
--
-- Assumes nothing.
use Prim.Native.Nat.{ℕ, ◌<◌}
use mathlib.Core.Path.{◌≡◌, refl, sym, ap, ◌∙◌}
use mathlib.Core.Bool.{Bool, true, ◌&&◌, beq}
use mathlib.Core.Logic.{◌⊎◌, inl, inr, ⊎_elim}
use lib.Dec.{eqb, leb}
use lib.ListN.{length}
use borrow.Author.Tests.{eqb-true}
use Rattle.counting.proofs.TestLaws.{or_cases, beq_true}
use Rattle.machine.specs.Tables.{Table, row, one_of, table_refusal, competes}
use Rattle.machine.specs.Rounds.{is_pending}
use Rattle.machine.specs.declared.Row.{Row}
use Rattle.machine.proofs.OneOfLaws.{by_test}
use Rattle.machine.proofs.StepRows.{step_row, step_becomes, step_keeps-rows}
use Rattle.machine.proofs.RoundLaws.{Move, move_step}
use Rattle.silence.proofs.Steady.{quiet_places, Quiet}
use Rattle.silence.proofs.Kept.{step_keeps_steady}
use Rattle.silence.proofs.QuietLaws.{quiet_in, quiet_level, quiet_never}
use Rattle.silence.proofs.Landing.{lands}

pub record Among (C : ℕ → Bool) (n : ℕ) (t : Table) : Type 0 where
  pub quiet : Quiet n t
  pub competing : (q : ℕ) → competes (row t q) ≡ C q

-- row s is at 30, or it may stand in a quiet table and competes as r does
abbrev Onward : Row → Row → Type 0
Onward r s = (s.location ≡ 30) ⊎ ((one_of s.location quiet_places ≡ true) × (competes s ≡ competes r))

module _ (n : ℕ) (t : Table) (p : ℕ) (l : p < n) (h : Quiet n t) where
  -- nobody is at 20 or 30
  pending-competes : is_pending (row t p) ≡ competes (row t p)
  pending-competes =
      beq_true (is_pending (row t p)) (competes (row t p))
      (by_test (λ v. beq (leb 20 v && leb v 24) (leb 21 v && leb v 30)) (row t p).location quiet_places refl
      (h.places p l))

  onward : {u : Table} (m : Move t p u) → Onward (row t p) (step_row t p (move_step m))
  onward m =
      let v = (step_row t p (move_step m)).location in
      let a = lands t p m (λ e. quiet_never n t h p 30 l e refl) in
      ⊎_elim (λ e. inl (eqb-true _ _ e)) (λ e. inr (e, a.1 ∙ pending-competes))
      (or_cases (eqb v 30) (one_of v quiet_places) a.0)

module _ (C : ℕ → Bool) (n : ℕ) (t u : Table) (p : ℕ) (l : p < n) (a : Among C n t) (m : Move t p u) where
  pub quiet_moves : table_refusal u ≡ 0 → ((row u p).location ≡ 30) ⊎ Among C n u
  quiet_moves y = go (onward n t p l h m)
    where
      h : Quiet n t
      h = a.quiet

      in_t : p < length t
      in_t = quiet_in n t h p l

      i : (row t p).level < length t
      i = quiet_level n t h p l

      go : Onward (row t p) (step_row t p (move_step m)) → ((row u p).location ≡ 30) ⊎ Among C n u
      go (inl e) = inl (ap (λ (r : Row). r.location) (step_becomes t p in_t i (move_step m)).own ∙ e)
      go (inr (o, d)) =
          let same = step_keeps-rows t p in_t i (λ q r. competes r ≡ C q) (move_step m) (d ∙ a.competing p)
          (λ q ne. a.competing q) in
          let places = step_keeps-rows t p in_t i (λ q r. q < n → one_of r.location quiet_places ≡ true)
          (move_step m) (λ k. o) (λ q ne. h.places q) in
          let one = h.somebody in
          let quiet : Quiet n u =
          record {
            steady = step_keeps_steady t u p h.steady.sound y in_t (move_step m) h.steady;
            size_is = (step_becomes t p in_t i (move_step m)).same_size ∙ h.size_is;
            places = places;
            somebody = (one.0, same one.0 ∙ sym (a.competing one.0) ∙ one.1);
          } in
          inr (record { quiet = quiet; competing = same })
