-- Every step keeps the invariant, so that it holds after every list of words from a fresh table.
--
-- Assumes nothing.
use Prim.Native.Nat.{ℕ, ◌≤◌, ◌<◌}
use mathlib.Core.Path.{◌≡◌, refl}
use mathlib.Core.Bool.{true}
use mathlib.Core.Logic.{inl}
use mathlib.Core.List.{List}
use native.Mathlib.Nat.{le_trans}
use native.Mathlib.Omega.{arith}
use lib.ListN.{length}
use borrow.Author.Tests.{eqb-true}
use Rattle.machine.specs.Tables.{Table, row, table_refusal, fresh}
use Rattle.machine.specs.Steps.{after_words}
use Rattle.machine.specs.System.{Step}
use Rattle.machine.specs.Census.{is_critical, is_held, held, critical}
use Rattle.machine.proofs.SoundRows.{sound-row}
use Rattle.machine.proofs.Soundness.{always}
use Rattle.machine.proofs.Assignments.{competes_at, competes_within}
use Rattle.machine.proofs.BbInside.{step_keeps_bb_inside}
use Rattle.exclusion.proofs.Reaching.{is_held_of_held}
use Rattle.exclusion.proofs.Bounded.{count_rows_mono, bounded_held}
use Rattle.exclusion.proofs.Effects.{effect_of}
use Rattle.exclusion.proofs.Invariant.{Invariant}
use Rattle.exclusion.proofs.RowClauses.{effect_keeps_ahead_in_est, effect_keeps_act_shown}
use Rattle.exclusion.proofs.RowClauses.{effect_keeps_ahead_competes}
use Rattle.exclusion.proofs.BoundClause.{effect_keeps_bounded}
use Rattle.exclusion.proofs.Fresh.{fresh_invariant}

pub step_keeps_invariant : (t u : Table) (p : ℕ)
    → table_refusal t ≡ 0
    → table_refusal u ≡ 0
    → p < length t
    → Step t p u
    → Invariant t
    → Invariant u
step_keeps_invariant t u p z y l x i =
    let e = effect_of t p l (sound-row t z p l).level_low x in
    record {
      sound = y;
      bb_inside = step_keeps_bb_inside t p z l i.bb_inside x;
      ahead_in_est = effect_keeps_ahead_in_est t u p l i e;
      act_shown = effect_keeps_act_shown t u p l i e;
      ahead_competes = effect_keeps_ahead_competes t u p l i e;
      bounded = λ k. effect_keeps_bounded t u p l i k e;
    }

pub invariant_after : (t : Table) (ws : List ℕ) → fresh t ≡ true → Invariant (after_words t ws)
invariant_after t ws h = always Invariant step_keeps_invariant t ws (fresh_invariant t h)

-- who is at 30 has level 0, and is held at 1
pub critical-held : (t : Table) → table_refusal t ≡ 0 → critical t ≤ held 1 t
critical-held t z =
    count_rows_mono is_critical (is_held 1) t t refl
    (λ q h.
    let e : (row t q).location ≡ 30 = eqb-true _ _ h in
    let c = competes_at (row t q) 30 e in
    is_held_of_held 1 (row t q) (c, inl (omega (arith, (sound-row t z q (competes_within t q c)).level_none e))))

pub invariant_held : (t : Table) → Invariant t → (k : ℕ) → held k t ≤ k
invariant_held t i k = bounded_held t k (i.bounded k)

pub invariant_critical : (t : Table) → Invariant t → critical t ≤ 1
invariant_critical t i = le_trans (critical-held t i.sound) (invariant_held t i 1)
