-- The step's form of an alternative and the paper's are the same table.
--
-- System.antt assigns in the paper's order, Steps.antt row by row: at 24 the turn cell comes first in the one and last
-- in the other, also where level is p itself; at 30 p leaves the ahead sets before, or after, its own row is set.
--
--   started_cases, looked_cases, reconsidered_cases    the alternatives of GO at 21, LOOK and GO at 23
--   gone_20 .. gone_40                                what GO is at each location, by rows
--   flickered_act, flickered_turn                     what FLICKER is
--   push_forms                                        an assignment to a turn cell, before or after one to a row
--   gone_push, gone_exit                              GO at 24 and at 30 in the paper's order
--
-- Assumes nothing.
use Prim.Native.Nat.{ℕ, ◌-◌, ◌≤◌, ◌<◌}
use mathlib.Core.Path.{◌≡◌, refl, sym, ap, ◌∙◌, subst}
use mathlib.Core.Bool.{Bool, cond, not}
use mathlib.Core.Logic.{◌≢◌}
use mathlib.Core.List.{map}
use native.Mathlib.Decide.{ℕ_discrete}
use native.Mathlib.Omega.{arith}
use lib.Dec.{eqb, ltb}
use lib.ListN.{length, set}
use lib.Seq.{set-set, set_comm}
use borrow.Author.Tests.{eqb-true, eqb-false, ltb-true, ltb-false, ne_eqb}
use Rattle.counting.specs.Sets.{size, without, others}
use Rattle.machine.specs.Rows.{with_location, with_act, with_bb, with_level, with_est, with_lis, with_ahead, with_turn}
use Rattle.machine.specs.Tables.{Table, row, competitors}
use Rattle.machine.specs.Steps.{entered, started, looked, reconsidered, pushed, go_row, turned, forgets, flickered}
use Rattle.machine.specs.Steps.{gone}
use Rattle.machine.specs.System.{assigned, turn_assigned, exited}
use Rattle.machine.specs.declared.Row.{Row}
use Rattle.counting.proofs.TestLaws.{split}
use Rattle.machine.proofs.TableLaws.{row_same, row_other, row-map, turn_same, turn_other, map-set}

-- ---- rows that branch: what holds of each alternative holds of the row

pub started_cases : (P : Row → Type 0) (r : Row)
    → (0 < r.level → P (with_location 22 (with_lis r.est r)))
    → (r.level ≡ 0 → P (with_location 30 r))
    → P (started r)
unfolding started
started_cases P r some none =
    split (λ b. P (cond b (with_location 22 (with_lis r.est r)) (with_location 30 r))) (ltb 0 r.level)
    (λ h. some (ltb-true _ _ h))
    (λ h. none (omega (arith, ltb-false 0 r.level h)))

pub looked_cases : (P : Row → Type 0) (q v : ℕ) (r : Row)
    → (v ≡ 0 → P (with_est (without r.est q) (with_lis (without r.lis q) r)))
    → (v ≢ 0 → P (with_lis (without r.lis q) r))
    → P (looked q v r)
unfolding looked
looked_cases P q v r zero some =
    split (λ b. P (with_lis (without r.lis q) (with_est (cond b (without r.est q) r.est) r))) (eqb v 0)
    (λ h. zero (eqb-true _ _ h))
    (λ h. some (eqb-false _ _ h))

pub reconsidered_cases : (P : Row → Type 0) (p v : ℕ) (r : Row)
    → (size r.est < r.level → P (with_location 21 (with_bb 0 (with_level (size r.est) r))))
    → (r.level ≤ size r.est → r.bb ≡ 0 → P (with_location 24 r))
    → (r.level ≤ size r.est → r.bb ≢ 0 → v ≢ p → P (with_location 21 (with_bb 0 (with_level (r.level - 1) r))))
    → (r.level ≤ size r.est → r.bb ≢ 0 → v ≡ p → P (with_location 21 r))
    → P (reconsidered p v r)
unfolding reconsidered
reconsidered_cases P p v r lower push wait skip =
    let low = with_location 21 (with_bb 0 (with_level (size r.est) r)) in
    let next = with_location 21 (with_bb 0 (with_level (r.level - 1) r)) in
    let last : Bool → Row = λ b. cond (not b) next (with_location 21 r) in
    split (λ b. P (cond b low (cond (eqb r.bb 0) (with_location 24 r) (last (eqb v p)))))
    (ltb (size r.est) r.level)
    (λ h. lower (ltb-true _ _ h))
    (λ h.
    split (λ b. P (cond b (with_location 24 r) (last (eqb v p)))) (eqb r.bb 0)
    (λ z. push (ltb-false _ _ h) (eqb-true _ _ z))
    (λ z.
    split (λ b. P (last b)) (eqb v p)
    (λ i. skip (ltb-false _ _ h) (eqb-false _ _ z) (eqb-true _ _ i))
    (λ i. wait (ltb-false _ _ h) (eqb-false _ _ z) (eqb-false _ _ i))))

-- ---- GO at each location

module _ (t : Table) (p : ℕ) where
  pub gone_20 : (row t p).location ≡ 20 → gone t p ≡ set t p (entered (length t) p (competitors t) (row t p))
  unfolding gone go_row
  gone_20 e = rw e

  pub gone_21 : (row t p).location ≡ 21 → gone t p ≡ set t p (started (row t p))
  unfolding gone go_row
  gone_21 e = rw e

  pub gone_22 : (row t p).location ≡ 22 → gone t p ≡ set t p (with_location 23 (row t p))
  unfolding gone go_row
  gone_22 e = rw e

  pub gone_23 : (row t p).location ≡ 23
      → gone t p ≡ set t p (reconsidered p (row t (row t p).level).turn (row t p))
  unfolding gone go_row
  gone_23 e = rw e

  pub gone_24 : (row t p).location ≡ 24
      → gone t p ≡ turned (row t p).level p (set t p (pushed (length t) p (competitors t) (row t p)))
  unfolding gone go_row
  gone_24 e = rw e

  pub gone_30 : (row t p).location ≡ 30 → gone t p ≡ map (forgets p) (set t p (with_location 40 (row t p)))
  unfolding gone go_row
  gone_30 e = rw e

  pub gone_40 : (row t p).location ≡ 40 → gone t p ≡ set t p (with_location 10 (with_act 0 (row t p)))
  unfolding gone go_row
  gone_40 e = rw e

  -- ---- FLICKER

  -- away from 24
  pub flickered_act : (a : ℕ) → ((row t p).location ≡ 24 → ⊥) → flickered t p a ≡ assigned t p (with_act a)
  unfolding flickered
  flickered_act a ne =
      ap (λ (b : Bool). cond b (turned (row t p).level a t) (set t p (with_act a (row t p)))) (ne_eqb _ _ ne)

  pub flickered_turn : (a : ℕ) → (row t p).location ≡ 24 → flickered t p a ≡ turn_assigned t (row t p).level a
  unfolding flickered turned
  flickered_turn a e = rw e

-- ---- the two orders

-- an assignment to row p that leaves the turn cell alone, and one to turn[k], in either order
pub push_forms : (t : Table) (p k v : ℕ) (f : Row → Row)
    → p < length t
    → ((r : Row) → f (with_turn v r) ≡ with_turn v (f r))
    → turned k v (set t p (f (row t p))) ≡ assigned (turn_assigned t k v) p f
unfolding turned
push_forms t p k v f l c = go (ℕ_discrete p k)
  where
    go : Dec (p ≡ k) → turned k v (set t p (f (row t p))) ≡ assigned (turn_assigned t k v) p f
    go (yes e) =
        subst (λ (x : ℕ). turned x v (set t p (f (row t p))) ≡ assigned (turn_assigned t x v) p f) e
        (ap (λ (r : Row). set (set t p (f (row t p))) p (with_turn v r)) (row_same t p (f (row t p)) l)
        ∙ set-set t p (f (row t p)) (with_turn v (f (row t p)))
        ∙ ap (λ (r : Row). set t p r) (sym (ap f (turn_same t p v l) ∙ c (row t p)))
        ∙ sym (set-set t p (with_turn v (row t p)) (f (row (turn_assigned t p v) p))))
    go (no ne) =
        ap (λ (r : Row). set (set t p (f (row t p))) k (with_turn v r)) (row_other t p k (f (row t p)) (λ e. ne (sym e)))
        ∙ set_comm t p k (f (row t p)) (with_turn v (row t k)) ne
        ∙ ap (λ (r : Row). set (turn_assigned t k v) p (f r)) (sym (turn_other t k v p ne))

-- GO at 24
pub gone_push : (t : Table) (p : ℕ)
    → p < length t
    → (row t p).location ≡ 24
    → gone t p
    ≡ assigned (turn_assigned t (row t p).level p) p
    (λ r. with_location 21 (with_ahead (without (competitors t) p) (with_est (others (length t) p) (with_bb 1 r))))
unfolding pushed
gone_push t p l e =
    gone_24 t p e
    ∙ push_forms t p (row t p).level p (pushed (length t) p (competitors t)) l (λ r. refl)

-- GO at 30
pub gone_exit : (t : Table) (p : ℕ)
    → p < length t
    → (row t p).location ≡ 30
    → gone t p ≡ assigned (map (exited p) t) p (with_location 40)
unfolding forgets
gone_exit t p l e =
    gone_30 t p e
    ∙ map-set (forgets p) t p (with_location 40 (row t p))
    ∙ ap (λ (r : Row). set (map (forgets p) t) p (with_location 40 r)) (sym (row-map (forgets p) t p l))
