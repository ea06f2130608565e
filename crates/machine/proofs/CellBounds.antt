-- The index of the shared cell that a word uses is that of a process or of a level: it is below the number of
-- processes. Assumes nothing.
use Prim.Native.Nat.{ℕ, ◌<◌}
use mathlib.Core.Path.{◌≡◌, sym, subst}
use mathlib.Core.Bool.{Bool, true, cond, ◌&&◌}
use mathlib.Core.List.{[], ◌∷◌}
use native.Mathlib.Omega.{arith}
use lib.Dec.{eqb}
use lib.ListN.{length}
use borrow.Author.Tests.{eqb-true}
use Rattle.counting.proofs.SetLaws.{member_below}
use Rattle.counting.proofs.TestLaws.{split}
use Rattle.machine.specs.Tables.{Table, row, one_of}
use Rattle.machine.specs.Words.{FLICKER, GO, LOOK, kind_of, process_of, argument_of}
use Rattle.machine.specs.Shared.{asks_turn, written_at, cell_at}
use Rattle.machine.specs.Steps.{argument_fits, refusal_of, cell_of}
use Rattle.machine.specs.declared.Row.{Row}
use Rattle.machine.specs.declared.SharedCell.{SharedCell}
use Rattle.machine.proofs.SoundRows.{SoundRow, sound-row}
use Rattle.machine.proofs.Accepted.{accepted_table, accepted_says}
use Rattle.machine.proofs.CellLaws.{accepted_cell}

module _ (n : ℕ) where
  abbrev Low : SharedCell → Type 0
  Low c = c.index < n

  -- of either alternative
  low_cond : (b : Bool) (c d : SharedCell) → (b ≡ true → Low c) → Low d → Low (cond b c d)
  low_cond b c d h k = split (λ x. Low (cond x c d)) b h (λ _. k)

  module _ (k p a : ℕ) (r : Row) (process : p < n) (level : r.level < n) (looked : k ≡ LOOK → a < n) where
    written_low : Low (written_at p r)
    written_low =
        low_cond (one_of r.location (20 ∷ 40 ∷ [])) _ _ (λ _. process)
        (low_cond (eqb r.location 24) _ _ (λ _. level) (omega arith))

    at_low : Low (cell_at k p a r)
    unfolding cell_at
    at_low =
        low_cond (eqb k LOOK) _ _ (λ e. looked (eqb-true k LOOK e))
        (low_cond (eqb k FLICKER) _ _ (λ _. written_low)
        (low_cond (eqb k GO) _ _
        (λ _. low_cond (eqb r.location 23 && asks_turn r) _ _ (λ _. omega (arith, level)) written_low)
        (omega arith)))

module _ (t : Table) (w : ℕ) (z : refusal_of t w ≡ 0) where
  abbrev p : ℕ
  p = process_of w

  abbrev there : SoundRow (length t) p (row t p)
  there = sound-row t (accepted_table t w z) p (accepted_says t w z).process_in

  -- a LOOK is at a member of lis
  looked-low : kind_of w ≡ LOOK → argument_of w < length t
  unfolding argument_fits
  looked-low e =
      member_below (row t p).lis (length t) (argument_of w) there.lis_low
      (subst (λ (k : ℕ). argument_fits (length t) k (row t p) (argument_of w) ≡ true) e
      (accepted_says t w z).argument_fits_lem)

  pub cell_index : (cell_of t w).index < length t
  cell_index =
      subst (Low (length t)) (sym (accepted_cell t w z))
      (at_low (length t) (kind_of w) p (argument_of w) (row t p)
      (accepted_says t w z).process_in there.level_low looked-low)
