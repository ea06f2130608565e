-- The last round: who is at 21 with level 0 is at 30 after it.
--
--   level_zero_wins    so it is, from every sound table and by an unbroken round
--   critical_at        and then somebody is counted there
--
-- Assumes nothing.
use Prim.Native.Nat.{ℕ, ◌≤◌, ◌<◌}
use mathlib.Core.Path.{◌≡◌, ap, ◌∙◌}
use native.Mathlib.Omega.{arith}
use lib.ListN.{length}
use borrow.Author.Tests.{eq-eqb}
use Rattle.counting.proofs.CountLaws.{count_pos}
use Rattle.machine.specs.Tables.{Table, row, table_refusal}
use Rattle.machine.specs.Census.{is_critical, critical}
use Rattle.machine.specs.Rounds.{round, Unbroken}
use Rattle.machine.specs.declared.Row.{Row}
use Rattle.machine.proofs.TableLaws.{row_same}
use Rattle.machine.proofs.RoundLaws.{Move, one_move}
use Rattle.machine.proofs.OwnMoves.{own_move}

pub critical_at : (t : Table) (q : ℕ) → q < length t → (row t q).location ≡ 30 → 1 ≤ critical t
critical_at t q l e = count_pos (λ x. is_critical (row t x)) (length t) q l (eq-eqb _ _ e)

module _ (t : Table) (q : ℕ) where
  -- the one move of q in a round is to 30
  pub level_zero_wins : table_refusal t ≡ 0
      → Unbroken t
      → q < length t
      → (row t q).location ≡ 21
      → (row t q).level ≡ 0
      → (row (round t) q).location ≡ 30
  level_zero_wins z whole l e i =
      let o = own_move t q z whole l in
      let v = o.before in
      let in-v : q < length v = omega (arith, o.same_size) in
      let wins = Move.wins (o.as_before.location_same ∙ e) (o.as_before.level_same ∙ i) in
      o.as_after.location_same
      ∙ ap (λ (u : Table). (row u q).location) (one_move o.sound_before in-v o.accepted_before o.moves wins)
      ∙ ap (λ (r : Row). r.location) (row_same v q _ in-v)
