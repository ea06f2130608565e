-- Laws of the answer of rounds, case by case.
--
--   from_used, from_here                        no round is left; somebody is at 30
--   from_next, from_broken                      one round more; a word of it is refused
--   rounds_refused, rounds_none, rounds-some    a refused table, one with nobody at 20 to 24, and the others
--
-- Assumes nothing.
use Prim.Native.Nat.{ℕ, suc}
use mathlib.Core.Path.{◌≡◌, refl, sym, ap, ◌∙◌}
use mathlib.Core.Bool.{Bool, true, false}
use native.Mathlib.Omega.{arith}
use lib.Dec.{eqb, ltb}
use lib.ListN.{length}
use borrow.Author.Tests.{eq-eqb, ne_eqb, lt-ltb}
use Rattle.machine.specs.Tables.{Table, table_refusal}
use Rattle.machine.specs.Census.{critical}
use Rattle.machine.specs.Rounds.{Went, round_on, round_limit, pending, Rounded, rounded, unrounded, broken}
use Rattle.machine.specs.Rounds.{rounds_from, rounds_of}

pub from_used : (r : ℕ) (t : Table) → rounds_from 0 r t ≡ rounded r t
unfolding rounds_from
from_used r t = refl

module _ (b r : ℕ) (t : Table) where
  -- how far the words of the next round go
  abbrev w : Went
  w = round_on t 0 (length t)

  unfoldable more : Bool → Rounded
  more a = elim a [ true ↦ rounds_from b (suc r) w.table | false ↦ broken w.refusal r w.table ]

  unfoldable next : Bool → Rounded
  unfolding more
  next c = elim c [ true ↦ rounded r t | false ↦ more (eqb w.refusal 0) ]

  next_is : rounds_from (suc b) r t ≡ next (ltb 0 (critical t))
  unfolding rounds_from next more
  next_is = refl

  pub from_here : (critical t ≡ 0 → ⊥) → rounds_from (suc b) r t ≡ rounded r t
  unfolding next
  from_here n = next_is ∙ ap next (lt-ltb 0 (critical t) (omega (arith, n)))

  free : critical t ≡ 0 → rounds_from (suc b) r t ≡ more (eqb w.refusal 0)
  unfolding next
  free z = next_is ∙ ap (λ (k : ℕ). next (ltb 0 k)) z

  pub from_next : critical t ≡ 0 → w.refusal ≡ 0 → rounds_from (suc b) r t ≡ rounds_from b (suc r) w.table
  unfolding more
  from_next z e = free z ∙ ap more (eq-eqb _ _ e)

  pub from_broken : critical t ≡ 0
      → (w.refusal ≡ 0 → ⊥)
      → rounds_from (suc b) r t ≡ broken w.refusal r w.table
  unfolding more
  from_broken z n = free z ∙ ap more (ne_eqb _ _ n)

module _ (t : Table) where
  unfoldable some : Bool → Rounded
  some b = elim b [ false ↦ rounded 0 t | true ↦ rounds_from (round_limit (length t)) 0 t ]

  unfoldable whole : Bool → Rounded
  unfolding some
  whole b = elim b [ false ↦ unrounded (table_refusal t) t | true ↦ some (ltb 0 (pending t)) ]

  whole_is : rounds_of t ≡ whole (eqb (table_refusal t) 0)
  unfolding rounds_of whole some
  whole_is = refl

  pub rounds_refused : (v : ℕ) → v ≡ table_refusal t → (v ≡ 0 → ⊥) → rounds_of t ≡ unrounded v t
  unfolding whole
  rounds_refused v e n =
      whole_is ∙ ap whole (ne_eqb _ _ (λ z. n (e ∙ z))) ∙ ap (λ (k : ℕ). unrounded k t) (sym e)

  pub rounds_none : table_refusal t ≡ 0 → pending t ≡ 0 → rounds_of t ≡ rounded 0 t
  unfolding whole some
  rounds_none z e = whole_is ∙ ap whole (eq-eqb _ _ z) ∙ ap (λ (k : ℕ). some (ltb 0 k)) e

  pub rounds-some : table_refusal t ≡ 0
      → (pending t ≡ 0 → ⊥)
      → rounds_of t ≡ rounds_from (round_limit (length t)) 0 t
  unfolding whole some
  rounds-some z n =
      whole_is ∙ ap whole (eq-eqb _ _ z) ∙ ap some (lt-ltb 0 (pending t) (omega (arith, n)))
