-- A fresh table row by row, as plain facts.
--
--   Resting r      <=>  the process of r does not compete, and has act 0, bb 0, nobody ahead and no passes.
--   fresh-sound    a fresh table is sound
--   fresh_at_10    each of its processes is at 10
--   fresh_rests    every row of it rests, and so do those past its end
--
-- Assumes nothing.
use Prim.Native.Nat.{ℕ, zero, suc, ◌<◌}
use mathlib.Core.Path.{◌≡◌, refl, sym, subst}
use mathlib.Core.Bool.{Bool, true, false, ◌&&◌, and-eq-true_iff}
use mathlib.Core.List.{[], ◌∷◌}
use native.Mathlib.Decide.{dec_lt}
use native.Mathlib.Omega.{arith}
use lib.Dec.{eqb}
use lib.ListN.{length, get_or, get_or-replicate}
use borrow.Author.Tests.{eqb-true}
use Rattle.machine.specs.Tables.{Table, row, sound, clear, resting, all_resting, fresh, competes}
use Rattle.machine.specs.declared.Row.{Row}
use Rattle.machine.proofs.TableLaws.{row_over}
use Rattle.machine.proofs.Assignments.{competes_at}
use Rattle.machine.proofs.PassLaws.{clear_none}

pub record Resting (r : Row) : Type 0 where
  pub idle_now : competes r ≡ false
  pub no_act : r.act ≡ 0
  pub no_bb : r.bb ≡ 0
  pub none_ahead : r.ahead ≡ 0
  pub none_passed : (i : ℕ) → i < 16 → get_or r.passes i 0 ≡ 0

-- the test of a row that rests, as facts
rests_of_test : (r : Row) → resting r ≡ true → (r.location ≡ 10) × Resting r
rests_of_test r h =
    let a : Bool = eqb r.location 10 in
    let b : Bool = eqb r.act 0 in
    let c : Bool = eqb r.bb 0 in
    let d : Bool = eqb r.ahead 0 in
    let abcd = (and-eq-true_iff (a && b && c && d) (clear r.passes)).0 h in
    let abc = (and-eq-true_iff (a && b && c) d).0 abcd.0 in
    let ab = (and-eq-true_iff (a && b) c).0 abc.0 in
    let at : r.location ≡ 10 = eqb-true _ _ ((and-eq-true_iff a b).0 ab.0).0 in (
      at,
      record {
        idle_now = competes_at r 10 at;
        no_act = eqb-true _ _ ((and-eq-true_iff a b).0 ab.0).1;
        no_bb = eqb-true _ _ ab.1;
        none_ahead = eqb-true _ _ abc.1;
        none_passed = clear_none r.passes abcd.1;
      },
    )

all_rest : (t : Table) → all_resting t ≡ true → (q : ℕ) → q < length t → resting (row t q) ≡ true
unfolding all_resting
all_rest [] h q l = absurd (omega arith)
all_rest (r ∷ t) h zero l = ((and-eq-true_iff (resting r) (all_resting t)).0 h).0
all_rest (r ∷ t) h (suc q) l = all_rest t ((and-eq-true_iff (resting r) (all_resting t)).0 h).1 q (omega arith)

module _ (t : Table) (h : fresh t ≡ true) where
  pub fresh-sound : sound t ≡ true
  unfolding fresh
  fresh-sound = ((and-eq-true_iff (sound t) (all_resting t)).0 h).0

  rests-within : (q : ℕ) → q < length t → ((row t q).location ≡ 10) × Resting (row t q)
  unfolding fresh
  rests-within q l =
      rests_of_test (row t q) (all_rest t ((and-eq-true_iff (sound t) (all_resting t)).0 h).1 q l)

  pub fresh_at_10 : (q : ℕ) → q < length t → (row t q).location ≡ 10
  fresh_at_10 q l = (rests-within q l).0

  pub fresh_rests : (q : ℕ) → Resting (row t q)
  fresh_rests q = go (dec_lt q (length t))
    where
      go : Dec (q < length t) → Resting (row t q)
      go (yes l) = (rests-within q l).1
      go (no nl) =
          subst Resting (sym (row_over t q (omega (arith, nl))))
          (record {
            idle_now = refl;
            no_act = refl;
            no_bb = refl;
            none_ahead = refl;
            none_passed = λ i k. get_or-replicate 16 i 0 0 k;
          })
