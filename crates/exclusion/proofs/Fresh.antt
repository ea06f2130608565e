-- A fresh table has the invariant, and there is one for every number of processes from 2 to 16.
--
--   fresh_invariant     every row of a fresh table rests, so the invariant holds
--   fresh_table-fresh    the table that is made for n processes is fresh
--
-- Assumes nothing.
use Prim.Native.Nat.{ℕ, zero, suc, ◌≤◌}
use mathlib.Core.Path.{◌≡◌, refl, sym, ◌∙◌, subst}
use mathlib.Core.Bool.{true, false≢true, and-eq-true_iff}
use mathlib.Core.Logic.{inl}
use native.Mathlib.Omega.{arith}
use lib.Pow.{pow_pos}
use lib.ListN.{length, length-replicate, get_or-replicate}
use Rattle.counting.specs.Sets.{has}
use Rattle.counting.proofs.TestLaws.{fails}
use Rattle.counting.proofs.SetLaws.{has_zero}
use Rattle.counting.proofs.CountLaws.{count_none}
use Rattle.machine.specs.Rows.{idle, blank}
use Rattle.machine.specs.Tables.{Table, row, sound, all_resting, fresh, fresh_table, competes}
use Rattle.machine.proofs.PassLaws.{none_sound}
use Rattle.machine.proofs.SoundRows.{SoundRow, sound-accepted, accepted-sound, rows_sound}
use Rattle.machine.proofs.FreshRows.{fresh-sound, fresh_rests}
use Rattle.exclusion.proofs.Reaching.{is_reaching, reaches_of_is_reaching, reaches_competes}
use Rattle.exclusion.proofs.Bounded.{Bounded}
use Rattle.exclusion.proofs.Invariant.{Invariant}

module _ (t : Table) (h : fresh t ≡ true) where
  nobody_competes : (q : ℕ) → competes (row t q) ≡ true → ⊥
  nobody_competes q c = false≢true (sym (fresh_rests t h q).idle_now ∙ c)

  nobody_ahead : (q x : ℕ) → has (row t q).ahead x ≡ true → ⊥
  nobody_ahead q x m =
      false≢true (sym (has_zero x) ∙ subst (λ (s : ℕ). has s x ≡ true) (fresh_rests t h q).none_ahead m)

  fresh_bounded : (k : ℕ) → Bounded t k
  fresh_bounded k =
      let none = count_none (λ q. is_reaching k (row t q)) (length t)
      (λ q l. fails (is_reaching k (row t q))
      (λ m. nobody_competes q (reaches_competes k (row t q) (reaches_of_is_reaching k (row t q) m)))) in
      inl (omega arith)

  pub fresh_invariant : Invariant t
  fresh_invariant =
      record {
        sound = sound-accepted t (fresh-sound t h);
        bb_inside = λ q n. absurd (n (fresh_rests t h q).no_bb);
        ahead_in_est = λ q x m. absurd (nobody_ahead q x m);
        act_shown = λ q c. absurd (nobody_competes q c);
        ahead_competes = λ q x m. absurd (nobody_ahead q x m);
        bounded = fresh_bounded;
      }

-- ---- the table that is made

made_rests : (n : ℕ) → all_resting (fresh_table n) ≡ true
unfolding all_resting
made_rests zero = refl
made_rests (suc n) = made_rests n

made_row : (n q : ℕ) → 2 ≤ n → SoundRow n q idle
made_row n q l =
    record {
      location_known = refl;
      act_low = omega arith;
      bb_low = omega arith;
      level_low = omega arith;
      est_low = pow_pos n;
      lis_low = pow_pos n;
      ahead_low = pow_pos n;
      turn_low = omega arith;
      turn_none = λ e. refl;
      level_some = λ a b. absurd (omega arith);
      level_none = λ e. refl;
      passes_fit = none_sound n q;
    }

pub fresh_table-fresh : (n : ℕ) → 2 ≤ n → n ≤ 16 → fresh (fresh_table n) ≡ true
unfolding fresh
fresh_table-fresh n a b =
    let e : length (fresh_table n) ≡ n = length-replicate n idle in
    (and-eq-true_iff (sound (fresh_table n)) (all_resting (fresh_table n))).1 (
      accepted-sound (fresh_table n)
          (rows_sound (fresh_table n) (omega arith) (omega arith)
          (λ q l.
          subst (λ (m : ℕ). SoundRow m q (row (fresh_table n) q)) (sym e)
          (subst (SoundRow n q) (sym (get_or-replicate n q idle blank (omega arith))) (made_row n q a)))),
      made_rests n,
    )
