-- Every effect of a step keeps the clauses of the invariant that count nothing.
--
-- Assumes nothing.
use Prim.Native.Nat.{ℕ, ◌<◌}
use mathlib.Core.Path.{◌≡◌, refl, sym, ◌∙◌, subst}
use mathlib.Core.Bool.{true, false, false≢true}
use native.Mathlib.Nat.{lt_of_lt_of_le}
use native.Mathlib.Omega.{arith}
use lib.ListN.{length}
use Rattle.counting.specs.Sets.{has, without, others}
use Rattle.counting.proofs.SetLaws.{others_other}
use Rattle.machine.specs.Tables.{Table, row, competes}
use Rattle.machine.specs.System.{Cp}
use Rattle.machine.specs.declared.Row.{Row}
use Rattle.machine.proofs.SoundRows.{sound_few}
use Rattle.machine.proofs.Assignments.{other_rows_keep, competes_at, competes_within}
use Rattle.exclusion.proofs.Effects.{Alone, Effect}
use Rattle.exclusion.proofs.Effects.Effect.{idled, stayed, entered, lowered, went_to_push, passed, flickered}
use Rattle.exclusion.proofs.Effects.Effect.{pushed, exited}
use Rattle.exclusion.proofs.Invariant.{AheadInEst, ActShown, Invariant, competitor_competes}
use Rattle.exclusion.proofs.Invariant.{without_member}

module _ (t u : Table) (p : ℕ) (l : p < length t) (i : Invariant t) where
  -- who competes is not p, where p does not
  competes_not : (x : ℕ) → competes (row t p) ≡ false → competes (row t x) ≡ true → x ≡ p → ⊥
  competes_not x o c z = false≢true (sym o ∙ subst (λ (y : ℕ). competes (row t y) ≡ true) z c)

  -- ---- est

  est_alone : (s : Row) → Alone t p s u → AheadInEst s → (q : ℕ) → AheadInEst (row u q)
  est_alone s b h = other_rows_keep (λ q r. AheadInEst r) b h (λ q ne. i.ahead_in_est q)

  -- a competitor that is not p is one of the others
  competitor_other : (x : ℕ) → competes (row t x) ≡ true → (x ≡ p → ⊥) → has (others (length t) p) x ≡ true
  competitor_other x c ne = others_other (length t) p x (competes_within t x c) ne

  pub effect_keeps_ahead_in_est : Effect t p u → (q : ℕ) → AheadInEst (row u q)
  effect_keeps_ahead_in_est (idled s h b v) =
      est_alone s b
      (λ x m.
      subst (λ (a : ℕ). has a x ≡ true) (sym h.same_est)
      (i.ahead_in_est p x (subst (λ (a : ℕ). has a x ≡ true) h.same_ahead m)))
  effect_keeps_ahead_in_est (stayed s h b v) =
      est_alone s b
      (λ x m.
      let a = subst (λ (a : ℕ). has a x ≡ true) h.same_ahead m in
      let c = i.ahead_competes p x a in
      let low = lt_of_lt_of_le (competes_within t x c) (sound_few t i.sound) in
      h.est_spares x low (i.act_shown x c) (i.ahead_in_est p x a))
  effect_keeps_ahead_in_est (entered e b v) =
      est_alone _ b
      (λ x m. let c = competitor_competes t x m in competitor_other x c (competes_not x (competes_at (row t p) 20 e) c))
  effect_keeps_ahead_in_est (lowered e h b v) = est_alone _ b (i.ahead_in_est p)
  effect_keeps_ahead_in_est (went_to_push e z b v) = est_alone _ b (i.ahead_in_est p)
  effect_keeps_ahead_in_est (passed e n o b v) = est_alone _ b (i.ahead_in_est p)
  effect_keeps_ahead_in_est (flickered e b v) = est_alone _ b (i.ahead_in_est p)
  effect_keeps_ahead_in_est (pushed e b v w) =
      est_alone _ b
      (λ x m.
      let a = without_member (Cp t) p x m in
      competitor_other x (competitor_competes t x a.0) a.1)
  effect_keeps_ahead_in_est (exited e b) =
      other_rows_keep (λ q r. AheadInEst r) b
      (λ x m. i.ahead_in_est p x (without_member (row t p).ahead p x m).0)
      (λ q ne x m. i.ahead_in_est q x (without_member (row t q).ahead p x m).0)

  -- ---- act

  act_alone : (s : Row) → Alone t p s u → ActShown s → (q : ℕ) → ActShown (row u q)
  act_alone s b h = other_rows_keep (λ q r. ActShown r) b h (λ q ne. i.act_shown q)

  pub effect_keeps_act_shown : Effect t p u → (q : ℕ) → ActShown (row u q)
  effect_keeps_act_shown (idled s h b v) = act_alone s b (λ c z. false≢true (sym h.idle_after ∙ c))
  effect_keeps_act_shown (stayed s h b v) = act_alone s b (λ c z. i.act_shown p h.before (sym h.same_act ∙ z))
  effect_keeps_act_shown (entered e b v) = act_alone _ b (λ c z. omega arith)
  effect_keeps_act_shown (lowered e h b v) = act_alone _ b (λ c. i.act_shown p (competes_at (row t p) 23 e))
  effect_keeps_act_shown (went_to_push e z b v) = act_alone _ b (λ c. i.act_shown p (competes_at (row t p) 23 e))
  effect_keeps_act_shown (passed e n o b v) = act_alone _ b (λ c. i.act_shown p (competes_at (row t p) 23 e))
  effect_keeps_act_shown (flickered e b v) = act_alone _ b (i.act_shown p)
  effect_keeps_act_shown (pushed e b v w) = act_alone _ b (λ c. i.act_shown p (competes_at (row t p) 24 e))
  effect_keeps_act_shown (exited e b) =
      other_rows_keep (λ q r. ActShown r) b (λ c z. false≢true c) (λ q ne. i.act_shown q)

  -- ---- who is ahead

  -- who competes does so still, and p has competitors ahead only
  ahead_alone : (s : Row)
      → Alone t p s u
      → (competes (row t p) ≡ true → competes s ≡ true)
      → ((x : ℕ) → has s.ahead x ≡ true → competes (row t x) ≡ true)
      → (q x : ℕ) → has (row u q).ahead x ≡ true → competes (row u x) ≡ true
  ahead_alone s b c h =
      let still : (x : ℕ) → competes (row t x) ≡ true → competes (row u x) ≡ true =
      other_rows_keep (λ x r. competes (row t x) ≡ true → competes r ≡ true) b c (λ x ne k. k) in
      other_rows_keep (λ q r. (x : ℕ) → has r.ahead x ≡ true → competes (row u x) ≡ true) b
      (λ x m. still x (h x m)) (λ q ne x m. still x (i.ahead_competes q x m))

  pub effect_keeps_ahead_competes : Effect t p u → (q x : ℕ) → has (row u q).ahead x ≡ true → competes (row u x) ≡ true
  effect_keeps_ahead_competes (idled s h b v) =
      ahead_alone s b (λ c. absurd (false≢true (sym h.idle_before ∙ c)))
      (λ x m. i.ahead_competes p x (subst (λ (a : ℕ). has a x ≡ true) h.same_ahead m))
  effect_keeps_ahead_competes (stayed s h b v) =
      ahead_alone s b (λ c. h.after)
      (λ x m. i.ahead_competes p x (subst (λ (a : ℕ). has a x ≡ true) h.same_ahead m))
  effect_keeps_ahead_competes (entered e b v) = ahead_alone _ b (λ c. refl) (competitor_competes t)
  effect_keeps_ahead_competes (lowered e h b v) = ahead_alone _ b (λ c. refl) (i.ahead_competes p)
  effect_keeps_ahead_competes (went_to_push e z b v) = ahead_alone _ b (λ c. refl) (i.ahead_competes p)
  effect_keeps_ahead_competes (passed e n o b v) = ahead_alone _ b (λ c. refl) (i.ahead_competes p)
  effect_keeps_ahead_competes (flickered e b v) = ahead_alone _ b (λ c. c) (i.ahead_competes p)
  effect_keeps_ahead_competes (pushed e b v w) =
      ahead_alone _ b (λ c. refl) (λ x m. competitor_competes t x (without_member (Cp t) p x m).0)
  effect_keeps_ahead_competes (exited e b) =
      other_rows_keep (λ q r. (x : ℕ) → has r.ahead x ≡ true → competes (row u x) ≡ true) b (left p) (λ q ne. left q)
    where
      -- whom p left in an ahead set is not p, and competes as before
      left : (q x : ℕ) → has (without (row t q).ahead p) x ≡ true → competes (row u x) ≡ true
      left q x m =
          let a = without_member (row t q).ahead p x m in
          subst (λ (r : Row). competes r ≡ true) (sym (b.other x a.1)) (i.ahead_competes q x a.0)
