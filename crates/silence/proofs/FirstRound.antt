-- The first round of a silence: somebody is at 30 after it, or the table is quiet.
--
--   first_round    so it is, from a steady table with nobody at 30 and somebody pending, where the round is unbroken
--
-- Assumes nothing.
use Prim.Native.Nat.{ℕ, ◌≤◌, ◌<◌}
use mathlib.Core.Path.{◌≡◌, sym, ap, ◌∙◌, subst}
use mathlib.Core.Bool.{Bool, true, false, ◌&&◌, ◌||◌}
use mathlib.Core.Logic.{◌⊎◌, inl, inr}
use mathlib.Core.List.{◌∷◌}
use native.Mathlib.Omega.{arith}
use lib.Dec.{leb}
use lib.ListN.{length}
use Rattle.counting.proofs.CountLaws.{count_pos, count_find, count_witness}
use Rattle.machine.specs.Tables.{Table, row, one_of}
use Rattle.machine.specs.Census.{is_critical, critical}
use Rattle.machine.specs.Rounds.{round, Unbroken, is_pending, pending}
use Rattle.machine.specs.declared.Row.{Row}
use Rattle.machine.proofs.SoundRows.{sound-row}
use Rattle.machine.proofs.StepRows.{step_row, step_becomes}
use Rattle.machine.proofs.RoundLaws.{move_step, by_moves, round-length}
use Rattle.machine.proofs.OwnMoves.{own_move}
use Rattle.silence.proofs.Steady.{Steady, quiet_places, Quiet}
use Rattle.silence.proofs.Kept.{step_keeps_steady}
use Rattle.silence.proofs.Landing.{Lands, lands}
use Rattle.silence.proofs.LastRound.{critical_at}

module _ (t : Table) (s : Steady t) (whole : Unbroken t) (none : critical t ≡ 0) where
  nobody_at_30 : (q : ℕ) → q < length t → (row t q).location ≡ 30 → ⊥
  nobody_at_30 q l e = let some = critical_at t q l e in omega arith

  round_steady : Steady (round t)
  round_steady =
      by_moves t (λ p v. Steady v) s.sound whole
      (λ p v u l n z y ok m h. step_keeps_steady v u p z y (subst (λ (k : ℕ). p < k) (sym n) l) (move_step m) h) s

  -- after the round q is where its own move led it
  round_lands : (q : ℕ) → q < length t → Lands (row t q) (row (round t) q)
  round_lands q l =
      let o = own_move t q s.sound whole l in
      let v = o.before in
      let in-v : q < length v = subst (λ (k : ℕ). q < k) (sym o.same_size) l in
      let b = step_becomes v q in-v (sound-row v o.sound_before q in-v).level_low (move_step o.moves) in
      let to : (row (round t) q).location ≡ (step_row v q (move_step o.moves)).location =
      o.as_after.location_same ∙ ap (λ (r : Row). r.location) b.own in
      let from = o.as_before.location_same in
      let h = lands v q o.moves (λ e. nobody_at_30 q l (sym from ∙ e)) in (
        ap (λ (x : ℕ). one_of x (30 ∷ quiet_places)) to ∙ h.0,
        ap (λ (x : ℕ). leb 21 x && leb x 30) to ∙ h.1 ∙ ap (λ (x : ℕ). leb 20 x && leb x 24) from,
      )

  -- who is at 30 after the round
  abbrev at30 : ℕ → Bool
  at30 q = is_critical (row (round t) q)

  pub first_round : 1 ≤ pending t → (1 ≤ critical (round t)) ⊎ Quiet (length t) (round t)
  first_round some = go (count_find at30 (length (round t)))
    where
      go : ((q : ℕ) × (q < length (round t)) × (at30 q ≡ true)) ⊎ ((q : ℕ) → q < length (round t) → at30 q ≡ false)
          → (1 ≤ critical (round t)) ⊎ Quiet (length t) (round t)
      go (inl (q, l, h)) = inl (count_pos at30 (length (round t)) q l h)
      go (inr h) =
          let w = count_witness (λ q. is_pending (row t q)) (length t) some in
          inr
          (record {
            steady = round_steady;
            size_is = round-length t;
            places = λ q l.
                sym (ap (λ (b : Bool). b || one_of (row (round t) q).location quiet_places)
                (h q (subst (λ (k : ℕ). q < k) (sym (round-length t)) l)))
                ∙ (round_lands q l).0;
            somebody = (w.0, (round_lands w.0 w.1).1 ∙ w.2);
          })
