-- A round from a quiet table: somebody is at 30, or it is quiet still and everybody has spent one round.
--
--   Goes C n t f v    <=>  v is quiet, and just those that have C compete; and for each j, where everybody had suc j
--                          rounds in t and process q has f j q in v, as many are on time, and all get down still.
--   round_goes_on          after a round everybody has j of suc j rounds left, or somebody is at 30
--
-- Assumes nothing.
use Prim.Native.Nat.{ℕ, suc, ◌≤◌, ◌<◌}
use mathlib.Core.Path.{◌≡◌, refl, sym, ◌∙◌, subst}
use mathlib.Core.Bool.{Bool}
use mathlib.Core.Logic.{◌⊎◌, inl, inr}
use native.Mathlib.Nat.{le_refl, le_trans}
use native.Mathlib.Omega.{arith}
use lib.ListN.{length}
use Rattle.machine.specs.Tables.{Table, row, table_refusal}
use Rattle.machine.specs.Census.{critical}
use Rattle.machine.specs.Steps.{refusal_of}
use Rattle.machine.specs.Rounds.{round_word, round}
use Rattle.machine.proofs.Frames.{step_others}
use Rattle.machine.proofs.RoundLaws.{Move, move_step, by_moves, round-length}
use Rattle.silence.proofs.QuietLaws.{quiet_within, quiet_never, quiet_unbroken}
use Rattle.silence.proofs.Pace.{pace, pace_first, pace_last, pace_spends}
use Rattle.silence.proofs.Moving.{Among, quiet_moves}
use Rattle.silence.proofs.OnTime.{OnTime, on_time, on_time_mono}
use Rattle.silence.proofs.Schedule.{moved_on_time}
use Rattle.silence.proofs.Down.{Down, AllDown}
use Rattle.silence.proofs.Stale.{moved_down}
use Rattle.silence.proofs.LastRound.{critical_at}

pub record Goes (C : ℕ → Bool) (n : ℕ) (t : Table) (f : ℕ → ℕ → ℕ) (v : Table) : Type 0 where
  pub among : Among C n v
  pub on_time_lem : (k j : ℕ) → on_time n t k (λ q. suc j) ≤ on_time n v k (f j)
  pub down : (j : ℕ) → AllDown C n (λ q. suc j) t → AllDown C n (f j) v

module _ (C : ℕ → Bool) (n : ℕ) (t : Table) where
  -- as many rounds, in another form
  goes_cong : (f g : ℕ → ℕ → ℕ) (v : Table)
      → ((j q : ℕ) → q < n → f j q ≡ g j q)
      → Goes C n t f v
      → Goes C n t g v
  goes_cong f g v e h =
      record {
        among = h.among;
        on_time_lem = λ k j.
            le_trans (h.on_time_lem k j)
            (on_time_mono n v v k (f j) (g j)
            (λ q l. subst (λ (x : ℕ). OnTime n (row v k).turn k x q (row v q)) (e j q l)));
        down = λ j d q c.
            let l = quiet_within n v h.among.quiet q (h.among.competing q ∙ c) in
            subst (λ (x : ℕ). Down C n x (row v q)) (e j q l) (h.down j d q c);
      }

  -- after the moves of the processes below p, one of them is at 30, or all goes on
  abbrev After : ℕ → Table → Type 0
  After p v = ((i : ℕ) × (i < p) × ((row v i).location ≡ 30)) ⊎ Goes C n t (λ j. pace j p) v

  move_goes_on : (p : ℕ) (v u : Table) → p < n → table_refusal u ≡ 0 → Move v p u → After p v → After (suc p) u
  move_goes_on p v u l y m (inl (i, k, e)) =
      inl (i, omega arith, (step_others v u p i (move_step m) (λ z. omega arith)).location_same ∙ e)
  move_goes_on p v u l y m (inr h) = go (quiet_moves C n v u p l h.among m y)
    where
      go : ((row u p).location ≡ 30) ⊎ Among C n u → After (suc p) u
      go (inl e) = inl (p, omega arith, e)
      go (inr b) =
          let on : (row u p).location ≡ 30 → ⊥ = λ e. quiet_never n u b.quiet p 30 l e refl in
          inr
          (record {
            among = b;
            on_time_lem = λ k j.
                le_trans (h.on_time_lem k j)
                (moved_on_time n v p l h.among.quiet k j (pace j p) (pace j (suc p)) (pace_spends j p) on m);
            down = λ j d.
                moved_down C n v u p j (pace j p) (pace j (suc p)) (pace_spends j p) l h.among on m (h.down j d);
          })

  pub round_goes_on : Among C n t → (1 ≤ critical (round t)) ⊎ Goes C n t (λ j q. j) (round t)
  round_goes_on a = go (by_moves t After a.quiet.steady.sound (quiet_unbroken n t a.quiet) each (inr start))
    where
      size_is : length t ≡ n
      size_is = a.quiet.size_is

      start : Goes C n t (λ j. pace j 0) t
      start =
          goes_cong (λ j q. suc j) (λ j. pace j 0) t (λ j q l. sym (pace_first j q))
          (record { among = a; on_time_lem = λ k j. le_refl _; down = λ j d. d })

      each : (p : ℕ) (v u : Table)
          → p < length t
          → length v ≡ length t
          → table_refusal v ≡ 0
          → table_refusal u ≡ 0
          → refusal_of v (round_word v p) ≡ 0
          → Move v p u
          → After p v
          → After (suc p) u
      each p v u l e z y ok m h = move_goes_on p v u (omega arith) y m h

      go : After (length t) (round t) → (1 ≤ critical (round t)) ⊎ Goes C n t (λ j q. j) (round t)
      go (inl (i, l, e)) = inl (critical_at (round t) i (omega (arith, round-length t)) e)
      go (inr h) =
          inr (goes_cong (λ j. pace j (length t)) (λ j q. j) (round t) (λ j q l. pace_last j _ q (omega arith)) h)
