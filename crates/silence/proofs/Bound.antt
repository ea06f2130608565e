-- From a quiet table of n processes some process is at 30 after at most n - 1 phases and one round more.
--
--   levels_end     after k phases and one round, if k + 1 processes compete at level k or below
--   low-ends       after m - 1 phases and one round, if all m that compete are at levels below m
--   stale_ends     after j rounds more, if each gets there within j moves
--   quiet_ends     from every quiet table; a phase of k + 1 processes has 2 k + 7 rounds
--
-- Assumes nothing.
use Prim.Native.Nat.{ℕ, zero, suc, ◌+◌, ◌*◌, ◌≤◌, ◌<◌}
use mathlib.Core.Path.{◌≡◌, refl, ◌∙◌, subst}
use mathlib.Core.Bool.{Bool, true}
use mathlib.Core.Logic.{⊎_elim}
use native.Mathlib.Nat.{le_trans, mul-le-mul_left}
use native.Mathlib.Decide.{dec_lt}
use native.Mathlib.Omega.{arith}
use Rattle.counting.specs.Sums.{count}
use Rattle.counting.proofs.CountLaws.{count_mono, count_le, count_pos, count_witness}
use Rattle.machine.specs.Tables.{Table, row, competes}
use Rattle.machine.specs.Census.{is_below}
use Rattle.machine.specs.Rounds.{round}
use Rattle.machine.proofs.RoundLaws.{round-length}
use Rattle.silence.proofs.Steady.{Quiet, Arrives}
use Rattle.silence.proofs.Due.{phase}
use Rattle.silence.proofs.ArrivalLaws.{arrives_mono, arrives_next, arrives_now}
use Rattle.silence.proofs.QuietLaws.{quiet_in, quiet-sound, quiet_within, quiet_unbroken, quiet_last}
use Rattle.silence.proofs.Moving.{Among}
use Rattle.silence.proofs.OnTime.{on_time, under, below_of_test, test_of_below, phase_starts, phase_ends}
use Rattle.silence.proofs.Down.{AllDown, down_at_start, down_at_end}
use Rattle.silence.proofs.LastRound.{critical_at, level_zero_wins}
use Rattle.silence.proofs.OneRound.{Goes, round_goes_on}

-- ---- quiet tables in which those of C compete

module _ (C : ℕ → Bool) (n : ℕ) where
  -- one round, and what holds of a table that is quiet after it
  by_round : (t : Table)
      → Among C n t
      → (b c : ℕ)
      → suc b ≤ c
      → (Goes C n t (λ j q. j) (round t) → Arrives (round t) b)
      → Arrives t c
  by_round t a b c l f =
      arrives_mono t (suc b) c l (⊎_elim (arrives_now t b) (λ g. arrives_next t b (f g)) (round_goes_on C n t a))

  -- who competes at level 0 is at 30 after it
  zero_arrives : (t : Table) (q : ℕ) → Among C n t → competes (row t q) ≡ true → (row t q).level ≡ 0 → Arrives t 1
  zero_arrives t q a c z =
      let in_t = quiet_in n t a.quiet q (quiet_within n t a.quiet q c) in
      let there = level_zero_wins t q a.quiet.steady.sound (quiet_unbroken n t a.quiet) in_t
      (quiet_last n t a.quiet q c z) z in
      arrives_now t 0 (critical_at (round t) q (omega (arith, round-length t)) there)

  -- ---- phases

  -- one phase, of which j rounds are left: all but one of k + 2 leave level k + 1, and then the rest is known
  phase_passes : (k : ℕ)
      → ((t : Table) → Among C n t → k + 1 ≤ under n t (suc k) → Arrives t (phase n * k + 1))
      → (j : ℕ) (t : Table)
      → Among C n t
      → k + 2 ≤ on_time n t (suc k) (λ q. j)
      → Arrives t (phase n * k + 1 + j)
  phase_passes k rest zero t a h =
      arrives_mono t _ _ (omega arith) (rest t a (phase_ends n t a.quiet (suc k) (k + 1) (omega arith)))
  phase_passes k rest (suc j) t a h =
      by_round t a (phase n * k + 1 + j) _ (omega arith)
      (λ g. phase_passes k rest j (round t) g.among (le_trans h (g.on_time_lem (suc k) j)))

  -- k phases and the last round, from k + 1 processes at level k or below
  levels_end : (k : ℕ) (t : Table) → Among C n t → k + 1 ≤ under n t (suc k) → Arrives t (phase n * k + 1)
  levels_end zero t a h =
      let w = count_witness (λ q. is_below 1 (row t q)) n (omega arith) in
      let b = below_of_test 1 (row t w.0) w.2 in
      arrives_mono t 1 _ (omega arith) (zero_arrives t w.0 a b.0 (omega (arith, b.1)))
  levels_end (suc k) t a h =
      arrives_mono t _ _ (omega arith)
      (phase_passes k (levels_end k) (phase n) t a (le_trans (omega arith) (phase_starts n t a.quiet (suc k))))

  -- ---- all that compete

  module _ (i : ℕ) (m-is : count C n ≡ suc i) where
    -- all levels are low
    low-ends : (t : Table)
        → Among C n t
        → ((q : ℕ) → C q ≡ true → (row t q).level < suc i)
        → Arrives t (phase n * i + 1)
    low-ends t a low =
        let all : count C n ≤ under n t (suc i) =
        count_mono C (λ q. is_below (suc i) (row t q)) n
        (λ q l c. test_of_below (suc i) (row t q) (a.competing q ∙ c) (low q c)) in
        levels_end i t a (omega arith)

    -- all get there within j rounds
    stale_ends : (j : ℕ) (t : Table) → Among C n t → AllDown C n (λ q. j) t → Arrives t (phase n * i + 1 + j)
    stale_ends zero t a d =
        arrives_mono t _ _ (omega arith)
        (low-ends t a (λ q c. subst (λ (m : ℕ). (row t q).level < m) m-is (down_at_end C n t a q (d q c))))
    stale_ends (suc j) t a d =
        by_round t a (phase n * i + 1 + j) _ (omega arith) (λ g. stale_ends j (round t) g.among (g.down j d))

-- ---- every quiet table

pub quiet_ends : (k : ℕ) (t : Table) → Quiet (suc k) t → Arrives t (phase (suc k) * k + 1)
quiet_ends k t h = go (count C n) refl (dec_lt (count C n) n)
  where
    n : ℕ
    n = suc k

    C : ℕ → Bool
    C q = competes (row t q)

    a : Among C n t
    a = record { quiet = h; competing = λ q. refl }

    some : 1 ≤ count C n
    some = let w = h.somebody in count_pos C n w.0 (quiet_within n t h w.0 w.1) w.1

    -- all compete, or one phase clears est of those who do not
    go : (m : ℕ) → count C n ≡ m → Dec (count C n < n) → Arrives t (phase n * k + 1)
    go zero e d = absurd (omega (arith, some))
    go (suc i) e (no all) =
        arrives_mono t _ _ (omega (arith, mul-le-mul_left {m = i} {n = k} (phase n) (omega (arith, count_le C n))))
        (low-ends C n i e t a
        (λ q c. omega (arith, all, (quiet-sound n t h q (quiet_within n t h q c)).level_low)))
    go (suc i) e (yes few) =
        arrives_mono t _ _ (omega (arith, mul-le-mul_left {m = suc i} {n = k} (phase n) (omega (arith, few))))
        (stale_ends C n i e (phase n) t a (down_at_start C n t a))
