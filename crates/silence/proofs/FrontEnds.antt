-- How long it takes a front to bring a process to 30: to the round.
--
--   First m t       <=>  after m rounds some process is at 30, and after fewer nobody is.
--   first_later          one round more, where nobody is at 30
--   first_least          no smaller number of rounds is enough
--   front_arrives         a front with everything due takes 2 n + 5 rounds for each level, and one more
--
-- Assumes nothing.
use Prim.Native.Nat.{ℕ, zero, suc, ◌+◌, ◌*◌, ◌≤◌, ◌<◌}
use mathlib.Core.Path.{◌≡◌, refl, sym, ap, ◌∙◌, subst}
use native.Mathlib.Nat.{mul-suc}
use native.Mathlib.Decide.{dec_le, dec_lt}
use native.Mathlib.Omega.{arith}
use lib.ListN.{length}
use Rattle.machine.specs.Tables.{Table, row}
use Rattle.machine.specs.Census.{critical}
use Rattle.machine.specs.Rounds.{round, rounds}
use Rattle.machine.proofs.SoundRows.{sound-row}
use Rattle.machine.proofs.RoundLaws.{round-length, rounds_zero, rounds_suc}
use Rattle.silence.proofs.Due.{phase}
use Rattle.silence.proofs.Steady.{Arrives}
use Rattle.silence.proofs.LastRound.{level_zero_wins, critical_at}
use Rattle.silence.proofs.Front.{Low, Front, front_silent, front_unbroken}
use Rattle.silence.proofs.FrontRounds.{Next, front_round}

abbrev pub First : ℕ → Table → Type 0
First m t = ((r : ℕ) → r < m → critical (rounds r t) ≡ 0) × (1 ≤ critical (rounds m t))

pub first_later : (m : ℕ) (t : Table) → critical t ≡ 0 → First m (round t) → First (suc m) t
first_later m t z h =
    (before, subst (λ (u : Table). 1 ≤ critical u) (sym (rounds_suc m t)) h.1)
  where
    before : (r : ℕ) → r < suc m → critical (rounds r t) ≡ 0
    before zero l = ap (λ (u : Table). critical u) (rounds_zero t) ∙ z
    before (suc r) l = ap (λ (u : Table). critical u) (rounds_suc r t) ∙ h.0 r (omega arith)

pub first_least : (m b : ℕ) (t : Table) → First m t → Arrives t b → m ≤ b
first_least m b t h (r, l, some) = go (dec_lt r m)
  where
    go : Dec (r < m) → m ≤ b
    go (yes i) = absurd (omega (arith, h.0 r i))
    go (no ni) = omega (arith, ni)

-- ---- the last round

-- the front has come down to level 0, where process 0 is alone
front_wins : (n c : ℕ) (t : Table) → Front n 0 c t → First 1 t
front_wins n c t f =
    let wins = level_zero_wins t 0 f.sound (front_unbroken n 0 c t f) in_t
    (at_21 (dec_le 22 (row t 0).location)) own.level_is in
    first_later 0 t (front_silent n 0 c t f) (
      λ r l. absurd (omega arith),
      subst (λ (u : Table). 1 ≤ critical u) (sym (rounds_zero (round t)))
          (critical_at (round t) 0 (omega (arith, round-length t, in_t)) wins),
    )
  where
    in_t : 0 < length t
    in_t = omega (arith, f.level_low, f.size_is)

    own : Low n 0 c (row t 0)
    own = (f.rows 0 f.level_low).low (omega arith)

    at_21 : Dec (22 ≤ (row t 0).location) → (row t 0).location ≡ 21
    at_21 (yes i) =
        absurd (omega (arith, (sound-row t f.sound 0 in_t).level_some i own.to_24, own.level_is))
    at_21 (no ni) = omega (arith, ni, own.from_21)

-- ---- all rounds

-- one level: all from level j on takes m rounds
level_arrives : (n j m : ℕ)
    → ((u : Table) → Front n j (phase n) u → First m u)
    → (c : ℕ) (t : Table) → Front n (suc j) (suc c) t → First (c + suc m) t
level_arrives n j m below zero t f =
    let next = front_round n (suc j) 1 j (phase n) t (omega arith) (Next.descends j refl refl) f in
    subst (λ (x : ℕ). First x t) (omega arith) (first_later m t (front_silent _ _ _ t f) (below (round t) next))
level_arrives n j m below (suc c) t f =
    let one_less = Next.counts (suc c) refl (omega arith) in
    let next = front_round n (suc j) (suc (suc c)) (suc j) (suc c) t (omega arith) one_less f in
    subst (λ (x : ℕ). First x t) (omega arith)
    (first_later (c + suc m) t (front_silent _ _ _ t f) (level_arrives n j m below c (round t) next))

pub front_arrives : (n l : ℕ) (t : Table) → Front n l (phase n) t → First (phase n * l + 1) t
front_arrives n zero t f = subst (λ (x : ℕ). First x t) (omega arith) (front_wins n (phase n) t f)
front_arrives n (suc l) t f =
    let all : phase n ≡ suc (2 * n + 4) = omega arith in
    subst (λ (x : ℕ). First x t) (omega (arith, mul-suc (phase n) l))
    (level_arrives n l (phase n * l + 1) (front_arrives n l) (2 * n + 4) t
    (subst (λ (c : ℕ). Front n (suc l) c t) all f))
