-- What a quiet table says of one process.
--
--   quiet_few, quiet-sound     at most 16 processes, each within its ranges
--   quiet_in, quiet_level      a process has a row, and so has its level
--   quiet_within               who competes is a process of the table
--   quiet_never                nobody is at another location than those of a quiet table
--   quiet_unbroken             so nobody is at 20, and a round is unbroken
--   quiet_waits, quiet_last    who competes is at 21 to 24, and with level 0 at 21
--   quiet_seen                 who shows act competes
--   est_fits                   est of one who competes has at most n - 1 members
--   left_most                  n + 2 moves at most are left until the decision at 23
--   due_most, due_some         at most a phase is due, and at least one move
--   look_left, push_left       a look is one move of those left, and after a push at most n + 2 are left again
--
-- Assumes nothing.
use Prim.Native.Nat.{ℕ, ◌+◌, ◌≤◌, ◌<◌}
use mathlib.Core.Path.{◌≡◌, refl, sym, ap, ◌∙◌, subst}
use mathlib.Core.Bool.{true, false, false≢true}
use mathlib.Core.Logic.{⊎_elim}
use native.Mathlib.Decide.{ℕ_discrete}
use native.Mathlib.Omega.{arith}
use lib.Dec.{eqb}
use lib.ListN.{length}
use borrow.Author.Tests.{eqb-true}
use Rattle.counting.specs.Sets.{has, size, without, lowest}
use Rattle.counting.proofs.TestLaws.{or_cases}
use Rattle.counting.proofs.CountLaws.{count_all}
use Rattle.counting.proofs.SizeLaws.{size_le, size_under, size_without_in, size-others}
use Rattle.counting.proofs.SetLaws.{member_below}
use Rattle.machine.specs.Rows.{with_est, with_lis}
use Rattle.machine.specs.Tables.{Table, row, one_of, competes}
use Rattle.machine.specs.Rounds.{Unbroken}
use Rattle.machine.proofs.OneOfLaws.{by_one}
use Rattle.machine.proofs.SoundRows.{SoundRow, sound-row, sound_few}
use Rattle.machine.proofs.Assignments.{competes_at, competes_within}
use Rattle.machine.proofs.StepRows.{pushed_row}
use Rattle.machine.proofs.BrokenRounds.{entered_unbroken}
use Rattle.silence.proofs.Steady.{waiting_places, quiet_places, Quiet}
use Rattle.silence.proofs.Due.{left, due, phase}
use Rattle.silence.proofs.DueLaws.{left_21, left_22, left_23, left_24, left_pos, due_set, due_unset}

module _ (n : ℕ) (t : Table) (h : Quiet n t) where
  pub quiet_few : n ≤ 16
  quiet_few = subst (λ (x : ℕ). x ≤ 16) h.size_is (sound_few t h.steady.sound)

  pub quiet_in : (q : ℕ) → q < n → q < length t
  quiet_in q l = subst (λ (x : ℕ). q < x) (sym h.size_is) l

  pub quiet-sound : (q : ℕ) → q < n → SoundRow n q (row t q)
  quiet-sound q l =
      subst (λ (x : ℕ). SoundRow x q (row t q)) h.size_is (sound-row t h.steady.sound q (quiet_in q l))

  -- the row of the turn cell that q writes at 24 is a row of the table
  pub quiet_level : (q : ℕ) → q < n → (row t q).level < length t
  quiet_level q l = quiet_in (row t q).level (quiet-sound q l).level_low

  pub quiet_within : (q : ℕ) → competes (row t q) ≡ true → q < n
  quiet_within q c = subst (λ (x : ℕ). q < x) h.size_is (competes_within t q c)

  -- a process is at none of the other locations
  pub quiet_never : (q v : ℕ) → q < n → (row t q).location ≡ v → one_of v quiet_places ≡ false → ⊥
  quiet_never q v l e z = false≢true (sym z ∙ sym (ap (λ (x : ℕ). one_of x quiet_places) e) ∙ h.places q l)

  pub quiet_unbroken : Unbroken t
  quiet_unbroken =
      entered_unbroken t h.steady.sound
      (λ q l e. quiet_never q 20 (subst (λ (x : ℕ). q < x) h.size_is l) e refl)

  -- who competes waits at one of four locations
  pub quiet_waits : (q : ℕ) → competes (row t q) ≡ true → one_of (row t q).location waiting_places ≡ true
  quiet_waits q c =
      ⊎_elim
      (λ e. absurd (false≢true (sym (competes_at (row t q) 10 (eqb-true _ _ e)) ∙ c)))
      (λ e. e)
      (or_cases (eqb (row t q).location 10) (one_of (row t q).location waiting_places) (h.places q (quiet_within q c)))

  -- and at 21 where its level is 0
  pub quiet_last : (q : ℕ) → competes (row t q) ≡ true → (row t q).level ≡ 0 → (row t q).location ≡ 21
  quiet_last q c z =
      let some = (quiet-sound q (quiet_within q c)).level_some in
      by_one (row t q).location waiting_places (
        (λ e. e),
        (
          (λ e. absurd (omega (arith, some (omega arith) (omega arith)))),
          (
            (λ e. absurd (omega (arith, some (omega arith) (omega arith)))),
            ((λ e. absurd (omega (arith, some (omega arith) (omega arith)))), tt),
          ),
        ),
      )
      (quiet_waits q c)

  -- who shows act competes
  pub quiet_seen : (q : ℕ) → q < n → ((row t q).act ≡ 0 → ⊥) → competes (row t q) ≡ true
  quiet_seen q l ne =
      by_one (row t q).location quiet_places (
        (λ e. absurd (ne ((h.steady.rows q).rest_unseen e))),
        (
          competes_at (row t q) 21,
          (competes_at (row t q) 22, (competes_at (row t q) 23, (competes_at (row t q) 24, tt))),
        ),
      )
      (h.places q l)

  -- ---- how much is left

  module _ (q : ℕ) (c : competes (row t q) ≡ true) where
    -- q is not in its own est
    pub est_fits : size (row t q).est + 1 ≤ n
    est_fits =
        let l = quiet_within q c in
        let fewer = size_under (row t q).est n q (λ x. true) (quiet-sound q l).est_low quiet_few l
        ((h.steady.rows q).est_others c) (λ x i m. refl) refl in
        let all = count_all (λ x. true) n (λ x i. refl) in
        omega arith

    pub left_most : left (row t q) ≤ n + 2
    left_most =
        by_one (row t q).location waiting_places (
          (λ e. omega (arith, left_21 (row t q) e, est_fits)),
          (
            (λ e. omega (arith, left_22 (row t q) e, lis_fits)),
            ((λ e. omega (arith, left_23 (row t q) e)), ((λ e. omega (arith, left_24 (row t q) e)), tt)),
          ),
        )
        (quiet_waits q c)
      where
        lis_fits : size (row t q).lis ≤ n
        lis_fits = size_le (row t q).lis n (quiet-sound q (quiet_within q c)).lis_low quiet_few

    pub due_most : due n (row t q) ≤ phase n
    due_most = go (ℕ_discrete (row t q).bb 0)
      where
        go : Dec ((row t q).bb ≡ 0) → due n (row t q) ≤ phase n
        go (yes z) = omega (arith, due_unset (row t q) n z, left_most)
        go (no nz) = omega (arith, due_set (row t q) n nz, left_most)

    -- at 24 bb is 0
    pub due_some : 1 ≤ due n (row t q)
    due_some = go (ℕ_discrete (row t q).bb 0)
      where
        go : Dec ((row t q).bb ≡ 0) → 1 ≤ due n (row t q)
        go (yes z) = omega (arith, due_unset (row t q) n z)
        go (no nz) =
            let inside = ((h.steady.rows q).bb_inside nz).1 in
            omega (arith, due_set (row t q) n nz, left_pos (row t q) (λ e. omega arith))

  -- a look at a member of lis, whatever becomes of est
  pub look_left : (p : ℕ)
      → p < n
      → (row t p).location ≡ 22
      → has (row t p).lis (lowest (row t p).lis) ≡ true
      → (a : ℕ)
      → left (with_est a (with_lis (without (row t p).lis (lowest (row t p).lis)) (row t p))) + 1 ≤ left (row t p)
  look_left p l e m a =
      let x = lowest (row t p).lis in
      let low = member_below (row t p).lis n x (quiet-sound p l).lis_low m in
      let fewer = size_without_in (row t p).lis x (omega (arith, quiet_few)) m in
      let s = with_est a (with_lis (without (row t p).lis x) (row t p)) in
      omega (arith, left_22 (row t p) e, left_22 s e)

  -- a push, after which est has all others
  pub push_left : (p : ℕ) → p < n → left (pushed_row t p (row t p)) ≤ n + 2
  push_left p l =
      let size_is = h.size_is in
      omega (arith, size-others (length t) p (omega (arith, quiet_few)) (quiet_in p l))
