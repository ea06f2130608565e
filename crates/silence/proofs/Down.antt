-- How far a process is from a level below the number of those that compete.
--
--   Clean C r         <=>  who was looked at in this scan of r and kept in est has C.
--   Down C n j r      <=>  the level of r is below the number of those that have C, or gets there within j moves of its
--                          process: at the end of this scan, if that is clean, or at the end of the next.
--   AllDown C n f t   <=>  each q that has C gets there within f q moves.
--   down_at_start          within a phase everybody gets there
--   down_at_end            and who has no move left is there
--   clean_few              est has fewer members than C at the end of a clean scan
--
-- Est may have members that do not compete, since a scan takes out only those whose act is 0 when they are looked at; a
-- clean scan has kept none of them.
-- Assumes nothing.
use Prim.Native.Nat.{ℕ, ◌+◌, ◌≤◌, ◌<◌}
use mathlib.Core.Path.{◌≡◌, ◌∙◌}
use mathlib.Core.Bool.{Bool, true, false}
use mathlib.Core.Logic.{◌⊎◌, inl, inr}
use native.Mathlib.Omega.{arith}
use Rattle.counting.specs.Sums.{count}
use Rattle.counting.specs.Sets.{has, size}
use Rattle.counting.proofs.SizeLaws.{size_under}
use Rattle.machine.specs.Tables.{Table, row}
use Rattle.machine.specs.declared.Row.{Row}
use Rattle.silence.proofs.Due.{left, phase}
use Rattle.silence.proofs.DueLaws.{left_pos}
use Rattle.silence.proofs.QuietLaws.{quiet_few, quiet-sound, quiet_within, left_most}
use Rattle.silence.proofs.Moving.{Among}

-- at 22 of those looked at, at 23 of all; at 21 and at 24 no scan is on
abbrev pub Clean : (ℕ → Bool) → Row → Type 0
Clean C r =
    (r.location ≡ 22 → (x : ℕ) → has r.est x ≡ true → has r.lis x ≡ false → C x ≡ true)
    × (r.location ≡ 23 → (x : ℕ) → has r.est x ≡ true → C x ≡ true)

-- another scan takes n + 2 moves, and one more at 24
abbrev pub Down : (ℕ → Bool) → ℕ → ℕ → Row → Type 0
Down C n j r =
    (r.level < count C n) ⊎ (((r.location ≡ 24 → ⊥) × Clean C r × (left r ≤ j)) ⊎ (left r + (n + 3) ≤ j))

abbrev pub AllDown : (ℕ → Bool) → ℕ → (ℕ → ℕ) → Table → Type 0
AllDown C n f t = (q : ℕ) → C q ≡ true → Down C n (f q) (row t q)

module _ (C : ℕ → Bool) (n : ℕ) (t : Table) (a : Among C n t) where
  pub down_at_start : AllDown C n (λ q. phase n) t
  down_at_start q c = inr (inr (omega (arith, left_most n t a.quiet q (a.competing q ∙ c))))

  pub down_at_end : (q : ℕ) → Down C n 0 (row t q) → (row t q).level < count C n
  down_at_end q (inl h) = h
  down_at_end q (inr (inl (ne, _, h))) = absurd (omega (arith, left_pos (row t q) ne))
  down_at_end q (inr (inr h)) = absurd (omega arith)

  -- q itself is not in it
  pub clean_few : (q : ℕ)
      → C q ≡ true
      → (row t q).location ≡ 23
      → Clean C (row t q)
      → size (row t q).est + 1 ≤ count C n
  clean_few q c e d =
      let competing = a.competing q ∙ c in
      let l = quiet_within n t a.quiet q competing in
      size_under (row t q).est n q C (quiet-sound n t a.quiet q l).est_low (quiet_few n t a.quiet) l
      ((a.quiet.steady.rows q).est_others competing) (λ x i m. d.1 e x m) c
