-- A move of a process that competes takes it one move nearer to a level below the number of those that compete.
--
--   carried_on, begun_anew          a row whose scan goes on, and one whose scan is over
--   kept_clean, discarded_clean     a look keeps a scan clean: who shows act competes
--   row_down                        the row of p after its move
--   moved_down                      every row
--
-- Assumes nothing.
use Prim.Native.Nat.{ℕ, suc, ◌+◌, ◌≤◌, ◌<◌}
use mathlib.Core.Path.{◌≡◌, refl, sym, ap, ◌∙◌, subst}
use mathlib.Core.Bool.{Bool, true, false, false≢true}
use mathlib.Core.Logic.{inl, inr}
use native.Mathlib.Nat.{lt_of_lt_of_le}
use native.Mathlib.Decide.{ℕ_discrete}
use native.Mathlib.Omega.{arith}
use Rattle.counting.specs.Sums.{count}
use Rattle.counting.specs.Sets.{has, size, without, lowest}
use Rattle.counting.proofs.SetLaws.{has_zero, member_below, without_same, without_other, without_lt}
use Rattle.machine.specs.Rows.{with_location}
use Rattle.machine.specs.Tables.{Table, row, competes}
use Rattle.machine.specs.declared.Row.{Row}
use Rattle.machine.proofs.SoundRows.{SoundRow}
use Rattle.machine.proofs.Assignments.{competes_at}
use Rattle.machine.proofs.StepRows.{step_row, step_becomes, step_keeps-rows}
use Rattle.machine.proofs.RoundLaws.{Move, move_step}
use Rattle.machine.proofs.RoundLaws.Move.{rests, enters, starts_scan, wins, discards, keeps, ends_scan, lowers, to_push}
use Rattle.machine.proofs.RoundLaws.Move.{waits, skips, pushes, exits, leaves}
use Rattle.silence.proofs.Due.{left}
use Rattle.silence.proofs.DueLaws.{left_21, left_22, left_23}
use Rattle.silence.proofs.QuietLaws.{quiet_few, quiet_in, quiet_level, quiet-sound, quiet_within, quiet_never}
use Rattle.silence.proofs.QuietLaws.{quiet_seen, est_fits, look_left, push_left}
use Rattle.silence.proofs.Pace.{Spends}
use Rattle.silence.proofs.Moving.{Among}
use Rattle.silence.proofs.Down.{Clean, Down, AllDown, clean_few}

-- ---- one process of a quiet table

module _ (C : ℕ → Bool) (n : ℕ) (t : Table) (a : Among C n t) (p : ℕ) (c : C p ≡ true) where
  abbrev r : Row
  r = row t p

  in_C : competes r ≡ true
  in_C = a.competing p ∙ c

  l : p < n
  l = quiet_within n t a.quiet p in_C

  sound : SoundRow n p r
  sound = quiet-sound n t a.quiet p l

  -- ---- its row becomes s

  module _ (j : ℕ) (s : Row) where
    -- the scan goes on
    carried_on : s.level ≡ r.level
        → (s.location ≡ 24 → ⊥)
        → left s + 1 ≤ left r
        → (Clean C r → Clean C s)
        → Down C n (suc j) r
        → Down C n j s
    carried_on e ne h f (inl i) = inl (omega arith)
    carried_on e ne h f (inr (inl (_, d, i))) = inr (inl (ne, f d, omega arith))
    carried_on e ne h f (inr (inr i)) = inr (inr (omega arith))

    -- the scan is over, and a clean one led to a low level
    begun_anew : s.location ≡ 21
        → left s ≤ n + 2
        → s.level ≤ r.level
        → ((r.location ≡ 24 → ⊥) → Clean C r → s.level < count C n)
        → Down C n (suc j) r
        → Down C n j s
    begun_anew e h k f (inl i) = inl (omega arith)
    begun_anew e h k f (inr (inl (ne, d, _))) = inl (f ne d)
    begun_anew e h k f (inr (inr i)) =
        inr (inl ((λ z. omega arith), ((λ z. absurd (omega arith)), (λ z. absurd (omega arith))), omega arith))

    -- so it is at 23, with a level of at most the size of est
    decided : r.location ≡ 23
        → s.location ≡ 21
        → s.est ≡ r.est
        → s.level ≤ r.level
        → s.level ≤ size r.est
        → Down C n (suc j) r
        → Down C n j s
    decided e to same low few =
        let fits = est_fits n t a.quiet p in_C in
        let next = left_21 s to ∙ ap (λ (x : ℕ). size x + 3) same in
        begun_anew to (omega arith) low (λ ne d. omega (arith, clean_few C n t a p c e d))

  -- to 24, which a clean scan does not lead to but at a low level
  undecided : (j : ℕ)
      → r.location ≡ 23
      → r.level ≤ size r.est
      → Down C n (suc j) r
      → Down C n j (with_location 24 r)
  undecided j e i (inl h) = inl h
  undecided j e i (inr (inl (ne, d, h))) = inl (omega (arith, clean_few C n t a p c e d))
  undecided j e i (inr (inr h)) = inr (inr (omega (arith, left_23 r e)))

  -- ---- a look

  abbrev seen : ℕ
  seen = lowest r.lis

  kept_clean : r.location ≡ 22
      → has r.lis seen ≡ true
      → ((row t seen).act ≡ 0 → ⊥)
      → Clean C r
      → (x : ℕ) → has r.est x ≡ true → has (without r.lis seen) x ≡ false → C x ≡ true
  kept_clean e m act d x i o = go (ℕ_discrete x seen)
    where
      go : Dec (x ≡ seen) → C x ≡ true
      go (yes z) =
          let in-n = member_below r.lis n seen sound.lis_low m in
          ap C z ∙ sym (a.competing seen) ∙ quiet_seen n t a.quiet seen in-n act
      go (no ne) =
          let low = lt_of_lt_of_le (member_below r.est n x sound.est_low i) (quiet_few n t a.quiet) in
          d.0 e x i (sym (without_other r.lis seen x low ne) ∙ o)

  discarded_clean : r.location ≡ 22
      → Clean C r
      → (x : ℕ) → has (without r.est seen) x ≡ true → has (without r.lis seen) x ≡ false → C x ≡ true
  discarded_clean e d x i o =
      let low = member_below (without r.est seen) 16 x (without_lt r.est seen) i in
      let ne : x ≡ seen → ⊥ =
      λ z. false≢true (sym (without_same r.est seen) ∙ ap (has (without r.est seen)) (sym z) ∙ i) in
      d.0 e x (sym (without_other r.est seen x low ne) ∙ i) (sym (without_other r.lis seen x low ne) ∙ o)

  -- ---- every move

  abbrev after : {u : Table} → Move t p u → Row
  after m = step_row t p (move_step m)

  row_down : (j : ℕ) {u : Table} (m : Move t p u)
      → ((after m).location ≡ 30 → ⊥)
      → Down C n (suc j) r
      → Down C n j (after m)
  unfolding move_step
  row_down j (rests e) on = absurd (false≢true (sym (competes_at r 10 e) ∙ in_C))
  row_down j (enters e) on = absurd (quiet_never n t a.quiet p 20 l e refl)
  row_down j (starts_scan e i) on =
      carried_on j (after (starts_scan e i)) refl (λ z. omega arith) (omega (arith, left_21 r e))
      (λ d. ((λ z x m o. absurd (false≢true (sym o ∙ m))), (λ z. absurd (omega arith))))
  row_down j (wins e i) on = absurd (on refl)
  row_down j (discards e m act) on =
      carried_on j (after (discards e m act)) refl (λ z. omega arith)
      (look_left n t a.quiet p l e m (without r.est seen))
      (λ d. ((λ z. discarded_clean e d), (λ z. absurd (omega arith))))
  row_down j (keeps e m act) on =
      carried_on j (after (keeps e m act)) refl (λ z. omega arith) (look_left n t a.quiet p l e m r.est)
      (λ d. ((λ z. kept_clean e m act d), (λ z. absurd (omega arith))))
  row_down j (ends_scan e i) on =
      carried_on j (after (ends_scan e i)) refl (λ z. omega arith) (omega (arith, left_22 r e))
      (λ d. ((λ z. absurd (omega arith)), (λ z x m. d.0 e x m (ap (λ (s : ℕ). has s x) i ∙ has_zero x))))
  row_down j (lowers e i) on = decided j (after (lowers e i)) e refl refl (omega arith) (omega arith)
  row_down j (to_push e i b) on = undecided j e i
  row_down j (waits e i b v) on = decided j (after (waits e i b v)) e refl refl (omega arith) (omega arith)
  row_down j (skips e i b v) on = decided j (after (skips e i b v)) e refl refl (omega arith) i
  row_down j (pushes e) on =
      begun_anew j (after (pushes e)) refl (push_left n t a.quiet p l) (omega arith) (λ ne d. absurd (ne e))
  row_down j (exits e) on = absurd (quiet_never n t a.quiet p 30 l e refl)
  row_down j (leaves e) on = absurd (quiet_never n t a.quiet p 40 l e refl)

-- ---- every row

pub moved_down : (C : ℕ → Bool) (n : ℕ) (t u : Table) (p j : ℕ) (f g : ℕ → ℕ)
    → Spends p j f g
    → p < n
    → Among C n t
    → ((row u p).location ≡ 30 → ⊥)
    → Move t p u
    → AllDown C n f t
    → AllDown C n g u
moved_down C n t u p j f g spends l a on m d =
    let in_t = quiet_in n t a.quiet p l in
    let i = quiet_level n t a.quiet p l in
    let b = step_becomes t p in_t i (move_step m) in
    step_keeps-rows t p in_t i (λ q r. C q ≡ true → Down C n (g q) r) (move_step m)
    (λ c.
    subst (λ (x : ℕ). Down C n x (step_row t p (move_step m))) (sym spends.after)
    (row_down C n t a p c j m (λ e. on (ap (λ (r : Row). r.location) b.own ∙ e))
    (subst (λ (x : ℕ). Down C n x (row t p)) spends.before (d p c))))
    (λ q ne c. subst (λ (x : ℕ). Down C n x (row t q)) (sym (spends.same q ne)) (d q c))
