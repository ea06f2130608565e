-- Settings and the steps of the system: the word of a step is forbidden just where the settings do not leave the step.
--
--   allowed_free    the word of a step that settings leave is not forbidden
--   free_allowed    a step whose word is not forbidden is left
--
-- Assumes nothing.
use Prim.Native.Nat.{ℕ, ◌≤◌, ◌<◌}
use mathlib.Core.Path.{◌≡◌, refl, ap, ap₂, ◌∙◌}
use mathlib.Core.Bool.{true, false, ◌&&◌, not, and-eq-true_iff}
use mathlib.Core.Logic.{◌≢◌}
use native.Mathlib.Decide.{dec_lt}
use native.Mathlib.Omega.{arith}
use lib.Dec.{eqb}
use lib.ListN.{length}
use borrow.Author.Tests.{eqb-true, eqb-false, eq-eqb, ne_eqb, lt-ltb, le-ltb, not-true}
use Rattle.counting.specs.Sets.{size}
use Rattle.counting.proofs.TestLaws.{split, fails}
use Rattle.counting.proofs.RangeLaws.{some_one, one_some}
use Rattle.machine.specs.Tables.{Table, row, table_refusal}
use Rattle.machine.specs.Words.{STAY, COME, FLICKER, GO, LOOK, CANCEL, kind_of, process_of, word_of}
use Rattle.machine.specs.Settings.{flicker_forbidden, writes_turn, other_writer, goes_to24, go_forbidden, forbidden_by}
use Rattle.machine.specs.System.{Step, step_word, StepAllowed}
use Rattle.machine.specs.System.Step.{rests, comes, flickers_20, enters, starts_scan, wins, discards, keeps}
use Rattle.machine.specs.System.Step.{ends_scan, lowers, to_push, waits, skips, flickers_24, pushes, exits}
use Rattle.machine.specs.System.Step.{flickers_40, leaves, cancels}
use Rattle.machine.specs.declared.Row.{Row}
use Rattle.machine.specs.declared.Settings.{Settings}
use Rattle.machine.proofs.TableLaws.{row_over}
use Rattle.machine.proofs.SoundRows.{sound_few}
use Rattle.machine.proofs.WordLaws.{kind_word_of, process_word_of}
use Rattle.machine.proofs.OneWord.{member_low}
use Rattle.machine.proofs.SettingLaws.{goes_by, flicker_forbidden_lem, flicker_free, go_forbidden_lem, go_free}
use Rattle.machine.proofs.SettingLaws.{others_free}

module _ (s : Settings) (t : Table) (p : ℕ) (z : table_refusal t ≡ 0) (l : p < length t) where
  -- a word of its parts is forbidden as these are
  by_parts : (k a : ℕ) → a < 256
      → forbidden_by s t (kind_of (word_of k p a)) (process_of (word_of k p a)) ≡ forbidden_by s t k p
  by_parts k a small =
      let few = sound_few t z in
      let hp : p < 256 = omega arith in
      ap₂ (forbidden_by s t) (kind_word_of k p a hp small) (process_word_of k p a hp small)

  -- ---- FLICKER

  act_free : (v : ℕ) → (row t p).location ≡ v → eqb v 24 ≡ false → s.act ≢ 1 → flicker_forbidden s (row t p) ≡ false
  act_free v e away ne = rw (e, away) (ne_eqb _ _ ne)

  act_forbidden : (v : ℕ) → (row t p).location ≡ v → eqb v 24 ≡ false → s.act ≡ 1 → flicker_forbidden s (row t p) ≡ true
  act_forbidden v e away i = rw (e, away) (eq-eqb _ _ i)

  turn_free : (row t p).location ≡ 24 → s.turn ≢ 2 → flicker_forbidden s (row t p) ≡ false
  turn_free e ne = rw e (ne_eqb _ _ ne)

  turn_forbidden : (row t p).location ≡ 24 → s.turn ≡ 2 → flicker_forbidden s (row t p) ≡ true
  turn_forbidden e i = rw e (eq-eqb _ _ i)

  -- ---- GO

  -- where it does not go from 23 to 24
  stays_free : goes_to24 t p ≡ false → go_forbidden s t p ≡ false
  stays_free h =
      split (λ b. (b && (goes_to24 t p && other_writer t p)) ≡ false) (eqb s.turn 1) (λ _. rw h refl) (λ _. refl)

  away : (v : ℕ) → (row t p).location ≡ v → eqb v 23 ≡ false → go_forbidden s t p ≡ false
  away v e ne = stays_free (goes_by t p l ∙ rw (e, ne) refl)

  lower : (row t p).location ≡ 23 → size (row t p).est < (row t p).level → go_forbidden s t p ≡ false
  lower e i = stays_free (goes_by t p l ∙ rw (e, lt-ltb _ _ i) refl)

  pushed-before : (row t p).location ≡ 23
      → (row t p).level ≤ size (row t p).est
      → (row t p).bb ≢ 0
      → go_forbidden s t p ≡ false
  pushed-before e i b = stays_free (goes_by t p l ∙ rw (e, le-ltb _ _ i, ne_eqb _ _ b) refl)

  -- where it does
  goes : (row t p).location ≡ 23 → (row t p).level ≤ size (row t p).est → (row t p).bb ≡ 0 → goes_to24 t p ≡ true
  goes e i b = goes_by t p l ∙ rw (e, le-ltb _ _ i, eq-eqb _ _ b) refl

  alone_free : (s.turn ≡ 1 → (q : ℕ) → (q ≡ p → ⊥) → (row t q).location ≡ 24 → (row t q).level ≡ (row t p).level → ⊥)
      → go_forbidden s t p ≡ false
  unfolding other_writer
  alone_free none =
      fails (go_forbidden s t p)
      (λ h.
      let one = (and-eq-true_iff (eqb s.turn 1) _).0 h in
      let both = (and-eq-true_iff (goes_to24 t p) (other_writer t p)).0 one.1 in
      let other = some_one _ (length t) both.1 in
      let apart = (and-eq-true_iff (not (eqb other.0 p)) _).0 other.2 in
      let writes = (and-eq-true_iff (eqb (row t other.0).location 24) _).0 apart.1 in
      none (eqb-true _ _ one.0) other.0 (eqb-false _ _ (not-true _ apart.0)) (eqb-true _ _ writes.0)
      (eqb-true _ _ writes.1))

  pub beside_forbidden : (q : ℕ)
      → s.turn ≡ 1
      → goes_to24 t p ≡ true
      → (q ≡ p → ⊥)
      → (row t q).location ≡ 24
      → (row t q).level ≡ (row t p).level
      → go_forbidden s t p ≡ true
  unfolding other_writer
  beside_forbidden q one to_24 ne there level =
      let other = one_some (λ i. not (eqb i p) && writes_turn (row t p).level (row t i)) (length t) q
      (inside (dec_lt q (length t))) (rw (ne_eqb _ _ ne, eq-eqb _ _ there, eq-eqb _ _ level) refl) in
      rw (eq-eqb _ _ one, to_24) other
    where
      inside : Dec (q < length t) → q < length t
      inside (yes h) = h
      inside (no nl) =
          absurd (omega (arith, there, ap (λ (r : Row). r.location) (row_over t q (omega (arith, nl)))))

  -- ---- every step

  abbrev Free : ℕ → Type 0
  Free w = forbidden_by s t (kind_of w) (process_of w) ≡ 0

  other : (k a : ℕ) → a < 256 → k ≢ FLICKER → k ≢ GO → Free (word_of k p a)
  other k a small f g = by_parts k a small ∙ others_free s t k p f g

  flicker : (a : ℕ) → a < 256 → flicker_forbidden s (row t p) ≡ false → Free (word_of FLICKER p a)
  flicker a small h = by_parts FLICKER a small ∙ flicker_free s t FLICKER p refl h

  go_on : go_forbidden s t p ≡ false → Free (word_of GO p 0)
  go_on h = by_parts GO 0 (omega arith) ∙ go_free s t GO p refl h

  pub allowed_free : {u : Table} (x : Step t p u) → StepAllowed s p x → Free (step_word p x)
  allowed_free (rests e) h = other STAY 0 (omega arith) (omega arith) (omega arith)
  allowed_free (comes e) h = other COME 0 (omega arith) (omega arith) (omega arith)
  allowed_free (flickers_20 a e i) h = flicker a (omega arith) (act_free 20 e refl h)
  allowed_free (enters e) h = go_on (away 20 e refl)
  allowed_free (starts_scan e i) h = go_on (away 21 e refl)
  allowed_free (wins e i) h = go_on (away 21 e refl)
  allowed_free (discards q e i a) h = other LOOK q (member_low t p z l q i) (omega arith) (omega arith)
  allowed_free (keeps q e i a) h = other LOOK q (member_low t p z l q i) (omega arith) (omega arith)
  allowed_free (ends_scan e i) h = go_on (away 22 e refl)
  allowed_free (lowers e i) h = go_on (lower e i)
  allowed_free (to_push e i b) h = go_on (alone_free h)
  allowed_free (waits e i b v) h = go_on (pushed-before e i b)
  allowed_free (skips e i b v) h = go_on (pushed-before e i b)
  allowed_free (flickers_24 a e i) h =
      let few = sound_few t z in flicker a (omega arith) (turn_free e h)
  allowed_free (pushes e) h = go_on (away 24 e refl)
  allowed_free (exits e) h = go_on (away 30 e refl)
  allowed_free (flickers_40 a e i) h = flicker a (omega arith) (act_free 40 e refl h)
  allowed_free (leaves e) h = go_on (away 40 e refl)
  allowed_free (cancels e) h = other CANCEL 0 (omega arith) (omega arith) (omega arith)

  -- not both
  forbids_flicker : (a : ℕ) → a < 256 → flicker_forbidden s (row t p) ≡ true → Free (word_of FLICKER p a) → ⊥
  forbids_flicker a small h f =
      omega (arith, flicker_forbidden_lem s t FLICKER p refl h, by_parts FLICKER a small, f)

  forbids_go : go_forbidden s t p ≡ true → Free (word_of GO p 0) → ⊥
  forbids_go h f = omega (arith, go_forbidden_lem s t GO p refl h, by_parts GO 0 (omega arith), f)

  pub free_allowed : {u : Table} (x : Step t p u) → Free (step_word p x) → StepAllowed s p x
  free_allowed (rests e) f = tt
  free_allowed (comes e) f = tt
  free_allowed (flickers_20 a e i) f = λ one. forbids_flicker a (omega arith) (act_forbidden 20 e refl one) f
  free_allowed (enters e) f = tt
  free_allowed (starts_scan e i) f = tt
  free_allowed (wins e i) f = tt
  free_allowed (discards q e i a) f = tt
  free_allowed (keeps q e i a) f = tt
  free_allowed (ends_scan e i) f = tt
  free_allowed (lowers e i) f = tt
  free_allowed (to_push e i b) f =
      λ one q ne there level. forbids_go (beside_forbidden q one (goes e i b) ne there level) f
  free_allowed (waits e i b v) f = tt
  free_allowed (skips e i b v) f = tt
  free_allowed (flickers_24 a e i) f =
      λ two. let few = sound_few t z in forbids_flicker a (omega arith) (turn_forbidden e two) f
  free_allowed (pushes e) f = tt
  free_allowed (exits e) f = tt
  free_allowed (flickers_40 a e i) f = λ one. forbids_flicker a (omega arith) (act_forbidden 40 e refl one) f
  free_allowed (leaves e) f = tt
  free_allowed (cancels e) f = tt
