-- The cell that is answered for a word, and laws of written cells.
--
--   accepted_cell   the cell of an accepted word, by its kind and the row of its process
--   refused_cell    a refused word uses no cell
--   step_cell_lem       the word of a step uses the cell of its alternative
--   writes c d      <=>  a step that uses c writes cell d; `writes_not`, `writes_same` say when
--   apart           of two steps that do not clash, one does not write what the other uses
--   writes_apart    so they do not write one cell
--   clash_sym       it does not matter which of the two is named first
--
-- Assumes nothing.
use Prim.Native.Nat.{ℕ, ◌<◌}
use mathlib.Core.Path.{◌≡◌, refl, sym, ap₂, ◌∙◌}
use mathlib.Core.Bool.{Bool, true, false, ◌&&◌, false≢true, and-eq-true_iff, or_comm}
use mathlib.Core.Logic.{◌≢◌}
use native.Mathlib.Omega.{arith}
use lib.Dec.{eqb}
use lib.ListN.{length}
use borrow.Author.Tests.{eqb-true, eq-eqb, ne_eqb, lt-ltb, le-ltb}
use Rattle.machine.specs.Rows.{with_location}
use Rattle.machine.specs.Tables.{Table, row, sound}
use Rattle.machine.specs.Words.{STAY, COME, FLICKER, GO, LOOK, CANCEL, kind_of, process_of, argument_of, word_of}
use Rattle.machine.specs.Shared.{no_cell, cell_at, same_cell, is_written, clash}
use Rattle.machine.specs.Steps.{refusal_of, cell_of}
use Rattle.machine.specs.System.{Step, step_word, step_cell}
use Rattle.machine.specs.System.Step.{rests, comes, flickers_20, enters, starts_scan, wins, discards, keeps}
use Rattle.machine.specs.System.Step.{ends_scan, lowers, to_push, waits, skips, flickers_24, pushes, exits}
use Rattle.machine.specs.System.Step.{flickers_40, leaves, cancels}
use Rattle.machine.specs.declared.SharedCell.{SharedCell}
use Rattle.counting.proofs.TestLaws.{same_test, split}
use Rattle.machine.proofs.SoundRows.{sound_few, sound-accepted}
use Rattle.machine.proofs.WordLaws.{kind_word_of, process_word_of, argument_word_of}
use Rattle.machine.proofs.OneWord.{member_low}

-- ---- the cell of a word

-- of an accepted word it is that of its kind at the row of its process
pub accepted_cell : (t : Table) (w : ℕ)
    → refusal_of t w ≡ 0
    → cell_of t w ≡ cell_at (kind_of w) (process_of w) (argument_of w) (row t (process_of w))
unfolding cell_of
accepted_cell t w z = rw (eq-eqb _ _ z)

pub refused_cell : (t : Table) (w : ℕ) → refusal_of t w ≢ 0 → cell_of t w ≡ no_cell
unfolding cell_of
refused_cell t w ne = rw (ne_eqb _ _ ne)

module _ (t : Table) (p : ℕ) (h : sound t ≡ true) (l : p < length t) where
  -- of a word by its parts, at location v
  cell-at : (k a v : ℕ)
      → a < 256
      → (row t p).location ≡ v
      → refusal_of t (word_of k p a) ≡ 0
      → cell_of t (word_of k p a) ≡ cell_at k p a (with_location v (row t p))
  cell-at k a v small e z =
      let few = sound_few t (sound-accepted t h) in
      let hp : p < 256 = omega arith in
      let w = word_of k p a in
      accepted_cell t w z
      ∙ ap₂ (λ (x y : ℕ). cell_at x y (argument_of w) (row t y)) (kind_word_of k p a hp small)
      (process_word_of k p a hp small)
      ∙ ap₂ (λ (x y : ℕ). cell_at k p x (with_location y (row t p))) (argument_word_of k p a hp small) e

  pub step_cell_lem : {u : Table} (x : Step t p u) → refusal_of t (step_word p x) ≡ 0 → cell_of t (step_word p x) ≡ step_cell p x
  unfolding cell_at
  step_cell_lem x z = go x z
    where
      go : {u : Table} (x : Step t p u) → refusal_of t (step_word p x) ≡ 0 → cell_of t (step_word p x) ≡ step_cell p x
      go (rests e) = cell-at STAY 0 10 (omega arith) e
      go (comes e) = cell-at COME 0 10 (omega arith) e
      go (flickers_20 a e i) = cell-at FLICKER a 20 (omega arith) e
      go (enters e) = cell-at GO 0 20 (omega arith) e
      go (starts_scan e i) = cell-at GO 0 21 (omega arith) e
      go (wins e i) = cell-at GO 0 21 (omega arith) e
      go (discards q e i a) = cell-at LOOK q 22 (member_low t p (sound-accepted t h) l q i) e
      go (keeps q e i a) = cell-at LOOK q 22 (member_low t p (sound-accepted t h) l q i) e
      go (ends_scan e i) = cell-at GO 0 22 (omega arith) e
      go (lowers e i) = λ z. cell-at GO 0 23 (omega arith) e z ∙ rw (lt-ltb _ _ i)
      go (to_push e i b) = λ z. cell-at GO 0 23 (omega arith) e z ∙ rw (le-ltb _ _ i, eq-eqb _ _ b)
      go (waits e i b v) = λ z. cell-at GO 0 23 (omega arith) e z ∙ rw (le-ltb _ _ i, ne_eqb _ _ b)
      go (skips e i b v) = λ z. cell-at GO 0 23 (omega arith) e z ∙ rw (le-ltb _ _ i, ne_eqb _ _ b)
      go (flickers_24 a e i) =
          let few = sound_few t (sound-accepted t h) in
          cell-at FLICKER a 24 (omega arith) e
      go (pushes e) = cell-at GO 0 24 (omega arith) e
      go (exits e) = cell-at GO 0 30 (omega arith) e
      go (flickers_40 a e i) = cell-at FLICKER a 40 (omega arith) e
      go (leaves e) = cell-at GO 0 40 (omega arith) e
      go (cancels e) = cell-at CANCEL 0 20 (omega arith) e

-- ---- written cells

-- a step that uses c writes cell d
abbrev pub writes : SharedCell → SharedCell → Bool
writes c d = is_written c && same_cell c d

eqb_sym : (a b : ℕ) → eqb a b ≡ eqb b a
eqb_sym a b =
    same_test (eqb a b) (eqb b a) (λ h. eq-eqb b a (sym (eqb-true a b h))) (λ h. eq-eqb a b (sym (eqb-true b a h)))

self : (c : SharedCell) → same_cell c c ≡ true
self c = rw (eq-eqb c.variable _ refl, eq-eqb c.index _ refl)

-- a cell that is written is the one that the step uses
writes_true : (c d : SharedCell) → is_written d ≡ true → writes c d ≡ true → c ≡ d
writes_true c d i h =
    let a = (and-eq-true_iff (is_written c) (same_cell c d)).0 h in
    let b = (and-eq-true_iff (eqb c.variable d.variable) (eqb c.index d.index)).0 a.1 in
    let x : c.access ≡ d.access = eqb-true _ _ a.0 ∙ sym (eqb-true _ _ i) in
    let y = eqb-true _ _ b.0 in
    let z = eqb-true _ _ b.1 in
    λ j. record { access = x j; variable = y j; index = z j }

pub writes_not : (c d : SharedCell) → is_written d ≡ true → c ≢ d → writes c d ≡ false
writes_not c d i ne = split (λ b. b ≡ false) (writes c d) (λ h. absurd (ne (writes_true c d i h))) (λ h. refl)

-- and it is written
pub writes_same : (c d : SharedCell) → is_written d ≡ true → c ≡ d → writes c d ≡ true
writes_same c d i e = rw (e, i, self d)

-- steps that do not clash: one does not write what the other uses
pub apart : {c d : SharedCell} (x y : SharedCell)
    → clash c d ≡ false
    → is_written x ≡ true
    → same_cell x y ≡ true
    → c ≡ x
    → d ≡ y
    → ⊥
apart x y h i s e f = false≢true (sym h ∙ ap₂ clash e f ∙ rw (s, i))

-- so they do not write one cell
pub writes_apart : (c d e : SharedCell) → is_written e ≡ true → clash c d ≡ false → (writes c e && writes d e) ≡ false
writes_apart c d e i h =
    split (λ b. b ≡ false) (writes c e && writes d e)
    (λ k.
    let both = (and-eq-true_iff (writes c e) (writes d e)).0 k in
    absurd (apart e e h i (self e) (writes_true c e i both.0) (writes_true d e i both.1)))
    (λ k. refl)

pub clash_sym : (c d : SharedCell) → clash c d ≡ clash d c
clash_sym c d =
    rw (eqb_sym c.variable d.variable, eqb_sym c.index d.index, or_comm (is_written c) (is_written d))
