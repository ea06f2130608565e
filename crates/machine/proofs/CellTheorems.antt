-- The shared cell that a step tells, as a reader opens it: it is that of the relation, it is the only one that the step
-- uses, and so words of different processes that are not about one cell can be exchanged.
--
-- `cell_of t w` is the cell that the step answers for word w, `step_cell p x` that of an alternative of section 3.2 of
-- the paper (System.antt), `own r` a row but for act, turn, ahead and passes, `but_history t` a table but for ahead and
-- passes (Shared.antt),
-- `Alike t u w` that w cannot tell u from t, `SameEffect t u w` that it does the same to both (Local.antt).
--
--   step_cell_lem                             the second reading: the cell of a step's word is the cell of the step
--   refused_cell                          a refused word uses none
--   acts_kept, turns_kept, others_kept    what a word leaves alone
--   only_cell                             it reads no other shared cell than the one that is answered
--   exchange, exchange_cells              two words in either order
--
-- Assumes nothing.
use Prim.Native.Nat.{ℕ, ◌<◌}
use mathlib.Core.Path.{◌≡◌, refl, sym, ap, ◌∙◌}
use mathlib.Core.Bool.{Bool, true, false, cond, ◌&&◌, false≢true}
use mathlib.Core.Logic.{◌≢◌, ⊎_elim}
use mathlib.Core.List.{map}
use native.Mathlib.Decide.{ℕ_discrete}
use native.Mathlib.Omega.{arith}
use lib.Dec.{eqb}
use lib.ListN.{length, length-map}
use lib.Seq.{ext_get_or}
use borrow.Author.Tests.{eqb-true, eq-eqb, ne_eqb}
use Rattle.machine.specs.Rows.{blank, with_act, with_turn}
use Rattle.machine.specs.Tables.{Table, row, sound}
use Rattle.machine.specs.Words.{process_of}
use Rattle.machine.specs.Shared.{no_cell, act_read, act_written, turn_read, turn_written, clash, present, own}
use Rattle.machine.specs.Shared.{but_history}
use Rattle.machine.specs.Steps.{refusal_of, after_word, cell_of}
use Rattle.machine.specs.Local.{Alike, SameEffect}
use Rattle.machine.specs.System.{Step, step_word, step_cell}
use Rattle.machine.specs.declared.Row.{Row}
use Rattle.machine.specs.declared.SharedCell.{SharedCell}
use Rattle.counting.proofs.TestLaws.{split}
use Rattle.machine.proofs.TableLaws.{row-map}
use Rattle.machine.proofs.SoundRows.{accepted-sound}
use Rattle.machine.proofs.Accepted.{accepted_table, word_cases}
use Rattle.machine.proofs.Soundness.{word_keeps_length, word_keeps_sound}
use Rattle.machine.proofs.Frames.{other_row}
use Rattle.machine.proofs.CellLaws as CellLaws
use Rattle.machine.proofs.CellLaws.{writes, writes_not, writes_same, apart, writes_apart, clash_sym}
use Rattle.machine.proofs.CellEffects.{Effect, Same, word_follows, word_effect}

-- ---- the cell of a word

-- The cell that is answered for the word of a step, where it is accepted, is the cell of this alternative of the
-- relation.
-- Excludes: turn told as read at 23 where est has few members or bb is 0; the level after the step for the one before
-- it; LOOK told to read the act of its own process; a cell for CANCEL or for GO at 30. Proved in CellLaws.antt.
pub step_cell_lem : (t u : Table) (p : ℕ)
    → sound t ≡ true
    → p < length t
    → (x : Step t p u)
    → refusal_of t (step_word p x) ≡ 0
    → cell_of t (step_word p x) ≡ step_cell p x
step_cell_lem t u p h l x z = CellLaws.step_cell_lem t p h l x z

-- A refused word uses none, whatever the table.
-- Excludes: a FLICKER with a wrong argument that tells the cell it did not write. Proved in CellLaws.antt.
pub refused_cell : (t : Table) (w : ℕ) → refusal_of t w ≢ 0 → cell_of t w ≡ no_cell
refused_cell = CellLaws.refused_cell

-- ---- what a word leaves alone

-- Every act and every turn but the one that is answered as written is kept, and so are the private variables of the
-- other processes; for any table and any word, refused ones included.
-- Excludes: a CANCEL that clears act and tells no cell; a GO at 24 that tells turn[level] and writes another; a GO at
-- 30 that takes its process out of the est of the others. Proved by CellEffects.antt and Frames.antt.
pub acts_kept : (t : Table) (w q : ℕ) → cell_of t w ≢ act_written q → (row (after_word t w) q).act ≡ (row t q).act
acts_kept t w q ne = (word_effect t w).2.acts q ∙ rw (writes_not (cell_of t w) (act_written q) refl ne)

pub turns_kept : (t : Table) (w k : ℕ) → cell_of t w ≢ turn_written k → (row (after_word t w) k).turn ≡ (row t k).turn
turns_kept t w k ne = (word_effect t w).2.turns k ∙ rw (writes_not (cell_of t w) (turn_written k) refl ne)

pub others_kept : (t : Table) (w q : ℕ) → q ≢ process_of w → own (row (after_word t w) q) ≡ own (row t q)
others_kept t w q ne =
    ⊎_elim
    (λ m. other_row (λ r. own r ≡ own (row t q)) t (process_of w) q ne (λ e v r h. h) (λ e r h. h) m.3 refl)
    (λ e. ap (λ (u : Table). own (row u q)) e)
    (word_cases t w)

-- ---- the only cell

follows : (t u : Table) (w : ℕ) → sound u ≡ true → refusal_of t w ≡ 0 → Alike t u w → Same t u (process_of w) w
follows t u w h z a = word_follows t u w h z a.as_many a.own_same a.act_same a.turn_same a.not_full

-- The cell that is answered is the only shared cell that the step reads: where another table has the same there, and
-- the same private variables of the process, the word does the same, whatever stands in all other cells. That it writes
-- no other is said above.
-- Excludes: a GO at 23 that looks at turn[level] where it tells no cell, or that is refused where another process is at
-- 24 of its level; a LOOK that looks at one act and tells another; a GO at 24 that writes a value from another row.
-- Proved in CellEffects.antt.
pub only_cell : (t u : Table) (w : ℕ) → sound u ≡ true → refusal_of t w ≡ 0 → Alike t u w → SameEffect t u w
only_cell t u w h z a =
    let s = follows t u w h z a in
    record {
      accepted_too = s.accepted_too;
      cell_same = s.cell_same;
      own_same = s.there.mover ∙ sym s.here.mover;
      act_same = λ q e. s.there.acts q ∙ (rw (writes_same _ (act_written q) refl e)) ∙ sym (s.here.acts q);
      turn_same = λ k e. s.there.turns k ∙ (rw (writes_same _ (turn_written k) refl e)) ∙ sym (s.here.turns k);
    }

-- ---- two words

-- accepted words of different processes that do not clash
record Exchangeable (t : Table) (v w : ℕ) : Type 0 where
  first : refusal_of t v ≡ 0
  second : refusal_of t w ≡ 0
  processes : process_of v ≢ process_of w
  free : clash (cell_of t v) (cell_of t w) ≡ false
  first_fits : refusal_of (after_word t w) v ≡ 15 → ⊥
  second_fits : refusal_of (after_word t v) w ≡ 15 → ⊥

swapped : {t : Table} {v w : ℕ} → Exchangeable t v w → Exchangeable t w v
swapped {t} {v} {w} h =
    record {
      first = h.second;
      second = h.first;
      processes = λ e. h.processes (sym e);
      free = clash_sym (cell_of t w) (cell_of t v) ∙ h.free;
      first_fits = h.second_fits;
      second_fits = h.first_fits;
    }

-- w after v does what it does without v
after : {t : Table} {v w : ℕ} → Exchangeable t v w → Same t (after_word t v) (process_of w) w
after {t} {v} {w} h =
    let u = after_word t v in
    let free = h.free in
    follows t u w (accepted-sound u (word_keeps_sound t v (accepted_table t v h.first))) h.second
    (record {
      as_many = word_keeps_length t v;
      own_same = others_kept t v (process_of w) (λ e. h.processes (sym e));
      act_same = λ q e. acts_kept t v q (λ f. apart (act_written q) (act_read q) free refl (eq-eqb q q refl) f e);
      turn_same = λ k e. turns_kept t v k (λ f. apart (turn_written k) (turn_read k) free refl (eq-eqb k k refl) f e);
      not_full = h.second_fits;
    })

-- what one of two steps assigns at most, x or y, is the same in both orders
crossed : {A : Type 0} (b c : Bool) (x y ft : A) {fv fw fvw fwv : A}
    → (b && c) ≡ false
    → fw ≡ cond b x ft
    → fvw ≡ cond b x fv
    → fv ≡ cond c y ft
    → fwv ≡ cond c y fw
    → fvw ≡ fwv
crossed true true x y ft e h i j k = absurd (false≢true (sym e))
crossed true false x y ft e h i j k = cc
crossed false true x y ft e h i j k = cc
crossed false false x y ft e h i j k = cc

-- the private variables of every process after a word
owns : (t : Table) (w q : ℕ) {c : SharedCell} {x : ℕ} {o : Row}
    → Effect (process_of w) c x o t (after_word t w)
    → own (row (after_word t w) q) ≡ cond (eqb q (process_of w)) o (own (row t q))
owns t w q {o = o} e = go (ℕ_discrete q (process_of w))
  where
    go : Dec (q ≡ process_of w) → own (row (after_word t w) q) ≡ cond (eqb q (process_of w)) o (own (row t q))
    go (yes i) = rw (eq-eqb q (process_of w) i) (ap (λ (j : ℕ). own (row (after_word t w) j)) i ∙ e.mover)
    go (no ne) = rw (ne_eqb q (process_of w) ne) (others_kept t w q ne)

-- both orders, row by row
rows_same : {t : Table} {v w : ℕ}
    → Exchangeable t v w
    → (q : ℕ)
    → present (row (after_word (after_word t v) w) q) ≡ present (row (after_word (after_word t w) v) q)
rows_same {t} {v} {w} h q =
    let vw = after h in
    let wv = after (swapped h) in
    let c = cell_of t w in
    let d = cell_of t v in
    let free = (swapped h).free in
    let act =
    crossed (writes c (act_written q)) (writes d (act_written q)) _ _ _ (writes_apart c d (act_written q) refl free)
    (vw.here.acts q) (vw.there.acts q) (wv.here.acts q) (wv.there.acts q) in
    let turn =
    crossed (writes c (turn_written q)) (writes d (turn_written q)) _ _ _ (writes_apart c d (turn_written q) refl free)
    (vw.here.turns q) (vw.there.turns q) (wv.here.turns q) (wv.there.turns q) in
    let private =
    crossed (eqb q (process_of w)) (eqb q (process_of v)) _ _ _
    (split (λ b. (b && eqb q (process_of v)) ≡ false) (eqb q (process_of w))
    (λ e. ne_eqb _ _ (λ f. h.processes (sym f ∙ eqb-true _ _ e)))
    (λ e. refl))
    (owns t w q vw.here) (owns (after_word t v) w q vw.there)
    (owns t v q wv.here) (owns (after_word t w) v q wv.there) in
    λ i. with_turn (turn i) (with_act (act i) (private i))

-- tables with the same rows, history apart
same_but_history : (t u : Table)
    → length t ≡ length u
    → ((q : ℕ) → present (row t q) ≡ present (row u q))
    → but_history t ≡ but_history u
same_but_history t u n h =
    let f : Row → Row = present in
    ext_get_or blank (map f t) (map f u) (simp (length-map, n))
    (λ q l.
    let e : length (map f t) ≡ length t = simp length-map in
    let lt : q < length t = omega arith in
    row-map f t q lt ∙ h q ∙ sym (row-map f u q (omega arith)))

-- Two words of different processes that a table accepts, whose cells are not one cell that one of the two writes: each
-- is accepted after the other, and both orders lead to the same table, ahead sets and passes apart, if neither order
-- meets 15. Nothing else is assumed; an accepted word was given to a sound table. Ahead sets and passes may differ: of
-- two that enter, the later has the other ahead and passes it; and of two words, the second may be an entry that has
-- room only where the first is not done before.
-- Excludes: an exception for two writes alone; a FLICKER that tells no cell; a refusal, or a LOOK, that depends on a
-- process of which it tells nothing.
-- Not empty, and not so where they clash: CellExamples.antt.
pub exchange : (t : Table) (v w : ℕ)
    → refusal_of t v ≡ 0
    → refusal_of t w ≡ 0
    → process_of v ≢ process_of w
    → clash (cell_of t v) (cell_of t w) ≡ false
    → refusal_of (after_word t v) w ≢ 15
    → refusal_of (after_word t w) v ≢ 15
    → (refusal_of (after_word t v) w ≡ 0)
    × (refusal_of (after_word t w) v ≡ 0)
    × (but_history (after_word (after_word t v) w) ≡ but_history (after_word (after_word t w) v))
exchange t v w x y ne free fw fv =
    let h : Exchangeable t v w =
    record { first = x; second = y; processes = ne; free = free; first_fits = fv; second_fits = fw } in (
      (after h).accepted_too,
      (after (swapped h)).accepted_too,
      same_but_history (after_word (after_word t v) w) (after_word (after_word t w) v) (simp word_keeps_length)
          (rows_same h),
    )

-- And each uses the same cell after the other.
-- Excludes: a cell that depends on the row of another process, or on the ahead sets.
pub exchange_cells : (t : Table) (v w : ℕ)
    → refusal_of t v ≡ 0 → refusal_of t w ≡ 0 → process_of v ≢ process_of w → clash (cell_of t v) (cell_of t w) ≡ false
    → refusal_of (after_word t v) w ≢ 15 → refusal_of (after_word t w) v ≢ 15
    → (cell_of (after_word t v) w ≡ cell_of t w) × (cell_of (after_word t w) v ≡ cell_of t v)
exchange_cells t v w x y ne free fw fv =
    let h : Exchangeable t v w =
    record { first = x; second = y; processes = ne; free = free; first_fits = fv; second_fits = fw } in
    ((after h).cell_same, (after (swapped h)).cell_same)
