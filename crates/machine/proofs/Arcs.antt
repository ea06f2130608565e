-- Where a step leads its process: the arcs of the flow graph, from the location before to the location after.
--
--   nexts l      ==  the locations to which steps lead from l.
--   step_leads       every step leads to one of them
--   by_arc           what holds from each location to each of its nexts, by one computed test, holds of every step
--   word_arc         and so of every accepted word
--   same_arc         two tests that agree along every arc agree of an accepted word
--   begins           what begins along one arc alone begins by a word of the process itself, along this arc
--
-- Assumes nothing.
use Prim.Native.Nat.{ℕ, ◌<◌}
use mathlib.Core.Path.{◌≡◌, refl, sym, ap, ap₂, ◌∙◌}
use mathlib.Core.Bool.{Bool, true, false, cond, ◌&&◌, ◌||◌, not, beq, false≢true, and-eq-true_iff}
use mathlib.Core.List.{List, [], ◌∷◌, map}
use native.Mathlib.Decide.{ℕ_discrete}
use native.Mathlib.Omega.{arith}
use lib.Dec.{eqb}
use lib.ListN.{length, set, length-set, length-map}
use borrow.Author.Tests.{eqb-true}
use Rattle.counting.proofs.TestLaws.{implied, beq_true}
use Rattle.machine.specs.Rows.{}
use Rattle.machine.specs.Tables.{Table, row, one_of, locations}
use Rattle.machine.specs.Words.{process_of}
use Rattle.machine.specs.Steps.{refusal_of, after_word}
use Rattle.machine.specs.System.{turn_assigned, Step, exited}
use Rattle.machine.specs.System.Step.{rests, comes, flickers_20, enters, starts_scan, wins, discards, keeps}
use Rattle.machine.specs.System.Step.{ends_scan, lowers, to_push, waits, skips, flickers_24, pushes, exits}
use Rattle.machine.specs.System.Step.{flickers_40, leaves, cancels}
use Rattle.machine.specs.declared.Row.{Row}
use Rattle.machine.proofs.OneOfLaws.{each_passes, by_test}
use Rattle.machine.proofs.TableLaws.{row_same, turn_free}
use Rattle.machine.proofs.SoundRows.{sound-row}
use Rattle.machine.proofs.Accepted.{accepted_table, accepted_process, accepted_step}
use Rattle.machine.proofs.Frames.{step_others}

abbrev pub nexts : ℕ → List ℕ
nexts l =
    cond (eqb l 10) (10 ∷ 20 ∷ [])
    (cond (eqb l 20) (20 ∷ 21 ∷ 40 ∷ [])
    (cond (eqb l 21) (22 ∷ 30 ∷ [])
    (cond (eqb l 22) (22 ∷ 23 ∷ [])
    (cond (eqb l 23) (21 ∷ 24 ∷ [])
    (cond (eqb l 24) (24 ∷ 21 ∷ [])
    (cond (eqb l 30) (40 ∷ [])
    (cond (eqb l 40) (40 ∷ 10 ∷ []) [])))))))

-- T holds from each location to each of its nexts
abbrev pub every_arc : (ℕ → ℕ → Bool) → Bool
every_arc T = each_passes (λ b. each_passes (T b) (nexts b)) locations

module _ (t : Table) (p : ℕ) (l : p < length t) where
  abbrev Leads : Table → Type 0
  Leads u = one_of (row u p).location (nexts (row t p).location) ≡ true

  leads : (u : Table) (b a : ℕ)
      → (row t p).location ≡ b
      → (row u p).location ≡ a
      → one_of a (nexts b) ≡ true
      → Leads u
  leads u b a e f h = ap₂ (λ (x y : ℕ). one_of y (nexts x)) e f ∙ h

  -- where the row of p is set last, in a table v as long
  leads_set : (v : Table) (r : Row) (b a : ℕ)
      → length v ≡ length t
      → (row t p).location ≡ b
      → r.location ≡ a
      → one_of a (nexts b) ≡ true
      → Leads (set v p r)
  leads_set v r b a i e f =
      leads (set v p r) b a e (ap (λ (s : Row). s.location) (row_same v p r (omega arith)) ∙ f)

  pub step_leads : {u : Table} → Step t p u → Leads u
  step_leads (rests e) = leads t 10 10 e e refl
  step_leads (comes e) = leads_set t _ 10 20 refl e refl refl
  step_leads (flickers_20 a e h) = leads_set t _ 20 20 refl e e refl
  step_leads (enters e) = leads_set t _ 20 21 refl e refl refl
  step_leads (starts_scan e h) = leads_set t _ 21 22 refl e refl refl
  step_leads (wins e h) = leads_set t _ 21 30 refl e refl refl
  step_leads (discards q e h a) = leads_set t _ 22 22 refl e e refl
  step_leads (keeps q e h a) = leads_set t _ 22 22 refl e e refl
  step_leads (ends_scan e h) = leads_set t _ 22 23 refl e refl refl
  step_leads (lowers e h) = leads_set t _ 23 21 refl e refl refl
  step_leads (to_push e h b) = leads_set t _ 23 24 refl e refl refl
  step_leads (waits e h b v) = leads_set t _ 23 21 refl e refl refl
  step_leads (skips e h b v) = leads_set t _ 23 21 refl e refl refl
  step_leads (flickers_24 a e h) =
      leads (turn_assigned t (row t p).level a) 24 24 e
      (turn_free (λ r. r.location ≡ 24) t (row t p).level a p (λ r i. i) e)
      refl
  step_leads (pushes e) = leads_set (turn_assigned t (row t p).level p) _ 24 21 (simp length-set) e refl refl
  step_leads (exits e) =
      leads_set (map (exited p) t) _ 30 40 (simp length-map) e refl refl
  step_leads (flickers_40 a e h) = leads_set t _ 40 40 refl e e refl
  step_leads (leaves e) = leads_set t _ 40 10 refl e refl refl
  step_leads (cancels e) = leads_set t _ 20 40 refl e refl refl

  pub by_arc : (T : ℕ → ℕ → Bool)
      → every_arc T ≡ true
      → {u : Table} → one_of (row t p).location locations ≡ true
      → Step t p u
      → T (row t p).location (row u p).location ≡ true
  by_arc T h {u} known x =
      let b = (row t p).location in
      let each = by_test (λ v. each_passes (T v) (nexts v)) b locations h known in
      by_test (T b) (row u p).location (nexts b) each (step_leads x)

-- ---- an accepted word

module _ (t : Table) (w : ℕ) (z : refusal_of t w ≡ 0) where
  abbrev from : ℕ
  from = (row t (process_of w)).location

  abbrev to : ℕ
  to = (row (after_word t w) (process_of w)).location

  pub word_arc : (T : ℕ → ℕ → Bool) → every_arc T ≡ true → T from to ≡ true
  word_arc T h =
      let l = accepted_process t w z in
      let known = (sound-row t (accepted_table t w z) (process_of w) l).location_known in
      by_arc t (process_of w) l T h known (accepted_step t w z)

  pub same_arc : (S T : ℕ → ℕ → Bool) → every_arc (λ x y. beq (S x y) (T x y)) ≡ true → S from to ≡ T from to
  same_arc S T h = beq_true (S from to) (T from to) (word_arc (λ x y. beq (S x y) (T x y)) h)

-- ---- what begins along one arc

-- D, which x has not and y has, begins from b to a alone
abbrev pub only : (ℕ → Bool) → ℕ → ℕ → ℕ → ℕ → Bool
only D b a x y = D x || (not (D y) || (eqb x b && eqb y a))

only_says : (D : ℕ → Bool) (b a x y : ℕ)
    → only D b a x y ≡ true
    → D x ≡ false
    → D y ≡ true
    → (x ≡ b) × (y ≡ a)
only_says D b a x y h before after =
    let both : Bool = eqb x b && eqb y a in
    let rest = sym (ap (λ (c : Bool). c || (not (D y) || both)) before) ∙ h in
    let says = (and-eq-true_iff (eqb x b) (eqb y a)).0 (implied (D y) both rest after) in
    (eqb-true x b says.0, eqb-true y a says.1)

module _ (D : ℕ → Bool) (b a : ℕ) (arcs : every_arc (only D b a) ≡ true)
    (t : Table) (w q : ℕ) (z : refusal_of t w ≡ 0)
  where
    abbrev p : ℕ
    p = process_of w

    abbrev u : Table
    u = after_word t w

    pub begins : D (row t q).location ≡ false
        → D (row u q).location ≡ true
        → (q ≡ p) × ((row t q).location ≡ b) × ((row u q).location ≡ a)
    begins before after = go (ℕ_discrete q p)
      where
        rule : only D b a (row t p).location (row u p).location ≡ true
        rule = word_arc t w z (only D b a) arcs

        go : Dec (q ≡ p) → (q ≡ p) × ((row t q).location ≡ b) × ((row u q).location ≡ a)
        go (no ne) =
            let same = (step_others t u p q (accepted_step t w z) ne).location_same in
            absurd (false≢true (sym before ∙ ap D (sym same) ∙ after))
        go (yes e) =
            let i = ap (λ (x : ℕ). (row t x).location) e in
            let j = ap (λ (x : ℕ). (row u x).location) e in
            let says = only_says D b a _ _ rule (sym (ap D i) ∙ before) (sym (ap D j) ∙ after) in
            (e, i ∙ says.0, j ∙ says.1)
