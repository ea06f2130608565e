-- The text of a run, word by word: which line a word gives, and what the step's answer says of it and of the number at
-- 30. Assumes nothing.
use mathlib.Core.Path.{◌≡◌, refl, sym, ap, ap₂, ◌∙◌}
use mathlib.Core.Bool.{Bool, true, false, cond}
use mathlib.Core.List.{List, [], ◌∷◌, ◌++◌}
use Prim.Native.Nat.{ℕ, suc, ◌≤◌}
use native.Mathlib.Omega.{arith}
use lib.ListN.{length}
use borrow.Author.Tests.{eq-eqb, ne_eqb}
use Rattle.std.specs.Prelude.{Ok, Err}
use Rattle.counting.proofs.CountLaws.{count_le}
use Rattle.machine.specs.Tables.{Table, row, table_refusal}
use Rattle.machine.specs.Words.{process_of}
use Rattle.machine.specs.Steps.{refusal_of, after_word, cell_of, told_of, answer_of}
use Rattle.machine.specs.Settings.{weakest, answer_under, after_under}
use Rattle.machine.specs.Census.{is_critical, critical}
use Rattle.machine.specs.Runs.{carried}
use Rattle.machine.specs.Text.{word_line, done_line, stop_line, run_lines}
use Rattle.machine.specs.declared.SharedCell.{SharedCell}
use Rattle.machine.specs.declared.Settings.{Settings}
use Rattle.machine.specs.declared.Told.{Told}
use Rattle.machine.proofs.SoundRows.{sound_few}
use Rattle.machine.proofs.AnswerLaws.{answer-moved, answer_refused}
use Rattle.machine.proofs.CarriedTheorems.{critical_step, some_departs}
use Rattle.machine.proofs.SettingTheorems.{weakest_step}
use Rattle.text.specs.declared.lines.TakenWord.{TakenWord}
use Rattle.text.specs.Running.{Carries, takes, taken_word, taken_in}

-- ---- the lines of a run

module _ (t : Table) (i w : ℕ) (ws : List ℕ) where
  abbrev rest : List ℕ
  rest = run_lines (after_word t w) (suc i) ws

  abbrev pick : Bool → List ℕ
  pick b = elim b [ true ↦ word_line t i w ++ rest | false ↦ stop_line i (refusal_of t w) ]

  pub run_lines_taken : takes t w ≡ true → run_lines t i (w ∷ ws) ≡ word_line t i w ++ rest
  unfolding run_lines
  run_lines_taken e = ap pick e

  pub run_lines_stopped : takes t w ≡ false → run_lines t i (w ∷ ws) ≡ stop_line i (refusal_of t w)
  unfolding run_lines
  run_lines_stopped e = ap pick e

pub run_lines_done : (t : Table) (i : ℕ) → run_lines t i [] ≡ done_line i
unfolding run_lines
run_lines_done t i = refl

-- ---- the number at 30

pub few_critical : (t : Table) → table_refusal t ≡ 0 → critical t ≤ 16
few_critical t sound = omega (arith, count_le (λ q. is_critical (row t q)) (length t), sound_few t sound)

-- ---- the step under 0 and 0

-- what the line of a word tells, field by field
taken_is : (t u : Table) (i w p before after inside : ℕ) (c : SharedCell)
    → u ≡ after_word t w
    → p ≡ process_of w
    → before ≡ (row t p).location
    → after ≡ (row u p).location
    → inside ≡ critical (after_word t w)
    → c ≡ cell_of t w
    → record { place = i; process = p; from = before; to = after; inside = inside; cell = c } ≡ taken_word t i w
taken_is t u i w p before after inside c ue pe be ae ie ce = cc

module _ {m : Settings} (weak : m ≡ weakest) (t : Table) (w : ℕ) where
  weak_answer : answer_under m t w ≡ answer_of t w
  weak_answer = ap (λ (s : Settings). answer_under s t w) weak ∙ (weakest_step t w).answer_same

  pub weak_table : after_under m t w ≡ after_word t w
  weak_table = ap (λ (s : Settings). after_under s t w) weak ∙ (weakest_step t w).table_same

  -- a refused word
  pub weak_refused : (e i : ℕ) → Err e ≡ answer_under m t w → Err e ≡ taken_in t i w
  weak_refused e i is =
      let no = answer_refused t w e (sym weak_answer ∙ sym is) in
      ap (λ (k : ℕ). Err k) no.1
      ∙ sym (ap (λ (b : Bool). cond b (Ok (taken_word t i w)) (Err (refusal_of t w))) (ne_eqb (refusal_of t w) 0 no.0))

  -- a taken one, where n processes are at 30 before it
  module _ (told : Told) (is : Ok told ≡ answer_under m t w) where
    yes : (refusal_of t w ≡ 0) × (told ≡ told_of t w)
    yes = answer-moved t w told (sym weak_answer ∙ sym is)

    pub may_carry : {n : ℕ} → n ≡ critical t → table_refusal t ≡ 0 → Carries told.event n
    may_carry counted sound =
        record {
          some = λ e. omega (arith, some_departs t w yes.0 (ap (λ (d : Told). d.event) (sym yes.1) ∙ e));
          few = omega (arith, few_critical t sound);
        }

    -- what its line tells, field by field
    pub weak_taken : (x : TakenWord) {n : ℕ} {u : Table}
        → n ≡ critical t
        → u ≡ after_under m t w
        → x.process ≡ process_of w
        → x.from ≡ (row t x.process).location
        → x.to ≡ (row u x.process).location
        → x.inside ≡ carried told.event n
        → x.cell ≡ told.cell
        → Ok x ≡ taken_in t x.place w
    weak_taken x {n} {u} counted next p before after inside cell =
        let event = ap (λ (d : Told). d.event) yes.1 in
        let used = ap (λ (d : Told). d.cell) yes.1 in
        let many = inside ∙ ap₂ carried event counted ∙ sym (critical_step t w yes.0) in
        ap (λ (y : TakenWord). Ok y)
        (taken_is t u x.place w _ _ _ _ _ (next ∙ weak_table) p before after many (cell ∙ used))
        ∙ sym (ap (λ (b : Bool). cond b (Ok (taken_word t x.place w)) (Err (refusal_of t w)))
        (eq-eqb (refusal_of t w) 0 yes.0))

-- ---- what an answer says

module _ (t : Table) (i w : ℕ) where
  pub was_taken : (x : TakenWord) → Ok x ≡ taken_in t i w → (takes t w ≡ true) × (x ≡ taken_word t i w)
  was_taken x is = by (takes t w) (taken_word t i w) (refusal_of t w) is where
    by : (b : Bool) (d : TakenWord) (n : ℕ) → Ok x ≡ cond b (Ok d) (Err n) → (b ≡ true) × (x ≡ d)
    by true d n e = (refl, cc)
    by false d n e = absurd cc

  pub was_refused : (e : ℕ) → Err e ≡ taken_in t i w → (takes t w ≡ false) × (e ≡ refusal_of t w)
  was_refused e is = by (takes t w) (taken_word t i w) (refusal_of t w) is where
    by : (b : Bool) (d : TakenWord) (n : ℕ) → Err e ≡ cond b (Ok d) (Err n) → (b ≡ false) × (e ≡ n)
    by true d n h = absurd cc
    by false d n h = (refl, cc)
