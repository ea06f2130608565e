-- The step of a word as its line tells it.
--
--   taken_word t i w  ==   what the line of word w tells, which is word i, taken at table t.
--   taken_in t i w    ==   the same, or the refusal of the word.
--   Carries e n       <=>  the number n at 30 can be carried over a word with event e.
--   Counted x n       <=>  the system x steps under 0 and 0, and n processes of it are at 30.
--   Taken x i w y s   <=>  the step of word w, which is word i, made y of the system x and answered s.
--
-- Assumes nothing.
use Rattle.std.specs.Prelude.{ℕ, ◌≤◌, ◌≡◌, Bool, cond, eqb, Result, Ok, Err}
use Rattle.machine.specs.Refusals.{accepted, numbered}
use Rattle.machine.specs.Tables.{Table, row}
use Rattle.machine.specs.Words.{process_of}
use Rattle.machine.specs.Settings.{weakest, settings_of}
use Rattle.machine.specs.Steps.{refusal_of, after_word, cell_of}
use Rattle.machine.specs.Census.{critical}
use Rattle.machine.specs.declared.Event.{Event}
use Rattle.machine.specs.declared.Refusal.{Refusal}
use Rattle.steps.specs.declared.system.System.{System}
use Rattle.text.specs.declared.lines.TakenWord.{TakenWord}

-- whether a word is taken
abbrev pub takes : Table → ℕ → Bool
takes t w = eqb (refusal_of t w) accepted

abbrev pub taken_word : Table → ℕ → ℕ → TakenWord
taken_word t i w =
    let p = process_of w in
    let u = after_word t w in
    record {
      place = i;
      process = p;
      from = (row t p).location;
      to = (row u p).location;
      inside = critical u;
      cell = cell_of t w;
    }

abbrev pub taken_in : Table → ℕ → ℕ → Result TakenWord ℕ
taken_in t i w = cond (takes t w) (Ok (taken_word t i w)) (Err (refusal_of t w))

-- ---- contracts

pub record Carries (e : Event) (n : ℕ) : Type 0 where
  pub some : e ≡ Event.Departure → 1 ≤ n
  pub few : n ≤ 16

pub record Counted (x : System) (n : ℕ) : Type 0 where
  pub weak : settings_of x.memory ≡ weakest
  pub inside_is : n ≡ critical x.rows.now

pub record Taken (x : System) (i w : ℕ) (y : System) (s : Result TakenWord Refusal) : Type 0 where
  pub same_memory : y.memory ≡ x.memory
  pub answer_is : numbered s ≡ taken_in x.rows.now i w
  pub becomes : y.rows.now ≡ after_word x.rows.now w
