-- What the two checks of a table and of settings say of a run. Assumes nothing.
use Prim.Native.Nat.{ℕ, ◌≤◌, ◌<◌}
use mathlib.Core.Path.{◌≡◌, refl, sym, ap, ◌∙◌}
use mathlib.Core.Bool.{Bool, true, false}
use mathlib.Core.List.{List}
use native.Mathlib.Decide.{ℕ_discrete}
use lib.ListN.{length}
use borrow.Author.Tests.{eq-eqb, ne_eqb}
use Rattle.std.specs.Prelude.{Ok, Err}
use Rattle.machine.specs.Refusals.{number, bad_settings, too_many_words}
use Rattle.machine.specs.Tables.{Table, table_refusal}
use Rattle.machine.specs.Shared.{no_cell}
use Rattle.machine.specs.Settings.{settings_fit, settings_of}
use Rattle.machine.specs.Runs.{limit, untaken, zero_tally, run_from, run_of}
use Rattle.machine.specs.declared.Memory.{Memory}
use Rattle.machine.specs.declared.Refusal.{Refusal}
use Rattle.machine.specs.declared.Settings.{Settings}
use Rattle.machine.proofs.RunLaws.{run_of_table, run_of_settings, run_of_words, run_of_taken}
use Rattle.steps.specs.Stepping.{checked}
use Rattle.steps.proofs.SettingLaws.{memory_fits}
use Rattle.runs.specs.Bounds.{Allowed}

-- the table or the settings are refused
pub run_refused : (m : Settings) (x : Table) (ws : List ℕ) (e : Refusal)
    → Err (number e) ≡ checked m x
    → run_of m x ws ≡ untaken x (number e)
run_refused m x ws e why = table (ℕ_discrete (table_refusal x) 0)
  where
    table : Dec (table_refusal x ≡ 0) → run_of m x ws ≡ untaken x (number e)
    table (no ne) =
        let is : Err (number e) ≡ Err (table_refusal x) = why ∙ rw (ne_eqb (table_refusal x) 0 ne) refl in
        let same : number e ≡ table_refusal x = cc in
        run_of_table m x ws (number e) same (λ z. ne (sym same ∙ z))
    table (yes z) = settings (settings_fit m) refl
      where
        settings : (b : Bool) → settings_fit m ≡ b → run_of m x ws ≡ untaken x (number e)
        settings true h =
            let no : Err (number e) ≡ Ok m = why ∙ rw (eq-eqb (table_refusal x) 0 z, h) refl in absurd (cc)
        settings false h =
            let is : Err (number e) ≡ Err bad_settings = why ∙ rw (eq-eqb (table_refusal x) 0 z, h) refl in
            let same : number e ≡ bad_settings = cc in
            run_of_settings m x ws z h ∙ ap (untaken x) (sym same)

-- neither is
pub record Passed (m : Settings) (x : Table) (y : Memory) : Type 0 where
  pub settings_are : settings_of y ≡ m
  pub table_sound : table_refusal x ≡ 0
  pub fit : settings_fit m ≡ true
  pub too_many : (ws : List ℕ) → limit < length ws → run_of m x ws ≡ untaken x too_many_words
  pub taken : (ws : List ℕ) → length ws ≤ limit → run_of m x ws ≡ run_from m x zero_tally no_cell ws

pub run_allowed : (m : Settings) (x : Table) (y : Memory) → Ok (settings_of y) ≡ checked m x → Passed m x y
run_allowed m x y why = table (ℕ_discrete (table_refusal x) 0)
  where
    table : Dec (table_refusal x ≡ 0) → Passed m x y
    table (no ne) =
        let never : Ok (settings_of y) ≡ Err (table_refusal x) = why ∙ rw (ne_eqb (table_refusal x) 0 ne) refl in
        absurd (cc)
    table (yes z) = settings (settings_fit m) refl
      where
        settings : (b : Bool) → settings_fit m ≡ b → Passed m x y
        settings true h =
            let is : Ok (settings_of y) ≡ Ok m = why ∙ rw (eq-eqb (table_refusal x) 0 z, h) refl in
            record {
              settings_are = cc;
              table_sound = z;
              fit = h;
              too_many = λ ws l. run_of_words m x ws z h l;
              taken = λ ws l. run_of_taken m x ws z h l;
            }
        settings false h =
            let never : Ok (settings_of y) ≡ Err bad_settings = why ∙ rw (eq-eqb (table_refusal x) 0 z, h) refl in
            absurd (cc)

-- a run of few words that is not refused before the first
pub taken_by : (m : Settings) (ws : List ℕ) (x : Table) (y : Memory) → Allowed m ws x y
    → run_of m x ws ≡ run_from (settings_of y) x zero_tally no_cell ws
taken_by m ws x y a =
    ap (λ (k : Settings). run_of k x ws) (sym a.settings_are)
    ∙ run_of_taken (settings_of y) x ws a.table_sound (memory_fits y) a.words_few
