-- The checks before a run, how its words count, and what is carried over one word more. Assumes nothing.
use Prim.Native.Nat.{ℕ, ◌+◌, ◌≤◌, ◌<◌}
use mathlib.Core.Path.{◌≡◌, refl, ap, ◌∙◌}
use mathlib.Core.Bool.{Bool, true, false, cond}
use mathlib.Core.List.{List, [], ◌∷◌, ◌++◌}
use lib.ListN.{length}
use borrow.Author.Tests.{eq-eqb, ne_eqb, le-leb, lt-leb}
use Rattle.machine.specs.Refusals.{accepted, too_many_words, bad_settings}
use Rattle.machine.specs.Tables.{Table, table_refusal}
use Rattle.machine.specs.Shared.{no_cell}
use Rattle.machine.specs.Steps.{refusal_of, after_word, after_words, event_of}
use Rattle.machine.specs.Settings.{settings_fit}
use Rattle.machine.specs.Runs.{limit, zero_tally, counted, carried, carried_over, run_from, untaken, run_of}
use Rattle.machine.specs.declared.Event.{Event}
use Rattle.machine.specs.declared.Event.TheVariants.{Quiet, Come, Arrival, Departure}
use Rattle.machine.specs.declared.Settings.{Settings}
use Rattle.machine.specs.declared.Tally.{Tally}

-- ---- the checks

module _ (s : Settings) (t : Table) (ws : List ℕ) where
  pub run_of_table : (v : ℕ) → v ≡ table_refusal t → (v ≡ 0 → ⊥) → run_of s t ws ≡ untaken t v
  unfolding run_of
  run_of_table v e n = rw (e, ne_eqb (table_refusal t) 0 (λ z. n (e ∙ z))) refl

  pub run_of_settings : table_refusal t ≡ 0 → settings_fit s ≡ false → run_of s t ws ≡ untaken t bad_settings
  unfolding run_of
  run_of_settings e f = rw (eq-eqb (table_refusal t) 0 e, f) refl

  pub run_of_words : table_refusal t ≡ 0
      → settings_fit s ≡ true
      → limit < length ws
      → run_of s t ws ≡ untaken t too_many_words
  unfolding run_of
  run_of_words e f l = rw (eq-eqb (table_refusal t) 0 e, f, lt-leb (length ws) limit l) refl

  pub run_of_taken : table_refusal t ≡ 0
      → settings_fit s ≡ true
      → length ws ≤ limit
      → run_of s t ws ≡ run_from s t zero_tally no_cell ws
  unfolding run_of
  run_of_taken e f l = rw (eq-eqb (table_refusal t) 0 e, f, le-leb (length ws) limit l) refl

-- ---- the tally

-- every event is one word
pub counted_words : (e : Event) (h : Tally) → (counted e h).words ≡ h.words + 1
counted_words Quiet h = refl
counted_words Come h = refl
counted_words Arrival h = refl
counted_words Departure h = refl

-- ---- the number at 30

-- over one word more, at the end
pub carried_over_snoc : (t : Table) (n : ℕ) (ws : List ℕ) (w : ℕ)
    → refusal_of (after_words t ws) w ≡ 0
    → carried_over t n (ws ++ (w ∷ [])) ≡ carried (event_of (after_words t ws) w) (carried_over t n ws)
unfolding carried_over after_words
carried_over_snoc t n [] w z =
    ap (λ (b : Bool). cond b (carried (event_of t w) n) n) (eq-eqb (refusal_of t w) accepted z)
carried_over_snoc t n (v ∷ ws) w z = carried_over_snoc (after_word t v) _ ws w z
