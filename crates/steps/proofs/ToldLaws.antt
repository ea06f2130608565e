-- What a step tells, from the row before it: GO at each location, the kinds, an accepted word. Assumes nothing.
use Prim.Native.Nat.{ℕ}
use mathlib.Core.Path.{◌≡◌, refl, sym, ap, ap₂, ◌∙◌}
use mathlib.Core.Bool.{Bool, true, false, cond}
use mathlib.Core.List.{[], ◌∷◌}
use lib.Dec.{eqb}
use borrow.Author.Tests.{eq-eqb, ne_eqb}
use Rattle.machine.specs.Rows.{with_location}
use Rattle.machine.specs.Tables.{Table, row, table_refusal}
use Rattle.machine.specs.Words.{STAY, COME, FLICKER, GO, CANCEL, kind_of, process_of, argument_of}
use Rattle.machine.specs.Shared.{no_cell, act_written, turn_read, turn_written, asks_turn, cell_at}
use Rattle.machine.specs.Steps.{gone, moved, allowed, word_refusal, quiet, with_event, with_cell, told_of}
use Rattle.machine.specs.declared.Event.{Event}
use Rattle.machine.specs.declared.SharedCell.{SharedCell}
use Rattle.machine.specs.declared.Told.{Told}
use Rattle.machine.proofs.OneOfLaws.{by_one}
use Rattle.machine.proofs.Accepted.{word_says, says_accepted}
use Rattle.machine.proofs.CellLaws.{accepted_cell}
use Rattle.steps.specs.Moves.{kind_told, Free, Goes, Moves}
use Rattle.steps.proofs.MoveLaws.{moved_stay, moved_go}
use Rattle.steps.proofs.EventLaws.{event_told}

-- ---- GO

module _ {x y : Table} {p : ℕ} where
  -- at location l, where the row tells s
  pub goes_at : (l : ℕ) {s : Told} → (row x p).location ≡ l → s ≡ kind_told GO p 0 (with_location l (row x p))
      → y ≡ gone x p
      → Goes x p y s
  goes_at l there told b =
      record {
        told_is = told ∙ ap (λ (v : ℕ). kind_told GO p 0 (with_location v (row x p))) (sym there);
        becomes = b ∙ sym (moved_go x p 0);
      }

  -- at 21, by whether the level is 0
  passes : (b : Bool) {s : Told} → (row x p).location ≡ 21 → eqb (row x p).level 0 ≡ b
      → s ≡ with_event (cond b Event.Arrival Event.Quiet) quiet
      → y ≡ gone x p
      → Goes x p y s
  unfolding cell_at
  passes b there level told =
      goes_at 21 there (told ∙ ap (λ (c : Bool). with_event (cond c Event.Arrival Event.Quiet) quiet) (sym level))

  pub goes_above : (row x p).location ≡ 21 → ((row x p).level ≡ 0 → ⊥)
      → y ≡ gone x p
      → Goes x p y quiet
  goes_above there ne = passes false there (ne_eqb (row x p).level 0 ne) refl

  pub goes_arrives : {s : Told} → s ≡ with_event Event.Arrival quiet → (row x p).location ≡ 21 → (row x p).level ≡ 0
      → y ≡ gone x p
      → Goes x p y s
  goes_arrives told there z = passes true there (eq-eqb (row x p).level 0 z) told

  -- at 23, by whether it asks for the turn cell
  pub goes_asking : (b : Bool) {s : Told} → (row x p).location ≡ 23 → asks_turn (row x p) ≡ b
      → s ≡ with_cell (cond b (turn_read (row x p).level) no_cell) quiet
      → y ≡ gone x p
      → Goes x p y s
  unfolding cell_at
  goes_asking b there asks told =
      goes_at 23 there
      (told ∙ ap (λ (c : Bool). with_cell (cond c (turn_read (row x p).level) no_cell) quiet) (sym asks))

-- ---- FLICKER

module _ (x : Table) (p a : ℕ) where
  pub flicker_turn : (row x p).location ≡ 24
      → with_cell (turn_written (row x p).level) quiet ≡ kind_told FLICKER p a (row x p)
  unfolding cell_at
  flicker_turn e = ap (λ (v : ℕ). kind_told FLICKER p a (with_location v (row x p))) (sym e)

  -- elsewhere it is allowed at 20 and 40
  pub flicker_act : Free x FLICKER p
      → ((row x p).location ≡ 24 → ⊥)
      → with_cell (act_written p) quiet ≡ kind_told FLICKER p a (row x p)
  unfolding cell_at allowed
  flicker_act f ne =
      let tells : ℕ → Told = λ v. kind_told FLICKER p a (with_location v (row x p)) in
      by_one (row x p).location (20 ∷ 40 ∷ 24 ∷ []) (
        (λ e. ap tells (sym e)),
        ((λ e. ap tells (sym e)), ((λ e. absurd (ne e)), tt)),
      )
      f.may

-- ---- the kinds that have no argument, with any

module _ {x y : Table} {p : ℕ} {s : Told} (a : ℕ) where
  pub come_moves : Moves x COME p 0 y s → Moves x COME p a y s
  unfolding moved cell_at
  come_moves m = record { told_is = m.told_is; becomes = m.becomes }

  pub cancel_moves : Moves x CANCEL p 0 y s → Moves x CANCEL p a y s
  unfolding moved cell_at
  cancel_moves m = record { told_is = m.told_is; becomes = m.becomes }

pub stay_moves : {x : Table} {p a : ℕ} → Moves x STAY p a x quiet
unfolding cell_at
stay_moves {x} {p} {a} = record { told_is = refl; becomes = sym (moved_stay x p a) }

-- ---- an accepted word

module _ (t : Table) (w : ℕ) where
  abbrev k : ℕ
  k = kind_of w

  abbrev p : ℕ
  p = process_of w

  abbrev a : ℕ
  a = argument_of w

  pub word_told : table_refusal t ≡ 0 → word_refusal t w ≡ 0 → told_of t w ≡ kind_told k p a (row t p)
  word_told z y =
      ap₂ (λ (e : Event) (c : SharedCell). record { event = e; cell = c }) (event_told t w z y)
      (accepted_cell t w (says_accepted t w z (word_says t w y)))
