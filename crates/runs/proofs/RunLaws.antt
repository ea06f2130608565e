-- Laws of a run word by word, and what the answer of a step says of its word.
--
--   run_more, run_stop, run_end      a word that is accepted, one that is refused, and no word left
--   run_turn, run_halt, run_past     the same at word i of a list
--   takes, stops                     a word of a list that the step accepted, or refused
--   counted_comes, counted_arrivals  how a word counts
--   ends_so                          what the answer of a run says of its outcome
--
-- Assumes nothing.
use Prim.Native.Nat.{ℕ, suc, ◌+◌, ◌≤◌, ◌<◌}
use mathlib.Core.Path.{◌≡◌, refl, ap, sym, subst, ◌∙◌}
use mathlib.Core.Bool.{Bool, true, false}
use mathlib.Core.List.{List, [], ◌∷◌}
use native.Mathlib.Omega.{arith}
use native.Mathlib.Numerals.{add-one}
use lib.Dec.{eqb}
use lib.ListN.{length, get_or, drop}
use lib.Seq.{drop-cons, drop-length}
use borrow.Author.Tests.{eq-eqb, ne_eqb}
use Rattle.std.specs.Prelude.{Ok, Err}
use Rattle.machine.specs.Refusals.{number}
use Rattle.machine.specs.Tables.{Table}
use Rattle.machine.specs.Steps.{after_word, event_of, cell_of}
use Rattle.machine.specs.Settings.{refusal_under, after_under}
use Rattle.machine.specs.Runs.{Outcome, ended, counted, ran_of, run_from}
use Rattle.machine.specs.declared.Event.{Event}
use Rattle.machine.specs.declared.Event.TheVariants.{Quiet, Come, Arrival, Departure}
use Rattle.machine.specs.declared.Settings.{Settings}
use Rattle.machine.specs.declared.SharedCell.{SharedCell}
use Rattle.machine.specs.declared.Tally.{Tally}
use Rattle.machine.specs.declared.Refusal.{Refusal}
use Rattle.machine.specs.declared.Told.{Told}
use Rattle.machine.proofs.AnswerLaws.{under_moved, under_refused}
use Rattle.machine.proofs.SettingTheorems.{refused_under, accepted_same}
use Rattle.steps.specs.Stepping.{StepsUnder}
use Rattle.machine.specs.declared.Ran.{Ran}

-- ---- word by word

module _ (m : Settings) (t : Table) (h : Tally) (c : SharedCell) (w : ℕ) (ws : List ℕ) where
  -- the run from w on, by whether w is accepted
  unfoldable from : Bool → Outcome
  from b =
      elim b [
        | true ↦ run_from m (after_word t w) (counted (event_of t w) h) (cell_of t w) ws
        | false ↦ ended t h c (refusal_under m t w)
      ]

  from_is : run_from m t h c (w ∷ ws) ≡ from (eqb (refusal_under m t w) 0)
  unfolding run_from from
  from_is = refl

  pub run_more : refusal_under m t w ≡ 0
      → run_from m t h c (w ∷ ws) ≡ run_from m (after_word t w) (counted (event_of t w) h) (cell_of t w) ws
  unfolding from
  run_more e = from_is ∙ ap from (eq-eqb _ _ e)

  pub run_stop : (refusal_under m t w ≡ 0 → ⊥)
      → run_from m t h c (w ∷ ws) ≡ ended t h c (refusal_under m t w)
  unfolding from
  run_stop e = from_is ∙ ap from (ne_eqb _ _ e)

pub run_end : (m : Settings) (t : Table) (h : Tally) (c : SharedCell) → run_from m t h c [] ≡ ended t h c 0
unfolding run_from
run_end m t h c = refl

-- word i of a list met: accepted, with u the table and g the tally after it, and it used the cell d
pub run_turn : (m : Settings) (t u : Table) (h g : Tally) (c d : SharedCell) (ws : List ℕ) (i : ℕ)
    → i < length ws
    → refusal_under m t (get_or ws i 0) ≡ 0
    → u ≡ after_word t (get_or ws i 0)
    → g ≡ counted (event_of t (get_or ws i 0)) h
    → d ≡ cell_of t (get_or ws i 0)
    → run_from m t h c (drop i ws) ≡ run_from m u g d (drop (i + 1) ws)
run_turn m t u h g c d ws i l e a b f =
    ap (run_from m t h c) (drop-cons ws i 0 l)
    ∙ run_more m t h c (get_or ws i 0) (drop (suc i) ws) e
    ∙ rw (a, b, f, add-one i) refl

-- or refused with v, and the table after it is the same
pub run_halt : (m : Settings) (t u : Table) (h : Tally) (c : SharedCell) (ws : List ℕ) (i v : ℕ)
    → i < length ws
    → (refusal_under m t (get_or ws i 0) ≡ 0 → ⊥)
    → u ≡ after_under m t (get_or ws i 0)
    → v ≡ refusal_under m t (get_or ws i 0)
    → run_from m t h c (drop i ws) ≡ ended u h c v
run_halt m t u h c ws i v l n a b =
    ap (run_from m t h c) (drop-cons ws i 0 l)
    ∙ run_stop m t h c (get_or ws i 0) (drop (suc i) ws) n
    ∙ rw (a ∙ (refused_under m t (get_or ws i 0) n).0, b) refl

-- past the last word
pub run_past : (m : Settings) (t : Table) (h : Tally) (c : SharedCell) (ws : List ℕ) (i : ℕ)
    → i ≡ length ws
    → run_from m t h c (drop i ws) ≡ ended t h c 0
run_past m t h c ws i e =
    ap (λ (k : ℕ). run_from m t h c (drop k ws)) e ∙ ap (run_from m t h c) (drop-length ws) ∙ run_end m t h c

-- ---- a word that the step answered, from place i of a list

module _ (m : Settings) (t u : Table) (h : Tally) (c : SharedCell) (ws : List ℕ) (i w : ℕ) (l : i < length ws)
    (at : w ≡ get_or ws i 0) where
  -- it was accepted, and g is the tally after it
  pub takes : (d : Told) (g : Tally) → StepsUnder m t w u (Ok d) → g ≡ counted d.event h
      → run_from m t h c (drop i ws) ≡ run_from m u g d.cell (drop (i + 1) ws)
  takes d g s e =
      let a = under_moved m t w d (sym s.answer_is) in
      run_turn m t u h g c d.cell ws i l
      (subst (λ (v : ℕ). refusal_under m t v ≡ 0) at a.0)
      (s.becomes ∙ (accepted_same m t w a.0).1.table_same ∙ ap (after_word t) at)
      (e ∙ ap (λ (o : Told). counted o.event h) a.1 ∙ ap (λ (v : ℕ). counted (event_of t v) h) at)
      (ap (λ (o : Told). o.cell) a.1 ∙ ap (cell_of t) at)

  -- it was refused
  pub stops : (e : Refusal) → StepsUnder m t w u (Err e) → run_from m t h c (drop i ws) ≡ ended u h c (number e)
  stops e s =
      let a = under_refused m t w (number e) (sym s.answer_is) in
      run_halt m t u h c ws i (number e) l
      (λ z. a.0 (ap (refusal_under m t) at ∙ z))
      (s.becomes ∙ ap (after_under m t) at)
      (a.1 ∙ ap (refusal_under m t) at)

-- ---- the tally

pub counted_comes : (e : Event) (h : Tally) → (counted e h).comes ≤ h.comes + 1
counted_comes Quiet h = omega arith
counted_comes Come h = omega arith
counted_comes Arrival h = omega arith
counted_comes Departure h = omega arith

pub counted_arrivals : (e : Event) (h : Tally) → (counted e h).arrivals ≤ h.arrivals + 1
counted_arrivals Quiet h = omega arith
counted_arrivals Come h = omega arith
counted_arrivals Arrival h = omega arith
counted_arrivals Departure h = omega arith

-- ---- the answer of a run

-- a run that ended with table y, tally h, last cell c and refusal v
pub record EndsSo (y : Table) (h : Tally) (r : Ran) (o : Outcome) : Type 0 where
  pub becomes : y ≡ o.table
  pub ran_is : r ≡ ran_of o
  pub tally_is : h ≡ o.tally

pub ends_so : (y : Table) (o : Outcome) (h : Tally) (c : SharedCell) (v : ℕ)
    → o ≡ ended y h c v
    → EndsSo y h (record { taken = h.words; refusal = v; cell = c }) o
ends_so y o h c v e =
    record {
      becomes = sym (ap (λ (k : Outcome). k.table) e);
      ran_is = sym (ap ran_of e);
      tally_is = sym (ap (λ (k : Outcome). k.tally) e);
    }

-- the outcome by another name
pub as_run : {y z : Table} {r : Ran} {h : Tally} (o u : Outcome) → y ≡ z → z ≡ o.table → r ≡ ran_of o → h ≡ o.tally
    → o ≡ u
    → (y ≡ u.table) × (r ≡ ran_of u) × (h ≡ u.tally)
as_run o u same table ran tally e = (
  same ∙ table ∙ ap (λ (k : Outcome). k.table) e,
  ran ∙ ap ran_of e,
  tally ∙ ap (λ (k : Outcome). k.tally) e,
)
