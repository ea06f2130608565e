-- The event of an accepted word, told from the row before the step: along the arcs of the flow graph it is the location
-- before that tells it, and at 21 the level. Assumes nothing.
use Prim.Native.Nat.{ℕ, ◌<◌}
use mathlib.Core.Path.{◌≡◌, refl, sym, ap, ap₂, ◌∙◌}
use mathlib.Core.Bool.{Bool, true, cond, ◌&&◌, not, and-eq-true_iff}
use mathlib.Core.List.{[], ◌∷◌}
use native.Mathlib.Omega.{arith}
use lib.Dec.{eqb}
use lib.ListN.{length}
use borrow.Author.Tests.{eqb-true, eq-eqb, ne_eqb}
use Rattle.counting.proofs.TestLaws.{split}
use Rattle.machine.specs.Tables.{Table, row, table_refusal}
use Rattle.machine.specs.Words.{STAY, COME, FLICKER, LOOK, CANCEL, is_kind, kind_of, process_of, argument_of}
use Rattle.machine.specs.Steps.{started, gone, moved, allowed, word_refusal, refusal_of, after_word, event_of}
use Rattle.machine.specs.declared.Row.{Row}
use Rattle.machine.specs.declared.Event.{Event}
use Rattle.machine.proofs.OneOfLaws.{by_one}
use Rattle.machine.proofs.KindLaws.{by_kind}
use Rattle.machine.proofs.TableLaws.{row_same}
use Rattle.machine.proofs.Forms.{started_cases, gone_21}
use Rattle.machine.proofs.Accepted.{word_says, says_accepted, accepted-moved}
use Rattle.machine.proofs.Arcs.{same_arc}
use Rattle.steps.specs.Moves.{go_event, kind_event}
use Rattle.steps.proofs.MoveLaws.{moved_go}

-- ---- along the arcs

-- of a process that goes from l to m: it arrives, which it does from 21 alone; it departs, which it does from 30 always
abbrev arrives : ℕ → ℕ → Bool
arrives l m = not (eqb l 30) && eqb m 30

abbrev arrives_21 : ℕ → ℕ → Bool
arrives_21 l m = eqb l 21 && eqb m 30

abbrev departs : ℕ → ℕ → Bool
departs l m = eqb l 30 && not (eqb m 30)

abbrev departs_30 : ℕ → ℕ → Bool
departs_30 l m = eqb l 30

-- the event by these two
abbrev event : Bool → Bool → Event
event a d = cond a Event.Arrival (cond d Event.Departure Event.Quiet)

abbrev along : ℕ → ℕ → Event
along l m = event (arrives_21 l m) (departs_30 l m)

event_along : (t : Table) (w : ℕ)
    → refusal_of t w ≡ 0
    → let p = process_of w in
    event_of t w ≡ cond (eqb (kind_of w) COME) Event.Come (along (row t p).location (row (after_word t w) p).location)
unfolding event_of
event_along t w z =
    ap₂ (λ (a d : Bool). cond (eqb (kind_of w) COME) Event.Come (event a d))
    (same_arc t w z arrives arrives_21 refl)
    (same_arc t w z departs departs_30 refl)

-- ---- the kinds

module _ (t : Table) (p : ℕ) (l : p < length t) where
  abbrev r : Row
  r = row t p

  -- GO at 21 goes to 30 at level 0
  started-told : eqb (started r).location 30 ≡ eqb r.level 0
  started-told =
      started_cases (λ s. eqb s.location 30 ≡ eqb r.level 0) r
      (λ h. sym (ne_eqb r.level 0 (λ z. omega arith)))
      (λ z. sym (eq-eqb r.level 0 z))

  go_told : along r.location (row (gone t p) p).location ≡ go_event r
  go_told =
      let d = eqb r.location 30 in
      split (λ b. event (b && eqb (row (gone t p) p).location 30) d ≡ event (b && eqb r.level 0) d)
      (eqb r.location 21)
      (λ e.
      ap (λ (u : Table). event (eqb (row u p).location 30) d) (gone_21 t p (eqb-true _ _ e))
      ∙ ap (λ (s : Row). event (eqb s.location 30) d) (row_same t p (started r) l)
      ∙ ap (λ (b : Bool). event b d) started-told)
      (λ e. refl)

  -- the other kinds are allowed neither at 21 nor at 30
  module _ (a : ℕ) where
    abbrev by : ℕ → Event
    by k = along r.location (row (moved t k p a) p).location

    at : (k x : ℕ) → r.location ≡ x → by k ≡ along x (row (moved t k p a) p).location
    at k x e = ap (λ (v : ℕ). along v (row (moved t k p a) p).location) e

    kinds_told : (k : ℕ) → is_kind k ≡ true → allowed k r ≡ true → cond (eqb k COME) Event.Come (by k) ≡ kind_event k r
    unfolding allowed
    kinds_told =
        by_kind (λ k. allowed k r ≡ true → cond (eqb k COME) Event.Come (by k) ≡ kind_event k r)
        (λ h. at STAY 10 (eqb-true _ _ h))
        (λ h. refl)
        (by_one r.location (20 ∷ 40 ∷ 24 ∷ []) (at FLICKER 20, (at FLICKER 40, (at FLICKER 24, tt))))
        (λ h. ap (λ (u : Table). along r.location (row u p).location) (moved_go t p a) ∙ go_told)
        (λ h. at LOOK 22 (eqb-true _ _ ((and-eq-true_iff (eqb r.location 22) _).0 h).0))
        (λ h. at CANCEL 20 (eqb-true _ _ h))

-- ---- an accepted word

pub event_told : (t : Table) (w : ℕ)
    → table_refusal t ≡ 0
    → word_refusal t w ≡ 0
    → event_of t w ≡ kind_event (kind_of w) (row t (process_of w))
event_told t w z y =
    let p = process_of w in
    let s = word_says t w y in
    let a = says_accepted t w z s in
    event_along t w a
    ∙ ap (λ (u : Table). cond (eqb (kind_of w) COME) Event.Come (along (row t p).location (row u p).location))
    (accepted-moved t w a)
    ∙ kinds_told t p s.process_in (argument_of w) (kind_of w) s.kind_known s.allowed_there
