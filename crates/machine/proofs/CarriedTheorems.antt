-- The number at 30 that goes along from word to word is the census's figure, from every sound table, whether or not a
-- fresh table leads to it.
--
--   critical_step       after an accepted word the figure is the one before, one more on an arrival, one less on a
--                       departure
--   some_departs        on a departure it is not 0 before, so that one less is meant as it stands
--   critical-carried    carried over any list of words, from the count in the table, it is the count in the table after
--   census_carried      which is what the census answers
--
-- Assumes nothing.
use Prim.Native.Nat.{ℕ, ◌+◌, ◌≤◌}
use mathlib.Core.Path.{◌≡◌, refl, sym, ap, ◌∙◌}
use mathlib.Core.Bool.{Bool, true, false, cond, ◌&&◌, ◌||◌, not}
use mathlib.Core.List.{List, [], ◌∷◌}
use native.Mathlib.Omega.{arith}
use lib.Dec.{eqb}
use lib.ListN.{length}
use borrow.Author.Tests.{eqb-true, eqb-false, eq-eqb, not-true}
use Rattle.counting.specs.Sums.{bit, count}
use Rattle.counting.proofs.CountLaws.{count_same_but}
use Rattle.counting.proofs.TestLaws.{split, implied}
use Rattle.machine.specs.Refusals.{accepted}
use Rattle.machine.specs.Tables.{Table, row, table_refusal}
use Rattle.machine.specs.Words.{COME, kind_of, process_of}
use Rattle.machine.specs.Steps.{allowed, refusal_of, after_word, after_words, event_of}
use Rattle.machine.specs.Census.{is_critical, critical, census_of}
use Rattle.machine.specs.Runs.{carried, carried_over}
use Rattle.machine.specs.declared.Event.{Event}
use Rattle.machine.proofs.Accepted.{Says, accepted_says, accepted_step, refused_same}
use Rattle.machine.proofs.Soundness.{word_keeps_length, words_keep_sound}
use Rattle.machine.proofs.Frames.{step_others}
use Rattle.machine.proofs.Arcs.{word_arc}

-- ---- one word

-- the event by three tests: a COME, at 30 before, at 30 after
abbrev told : Bool → Bool → Bool → Event
told c b a = cond c Event.Come (cond (not b && a) Event.Arrival (cond (b && not a) Event.Departure Event.Quiet))

-- counts n before and m after that differ by one process: b says whether it is counted before, a whether after; by a
-- COME it is counted neither time
record Differ (c b a : Bool) (n m : ℕ) : Type 0 where
  balance : m + bit b ≡ n + bit a
  come : c ≡ true → (b ≡ false) × (a ≡ false)

follows : (c b a : Bool) (n m : ℕ) → Differ c b a n m → m ≡ carried (told c b a) n
follows true b a n m d =
    let e = ap bit (d.come refl).0 in
    let f = ap bit (d.come refl).1 in
    omega (arith, d.balance)
follows false true true n m d = omega (arith, d.balance)
follows false true false n m d = omega (arith, d.balance)
follows false false true n m d = omega (arith, d.balance)
follows false false false n m d = omega (arith, d.balance)

-- of the events a departure alone takes one from one
some : (c b a : Bool) (n m : ℕ) → Differ c b a n m → carried (told c b a) 1 ≡ 0 → 1 ≤ n
some true b a n m d e = omega (arith, e)
some false true true n m d e = omega (arith, e)
some false true false n m d e = omega (arith, d.balance)
some false false true n m d e = omega (arith, e)
some false false false n m d e = omega (arith, e)

module _ (t : Table) (w : ℕ) (z : refusal_of t w ≡ 0) where
  abbrev p : ℕ
  p = process_of w

  abbrev u : Table
  u = after_word t w

  abbrev says : Says t w
  says = accepted_says t w z

  -- COME is allowed at 10 alone, and no step leads from 10 to 30
  come_apart : eqb (kind_of w) COME ≡ true → (is_critical (row t p) ≡ false) × (is_critical (row u p) ≡ false)
  unfolding allowed
  come_apart c =
      let l = (row t p).location in
      let at10 : eqb l 10 ≡ true =
      sym (ap (λ (k : ℕ). allowed k (row t p)) (eqb-true (kind_of w) COME c)) ∙ says.allowed_there in
      let arc = word_arc t w z (λ x y. not (eqb x 10) || not (eqb y 30)) refl in
      (ap (λ (x : ℕ). eqb x 30) (eqb-true l 10 at10), not-true _ (implied (eqb l 10) _ arc at10))

  -- the count differs by the process of the word alone
  differ : Differ (eqb (kind_of w) COME) (is_critical (row t p)) (is_critical (row u p)) (critical t) (critical u)
  differ =
      record {
        balance =
            ap (λ (n : ℕ). count (λ q. is_critical (row u q)) n + bit (is_critical (row t p))) (word_keeps_length t w)
            ∙ count_same_but (λ q. is_critical (row u q)) (λ q. is_critical (row t q)) (length t) p
            (λ q l ne. ap (λ (x : ℕ). eqb x 30) (step_others t u p q (accepted_step t w z) ne).location_same)
            says.process_in;
        come = come_apart;
      }

  -- Excludes: a departure that does not lower the figure; a step from 40 to 10 that does, or one from 21 to 22 that
  -- raises it; an arrival that is told of another word than the one that arrives.
  pub critical_step : critical (after_word t w) ≡ carried (event_of t w) (critical t)
  unfolding event_of
  critical_step = follows _ _ _ (critical t) (critical u) differ

  pub some_departs : event_of t w ≡ Event.Departure → 1 ≤ critical t
  unfolding event_of
  some_departs e = some _ _ _ (critical t) (critical u) differ (ap (λ (x : Event). carried x 1) e)

-- ---- lists of words

-- a word, taken or passed over
critical_word : (t : Table) (w : ℕ)
    → cond (eqb (refusal_of t w) accepted) (carried (event_of t w) (critical t)) (critical t) ≡ critical (after_word t w)
critical_word t w =
    split (λ b. cond b (carried (event_of t w) (critical t)) (critical t) ≡ critical (after_word t w))
    (eqb (refusal_of t w) accepted)
    (λ e. sym (critical_step t w (eqb-true _ _ e)))
    (λ e. ap critical (sym (refused_same t w (eqb-false _ _ e))))

-- Of any table; one that is not sound refuses every word, and keeps its count.
pub critical-carried : (t : Table) (ws : List ℕ) → carried_over t (critical t) ws ≡ critical (after_words t ws)
unfolding carried_over after_words
critical-carried t [] = refl
critical-carried t (w ∷ ws) =
    ap (λ (n : ℕ). carried_over (after_word t w) n ws) (critical_word t w) ∙ critical-carried (after_word t w) ws

-- what the census of a sound table answers
answered : (t : Table) → table_refusal t ≡ accepted → (census_of t).critical ≡ critical t
unfolding census_of
answered t sound = rw (eq-eqb (table_refusal t) accepted sound) refl

-- For every sound table and every list of words, refused ones included: after the list the figure that was carried is
-- the census's. The words that a run takes, up to the first that is refused, are such a list, and so is each beginning
-- of them: it holds after each taken word.
-- Excludes: a figure that starts at 0 where somebody is at 30 in the table.
pub census_carried : (t : Table) (ws : List ℕ)
    → table_refusal t ≡ accepted
    → carried_over t (critical t) ws ≡ (census_of (after_words t ws)).critical
census_carried t ws sound =
    critical-carried t ws ∙ sym (answered (after_words t ws) (words_keep_sound t ws sound))
