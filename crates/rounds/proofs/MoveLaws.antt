-- The word of a round given to a process, by the tests of the code.
--
--   looks_so, listed_none, elsewhere      what the code has asked of location 22 and of lis, in one test
--   rest_moves, look_moves, go_moves, go_refused    what is promised of STAY, LOOK and GO
--
-- Assumes nothing.
use Prim.Native.Nat.{ℕ, ◌<◌}
use mathlib.Core.Path.{◌≡◌, refl, sym, ap, ◌∙◌, subst}
use mathlib.Core.Bool.{Bool, true, false, ◌&&◌, not, and-false}
use native.Mathlib.Nat.{lt_of_lt_of_le}
use native.Mathlib.Omega.{arith}
use lib.Dec.{eqb}
use lib.ListN.{length}
use lib.Pow.{pow_mono}
use borrow.Author.Tests.{eq-eqb, ne_eqb}
use Rattle.std.specs.Prelude.{Some, Result, Ok, Err}
use Rattle.counting.specs.Sets.{has, lowest}
use Rattle.counting.proofs.SetLaws.{member_below}
use Rattle.counting.proofs.LowestLaws.{lowest_member}
use Rattle.machine.specs.Refusals.{number, numbered}
use Rattle.machine.specs.Tables.{Table, row}
use Rattle.machine.specs.Words.{GO, LOOK, word_of}
use Rattle.machine.specs.Steps.{moved, refusal_of, after_word, answer_of}
use Rattle.machine.specs.Settings.{weakest}
use Rattle.machine.specs.Census.{is_critical}
use Rattle.machine.specs.Rounds.{round_word}
use Rattle.machine.specs.declared.ActMemory.{ActMemory}
use Rattle.machine.specs.declared.Refusal.{Refusal}
use Rattle.machine.specs.declared.Row.{Row}
use Rattle.machine.specs.declared.Told.{Told}
use Rattle.machine.specs.declared.TurnMemory.{TurnMemory}
use Rattle.machine.proofs.WordLaws.{formed_word_of}
use Rattle.machine.proofs.AnswerLaws.{answer-moved, answer_refused}
use Rattle.machine.proofs.SettingTheorems.{weakest_step}
use Rattle.machine.proofs.RoundLaws.{process_moves_on}
use Rattle.machine.proofs.Arriving.{arriving, move_arrives}
use Rattle.sets.specs.Answers.{lowest_of}
use Rattle.sets.proofs.LowestLaws.{lowest_same}
use Rattle.steps.specs.Moves.{Ready, Sees, Moves, TakesUnder}
use Rattle.steps.proofs.StepLaws.{ready, taken_so}
use Rattle.rounds.specs.Promises.{Moving, MovesOn}
use Rattle.rounds.proofs.WordLaws.{go_word, parts, rest_given, look_given}

-- ---- at 22

module _ (r : Row) where
  pub looks_so : r.location ≡ 22 → (r.lis ≡ 0 → ⊥) → (eqb r.location 22 && not (eqb r.lis 0)) ≡ true
  looks_so e n = simp (eq-eqb r.location 22 e, ne_eqb r.lis 0 n)

  pub listed_none : r.lis ≡ 0 → (eqb r.location 22 && not (eqb r.lis 0)) ≡ false
  listed_none e = rw (eq-eqb r.lis 0 e) (and-false (eqb r.location 22))

  pub elsewhere : (r.location ≡ 22 → ⊥) → (eqb r.location 22 && not (eqb r.lis 0)) ≡ false
  elsewhere n = rw (ne_eqb r.location 22 n) refl

-- ---- the words

module _ (t : Table) (p : ℕ) (m : Moving t p) where
  abbrev w : ℕ
  w = round_word t p

  abbrev r : Row
  r = row t p

  can : Ready t p
  can = ready t m.table_sound p m.process_in

  -- whether p is at 30 after an accepted word is known before
  moves_on : {u : Table} (b : Bool)
      → u ≡ after_word t w
      → refusal_of t w ≡ 0
      → b ≡ arriving r
      → MovesOn t p u (Ok b)
  moves_on b becomes accepted h =
      let there = move_arrives t (after_word t w) p m.table_sound m.process_in
      (process_moves_on t p m.table_sound m.process_in accepted) in
      record {
        refusal_is = sym accepted;
        becomes = becomes;
        told = h ∙ sym (ap (λ (v : Table). is_critical (row v p)) becomes ∙ there);
      }

  -- elsewhere than at 21 it does not arrive
  not_arriving : (r.location ≡ 21 → ⊥) → false ≡ arriving r
  not_arriving n = sym (ap (λ (b : Bool). b && eqb r.level 0) (ne_eqb r.location 21 n))

  -- ---- STAY

  pub rest_moves : r.location ≡ 10 → MovesOn t p t (Ok false)
  unfolding moved
  rest_moves e =
      let g = rest_given t p m.table_sound m.process_in e in
      moves_on false (sym g.table_is) g.accepted_so (not_arriving (λ i. absurd (omega arith)))

  -- ---- LOOK, at the lowest member of lis

  module _ (at : r.location ≡ 22) (some : r.lis ≡ 0 → ⊥) (q : ℕ) (found : lowest_of r.lis ≡ Some q) where
    lowest-is_q : lowest r.lis ≡ q
    lowest-is_q = lowest_same r.lis q found

    below : q < length t
    below =
        let low = lt_of_lt_of_le can.listed (pow_mono can.few) in
        member_below r.lis (length t) q can.listed
        (subst (λ (a : ℕ). has r.lis a ≡ true) lowest-is_q (lowest_member r.lis low some))

    pub look_sees : Sees t p q
    look_sees = record { ready = can; seen = below }

    pub look_moves : {u : Table} {s : Told} → Moves t LOOK p q u s → MovesOn t p u (Ok false)
    look_moves h =
        let low : lowest r.lis < 256 = omega (arith, lowest-is_q, below, can.few) in
        let g = look_given t p m.table_sound m.process_in low at (looks_so r at some) in
        moves_on false (h.becomes ∙ sym (g.table_is ∙ ap (moved t LOOK p) lowest-is_q)) g.accepted_so
        (not_arriving (λ i. absurd (omega arith)))

  -- ---- GO

  module _ (away : r.location ≡ 10 → ⊥) (no : (eqb r.location 22 && not (eqb r.lis 0)) ≡ false) where
    -- what it answered is what the word of the round answers
    go_answers : {u : Table} {s : Result Told Refusal}
        → TakesUnder weakest t GO p 0 u s
        → (numbered s ≡ answer_of t w) × (u ≡ after_word t w)
    go_answers {u} {s} h =
        let g = word_of GO p 0 in
        let i = parts t p m.table_sound m.process_in GO 0 (omega arith) in
        let f = formed_word_of GO p 0 (omega (arith, can.few, m.process_in)) (omega arith) refl in
        let e = taken_so (record { act = ActMemory.Safe; turn = TurnMemory.WriteSafe }) t g m.table_sound GO p 0
        (f, i.kind_is) (sym i.process-is) (sym i.argument_is) m.process_in h in
        let k = weakest_step t g in
        let is = go_word t p away no in (
          e.answer_is ∙ k.answer_same ∙ sym (ap (answer_of t) is),
          e.becomes ∙ k.table_same ∙ sym (ap (after_word t) is),
        )

    pub go_moves : {u : Table} {s : Told} → TakesUnder weakest t GO p 0 u (Ok s) → MovesOn t p u (Ok (arriving r))
    go_moves {u} {s} h =
        let a = go_answers h in moves_on (arriving r) a.1 (answer-moved t w s (sym a.0)).0 refl

    pub go_refused : {u : Table} {e : Refusal} → TakesUnder weakest t GO p 0 u (Err e) → MovesOn t p u (Err e)
    go_refused {u} {e} h =
        let a = go_answers h in
        record { refusal_is = (answer_refused t w (number e) (sym a.0)).1; becomes = a.1; told = tt }
