-- What is proved of rounds and of the answer that they give (MANUAL, "Rounds"). How many there are at most is proved in
-- the crate `silence`.
--
-- Assumes nothing.
use Prim.Native.Nat.{ℕ, zero, suc, ◌+◌, ◌-◌, ◌*◌, ◌≤◌, ◌<◌}
use mathlib.Core.Path.{◌≡◌, refl, sym, ap, ◌∙◌, subst}
use mathlib.Core.Bool.{Bool, true, cond}
use mathlib.Core.Logic.{◌⊎◌, inl, inr}
use native.Mathlib.Nat.{mul-pos}
use native.Mathlib.Decide.{ℕ_discrete}
use native.Mathlib.Omega.{arith}
use lib.Dec.{eqb}
use lib.ListN.{length, get_or}
use borrow.Author.Tests.{eq-eqb, ne_eqb}
use Rattle.machine.specs.Refusals.{accepted, passes_full}
use Rattle.machine.specs.Tables.{Table, row, sound, table_refusal}
use Rattle.machine.specs.Steps.{refusal_of}
use Rattle.machine.specs.Census.{critical}
use Rattle.machine.specs.Rounds.{round_word, round_to, round, rounds, Went, Unbroken, pending, Silent, round_limit}
use Rattle.machine.specs.Rounds.{Rounded, rounded, broken, rounds_from, rounds_of, Awaited, Broken}
use Rattle.machine.proofs.SoundRows.{sound_rows, sound-accepted}
use Rattle.machine.proofs.RoundLaws as laws
use Rattle.machine.proofs.RoundLaws.{round-sound, rounds_zero, rounds_suc}
use Rattle.machine.proofs.BrokenRounds as BrokenRounds
use Rattle.machine.proofs.BrokenRounds.{Stops, unbroken_or_stops, next_unbroken, rounds_unbroken}
use Rattle.machine.proofs.BrokenRounds.{on_whole, on_stops}
use Rattle.machine.proofs.RoundAnswers.{from_used, from_next, from_here, from_broken, rounds_none, rounds-some}

-- The word that a round gives is accepted, from every sound table and of every process, or it is a GO at 20 that meets
-- 15.
-- Excludes: a word of a round that is refused otherwise, so that its process never moves on: GO at 10, or at 22 while
-- lis is not empty; LOOK at no member of lis; 15 at another location than 20.
-- Not empty: `fresh_exists` of exclusion; `rounds_of_two`, `round-broken` in RoundExamples.antt.
pub round_word_answered : (t : Table) (p : ℕ)
    → sound t ≡ true
    → p < length t
    → (refusal_of t (round_word t p) ≡ accepted)
    ⊎ (((row t p).location ≡ 20) × (refusal_of t (round_word t p) ≡ passes_full))
round_word_answered t p h l = laws.round_word_answered t p (sound-accepted t h) l

-- A round is unbroken if no process at 20 has a count of 65,535.
-- Excludes: a broken round where every count has room; 15 for a count that another word of the round raises.
-- Not empty: `rounds_of_two` in RoundExamples.antt.
pub roomy_unbroken : (t : Table)
    → sound t ≡ true
    → ((q i : ℕ) → q < length t → i < 16 → (row t q).location ≡ 20 → get_or (row t q).passes i 0 < 65535)
    → Unbroken t
roomy_unbroken t h room = BrokenRounds.roomy_unbroken t (sound-accepted t h) (λ q l e i k. room q i l k e)

-- If the first round is unbroken, every round is: 15 is met in the first or in none.
-- Excludes: a table from which a later round is broken.
-- Not empty: `rounds_of_two` in RoundExamples.antt.
pub later_unbroken : (t : Table) (r : ℕ) → sound t ≡ true → Unbroken t → Unbroken (rounds r t)
later_unbroken t r h whole = rounds_unbroken r t (sound-accepted t h) whole

-- ---- the answer

-- at most b rounds, after r that are counted already: d of them were done
record From (b r : ℕ) (t : Table) (o : Rounded) : Type 0 where
  d : ℕ
  outcome_is : o ≡ rounded (r + d) (rounds d t)
  few : d ≤ b
  silent : (i : ℕ) → i < d → critical (rounds i t) ≡ 0
  all : critical (rounds d t) ≡ 0 → d ≡ b

-- none was done
none_done : (b r : ℕ) (t : Table) (o : Rounded) → o ≡ rounded r t → (critical t ≡ 0 → b ≡ 0) → From b r t o
none_done b r t o e h =
    let i : r ≡ r + 0 = omega arith in
    record {
      d = 0;
      outcome_is = e ∙ ap (λ (k : ℕ). rounded k t) i ∙ ap (rounded (r + 0)) (sym (rounds_zero t));
      few = omega arith;
      silent = λ j l. absurd (omega arith);
      all = λ z. sym (h (sym (ap critical (rounds_zero t)) ∙ z));
    }

-- one was done, and then d
one_done : (b r : ℕ) (t : Table) (o : Rounded) → critical t ≡ 0 → From b (suc r) (round t) o → From (suc b) r t o
one_done b r t o z f =
    let i : suc r + f.d ≡ r + suc f.d = omega arith in
    record {
      d = suc f.d;
      outcome_is = f.outcome_is
          ∙ ap (λ (k : ℕ). rounded k (rounds f.d (round t))) i
          ∙ ap (rounded (r + suc f.d)) (sym (rounds_suc f.d t));
      few = omega (arith, f.few);
      silent = before;
      all = λ e. ap suc (f.all (ap critical (sym (rounds_suc f.d t)) ∙ e));
    }
  where
    before : (j : ℕ) → j < suc f.d → critical (rounds j t) ≡ 0
    before zero l = ap critical (rounds_zero t) ∙ z
    before (suc j) l = ap critical (rounds_suc j t) ∙ f.silent j (omega arith)

-- somebody is at 30
somebody_there : (b r : ℕ) (t : Table) → (critical t ≡ 0 → ⊥) → From b r t (rounds_from b r t)
somebody_there zero r t n = none_done 0 r t _ (from_used r t) (λ z. absurd (n z))
somebody_there (suc b) r t n = none_done (suc b) r t _ (from_here b r t n) (λ z. absurd (n z))

-- one round more, where it is unbroken
from_round : (b r : ℕ) (t : Table)
    → critical t ≡ 0
    → Unbroken t
    → rounds_from (suc b) r t ≡ rounds_from b (suc r) (round t)
from_round b r t z whole =
    let w = on_whole t whole in
    from_next b r t z (ap (λ (x : Went). x.refusal) w) ∙ ap (λ (x : Went). rounds_from b (suc r) x.table) w

from_done : (b r : ℕ) (t : Table) → table_refusal t ≡ 0 → Unbroken t → From b r t (rounds_from b r t)
from_done zero r t y whole = none_done 0 r t _ (from_used r t) (λ z. refl)
from_done (suc b) r t y whole =
    go (ℕ_discrete (critical t) 0) (from_done b (suc r) (round t) (round-sound t y) (next_unbroken t y whole))
  where
    go : Dec (critical t ≡ 0)
        → From b (suc r) (round t) (rounds_from b (suc r) (round t))
        → From (suc b) r t (rounds_from (suc b) r t)
    go (yes z) f = subst (From (suc b) r t) (sym (from_round b r t z whole)) (one_done b r t _ z f)
    go (no n) f = somebody_there (suc b) r t n

-- the first round stops, where the limit lets it begin
stopped : (t : Table) (s : Stops t)
    → table_refusal t ≡ 0
    → critical t ≡ 0
    → rounds_from (round_limit (length t)) 0 t ≡ broken passes_full 0 (round_to t s.process)
stopped t s y z =
    let n : ℕ = length t in
    let few : 2 ≤ n = (sound_rows t y).0 in
    let some : 0 < round_limit n =
    mul-pos {m = 4 * n * n} {n = n + 3} (mul-pos {m = 4 * n} {n = n} (omega arith) (omega arith)) (omega arith) in
    let b : ℕ = round_limit n - 1 in
    let w = on_stops t s in
    ap (λ (x : ℕ). rounds_from x 0 t) (omega (arith, some))
    ∙ from_broken b 0 t z (λ e. omega (arith, e, ap (λ (x : Went). x.refusal) w))
    ∙ ap (λ (x : Went). broken x.refusal 0 x.table) w

-- so it is told
told : (b : ℕ) (t : Table) (o : Rounded) → From b 0 t o → Awaited b t o
told b t o f =
    let i : 0 + f.d ≡ f.d = omega arith in
    subst (Awaited b t) (sym (f.outcome_is ∙ ap (λ (k : ℕ). rounded k (rounds f.d t)) i))
    (record {
      not_refused = refl;
      table_is = refl;
      at_most = f.few;
      nobody_before = f.silent;
      occupied_is = refl;
      all_done = f.all;
    })

told_broken : (t : Table) (s : Stops t) (o : Rounded)
    → o ≡ broken passes_full 0 (round_to t s.process)
    → Broken t o
told_broken t s o e =
    subst (Broken t) (sym e)
    (record {
      process = s.process;
      process_in = s.process_in;
      before_accepted = s.before_accepted;
      refused_then = s.refused_then;
      answer_is = refl;
      table_is = refl;
    })

-- the rounds are those that were asked for
abbrev Asked : Table → Type 0
Asked t = Awaited (cond (eqb (pending t) 0) 0 (round_limit (length t))) t (rounds_of t)

-- What the answer tells. If nobody is at 30, somebody is at 20 to 24 and the first round is broken, it is 15 and no
-- round: the words before the one that meets 15 are kept, and whether somebody is at 30 is told of the table left.
-- Otherwise the table left is the one after the rounds that are told. Somebody at 30 ends them, after a whole round:
-- before each of them nobody was. Whether somebody is at 30 is told of the table left, and if nobody is, the limit is
-- used up, or nobody was at 20 to 24 and no round was done.
-- Excludes: one round too many or too few, counted or done; a stop within a round that is not broken; words after the
-- one that meets 15, or the ones before it undone; a broken round counted; an answer about another table than the one
-- left; giving up before the limit, or going on past it; rounds where nobody is at 20 to 24.
-- Not empty: `rounds_of_two`, `rounds_used_up`, `round-broken` in RoundExamples.antt.
pub rounds-answer : (t : Table)
    → sound t ≡ true
    → ((Silent t → Unbroken t) × Awaited (cond (eqb (pending t) 0) 0 (round_limit (length t))) t (rounds_of t))
    ⊎ (Silent t × Broken t (rounds_of t))
rounds-answer t h = go (ℕ_discrete (pending t) 0)
  where
    y : table_refusal t ≡ 0
    y = sound-accepted t h

    awaited : (pending t ≡ 0 → ⊥)
        → From (round_limit (length t)) 0 t (rounds_from (round_limit (length t)) 0 t)
        → Asked t
    awaited n f =
        subst (λ (b : Bool). Awaited (cond b 0 (round_limit (length t))) t (rounds_of t)) (sym (ne_eqb _ _ n))
        (subst (Awaited (round_limit (length t)) t) (sym (rounds-some t y n)) (told _ t _ f))

    some : (pending t ≡ 0 → ⊥)
        → Dec (critical t ≡ 0)
        → Unbroken t ⊎ Stops t
        → ((Silent t → Unbroken t) × Asked t) ⊎ (Silent t × Broken t (rounds_of t))
    some n (no c) w = inl (λ s. absurd (c s.0), awaited n (somebody_there _ 0 t c))
    some n (yes z) (inl whole) = inl (λ s. whole, awaited n (from_done _ 0 t y whole))
    some n (yes z) (inr s) =
        inr ((z, omega (arith, n)), told_broken t s _ (rounds-some t y n ∙ stopped t s y z))

    go : Dec (pending t ≡ 0) → ((Silent t → Unbroken t) × Asked t) ⊎ (Silent t × Broken t (rounds_of t))
    go (yes e) =
        inl (
          λ s. absurd (omega (arith, e, s.1)),
          subst (λ (b : Bool). Awaited (cond b 0 (round_limit (length t))) t (rounds_of t)) (sym (eq-eqb _ _ e))
              (told 0 t _ (none_done 0 0 t _ (rounds_none t y e) (λ i. refl))),
        )
    go (no n) = some n (ℕ_discrete (critical t) 0) (unbroken_or_stops t y)
