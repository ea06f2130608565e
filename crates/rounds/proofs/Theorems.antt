-- The bound on the silence (MANUAL, "Rounds") for the rounds that run: the theorems of the crate `silence` beside the
-- contract of `zaguypo_rounds`, `RoundsTo a t u`: from the rows t it answers a and leaves u.
--
-- Assumes nothing.
use Prim.Native.Nat.{ℕ, ◌≤◌, ◌<◌}
use mathlib.Core.Path.{◌≡◌, sym, ap, ◌∙◌, subst}
use mathlib.Core.Bool.{Bool, true, cond}
use mathlib.Core.Logic.{◌⊎◌, inl, inr}
use mathlib.Core.List.{List}
use native.Mathlib.Decide.{ℕ_discrete, dec_lt}
use native.Mathlib.Omega.{arith}
use lib.ListN.{length}
use borrow.Author.Tests.{ne_eqb, lt-ltb}
use Rattle.counting.specs.Sums.{bit}
use Rattle.machine.specs.Tables.{Table, sound, fresh}
use Rattle.machine.specs.Steps.{after_words}
use Rattle.machine.specs.Census.{critical}
use Rattle.machine.specs.Rounds.{rounds, Unbroken, pending, Silent, round_limit, silence_bound, all_coming}
use Rattle.machine.specs.Rounds.{Rounded, rounds_of, Awaited, Broken}
use Rattle.machine.specs.declared.RoundsAnswer.{RoundsAnswer}
use Rattle.machine.proofs.SoundRows.{sound-accepted, accepted-sound}
use Rattle.machine.proofs.FreshRows.{fresh-sound}
use Rattle.machine.proofs.Soundness.{words_keep_sound, words_keep_length}
use Rattle.machine.proofs.RoundTheorems.{rounds-answer}
use Rattle.silence.proofs.PhaseLaws.{bound_fits}
use Rattle.silence.proofs.Theorems.{silence_ends}
use Rattle.silence.proofs.ExactTheorems.{silence_attained, silence_there, silence_unbroken}
use Rattle.rounds.specs.Promises.{RoundsTo}

-- ---- somebody is at 30 within the limit

-- at most r rounds were done, and somebody is at 30 after them
record Ended (r : ℕ) (o : Rounded) : Type 0 where
  few : o.answer.rounds ≤ r
  there : 1 ≤ critical o.table

-- where somebody is at 30 after r rounds
ended_by : (b r : ℕ) (t : Table) (o : Rounded)
    → Awaited b t o
    → r ≤ b
    → 1 ≤ critical (rounds r t)
    → Ended r o
ended_by b r t o w l h = record { few = few; there = go (ℕ_discrete (critical o.table) 0) }
  where
    few : o.answer.rounds ≤ r
    few = at_most (dec_lt r o.answer.rounds)
      where
        at_most : Dec (r < o.answer.rounds) → o.answer.rounds ≤ r
        at_most (yes k) = absurd (omega (arith, w.nobody_before r k))
        at_most (no nk) = omega (arith, nk)

    go : Dec (critical o.table ≡ 0) → 1 ≤ critical o.table
    go (no n) = omega (arith, n)
    go (yes z) =
        let e : o.answer.rounds ≡ r = omega (arith, w.all_done z, few) in
        subst (λ (u : Table). 1 ≤ critical u) (sym (w.table_is ∙ ap (λ (k : ℕ). rounds k t) e)) h

-- an unbroken round is not broken
awaited_whole : (b : ℕ) (t : Table) (o : Rounded)
    → Unbroken t
    → ((Silent t → Unbroken t) × Awaited b t o) ⊎ (Silent t × Broken t o)
    → Awaited b t o
awaited_whole b t o whole (inl (_, w)) = w
awaited_whole b t o whole (inr (_, w)) = absurd (omega (arith, w.refused_then, whole w.process w.process_in))

-- the outcome of rounds from a table that words made, with somebody pending and an unbroken first round
module _ (t : Table) (ws : List ℕ) (h : fresh t ≡ true) (some : 1 ≤ pending (after_words t ws))
    (whole : Unbroken (after_words t ws))
  where
    made_sound : sound (after_words t ws) ≡ true
    made_sound = accepted-sound (after_words t ws) (words_keep_sound t ws (sound-accepted t (fresh-sound t h)))

    awaited : Awaited (round_limit (length t)) (after_words t ws) (rounds_of (after_words t ws))
    awaited =
        subst (λ (n : ℕ). Awaited (round_limit n) (after_words t ws) (rounds_of (after_words t ws)))
        (words_keep_length t ws)
        (subst
        (λ (b : Bool).
        Awaited (cond b 0 (round_limit (length (after_words t ws)))) (after_words t ws) (rounds_of (after_words t ws)))
        (ne_eqb (pending (after_words t ws)) 0 (λ e. absurd (omega (arith, e))))
        (awaited_whole _ _ _ whole (rounds-answer (after_words t ws) made_sound)))

    ends-within : critical (after_words t ws) ≡ 0 → Ended (silence_bound (length t)) (rounds_of (after_words t ws))
    ends-within none =
        let (r, few, arrived) = silence_ends t ws h (none, some) whole in
        let e = ended_by _ r _ _ awaited (omega (arith, few, bound_fits (length t))) arrived in
        record { few = omega (arith, e.few, few); there = e.there }

-- ---- the theorems

-- From rows that any list of words made of fresh ones, with nobody at 30, somebody at 20 to 24 and an unbroken first
-- round, the call is not refused and answers yes; it does at most 2 n n + 3 n - 3 rounds, and somebody is at 30 in the
-- rows that it leaves. What it answers where the first round is broken, `rounds-answer` says in
-- machine/proofs/RoundTheorems.antt.
-- Excludes: a call that ends with nobody at 30, does more rounds than the bound, or tells of an arrival that is none.
-- Not empty: `silence_there` and `silence_unbroken` of silence, with the answer and the table of `rounds_of`.
pub rounds_end_silence : (t u : Table) (ws : List ℕ) (a : RoundsAnswer)
    → fresh t ≡ true
    → Silent (after_words t ws)
    → Unbroken (after_words t ws)
    → RoundsTo a (after_words t ws) u
    → (a.refusal ≡ 0) × (a.occupied ≡ 1) × (a.rounds ≤ silence_bound (length t)) × (1 ≤ critical u)
rounds_end_silence t u ws a h (none, some) whole (answer, left) =
    let w = awaited t ws h some whole in
    let e = ends-within t ws h some whole none in (
      ap (λ (k : RoundsAnswer). k.refusal) answer ∙ w.not_refused,
      ap (λ (k : RoundsAnswer). k.occupied) answer ∙ w.occupied_is ∙ ap bit (lt-ltb _ _ e.there),
      subst (λ (k : RoundsAnswer). k.rounds ≤ silence_bound (length t)) (sym answer) e.few,
      subst (λ (v : Table). 1 ≤ critical v) (sym left) e.there,
    )

-- And from fresh rows in which each process has come, it does just so many.
-- Excludes: a count of rounds that is off by one, at any number of processes and from any fresh rows.
-- Not empty: `fresh_exists` of exclusion, at each number of processes from 2 to 16.
pub longest_answer : (t u : Table) (a : RoundsAnswer)
    → fresh t ≡ true
    → RoundsTo a (after_words t (all_coming (length t))) u
    → a ≡ record { refusal = 0; rounds = silence_bound (length t); occupied = 1 }
longest_answer t u a h made =
    let ws = all_coming (length t) in
    let n = silence_bound (length t) in
    let there = silence_there t h in
    let whole = silence_unbroken t h in
    let e = rounds_end_silence t u ws a h there whole made in
    let w = awaited t ws h there.1 whole in
    let all : a.rounds ≡ n =
    exactly n a.rounds e.2
    (λ l.
    let same = ap (λ (k : RoundsAnswer). k.rounds) made.0 in
    let z = (silence_attained t h).0 a.rounds l in
    let left = w.table_is ∙ ap (λ (k : ℕ). rounds k (after_words t ws)) (sym same) in
    absurd (omega (arith, e.3, ap critical (made.1 ∙ left) ∙ z))) in
    answer_of a n e.0 all e.1
  where
    exactly : (n k : ℕ) → k ≤ n → (k < n → ⊥) → k ≡ n
    exactly n k l not-less = omega (arith, not-less)

    answer_of : (a : RoundsAnswer) (n : ℕ)
        → a.refusal ≡ 0
        → a.rounds ≡ n
        → a.occupied ≡ 1
        → a ≡ record { refusal = 0; rounds = n; occupied = 1 }
    answer_of a n i j k =
        ap (λ (x : ℕ). record { refusal = x; rounds = a.rounds; occupied = a.occupied }) i
        ∙ ap (λ (x : ℕ). record { refusal = 0; rounds = x; occupied = a.occupied }) j
        ∙ ap (λ (x : ℕ). record { refusal = 0; rounds = n; occupied = x }) k
