-- Rounds: each process in number order is given one word, again and again (MANUAL, "Rounds").
--
--   round_word t p   ==  the word that a round gives process p: STAY at 10; at 22 LOOK at the lowest member of lis,
--                        where it has one; GO otherwise.
--   round_to t p     ==  the table after the words of the processes below p, each given to the table that the one
--                        before left.
--   round t          ==  the table after a round, one word for each process in number order; rounds r t: after r.
--   round_on t p m   ==  the words of m processes from process p on, up to the first that is refused.
--   Unbroken t       <=> no word of a round from t is refused.
--   pending t        ==  how many processes are at 20 to 24: they have come and are not yet in the critical section.
--   occupied t       ==  1 where some process is at 30, in the critical section; else 0.
--   Silent t         <=> nobody is at 30 and somebody is pending.
--   round_limit n    ==  the most rounds that are done at a table of n processes.
--   silence_bound n  ==  the rounds within which some process is at 30, if a list of words made a silent table from a
--                        fresh one and the first round is unbroken: a bound that is attained.
--   all_coming n     ==  COME of each of n processes in order; from a fresh table they lead to the longest silence.
--   rounds_of t      ==  6 or 7; no round, where nobody is pending; else rounds until some process is at 30, the limit
--                        is used up, or a word is refused.
--   Awaited b t o    <=> what the outcome o of at most b unbroken rounds says of the table t.
--   Broken t o       <=> what the outcome o of rounds says of the table t where a word was refused.
--
-- Assumes nothing.
use Rattle.std.specs.Prelude.{ℕ, zero, suc, ◌+◌, ◌-◌, ◌*◌, ◌≤◌, ◌<◌, ◌≡◌, Bool, true, false, cond, ◌&&◌, not, List}
use Rattle.std.specs.Prelude.{eqb, leb, ltb, length}
use Rattle.counting.specs.Sums.{bit}
use Rattle.counting.specs.Sets.{lowest}
use Rattle.counting.specs.Ranges.{up_to}
use Rattle.machine.specs.Refusals.{accepted, passes_full}
use Rattle.machine.specs.Tables.{Table, row, table_refusal}
use Rattle.machine.specs.Words.{STAY, COME, GO, LOOK, word_of}
use Rattle.machine.specs.Steps.{refusal_of, after_word}
use Rattle.machine.specs.Census.{count_rows, critical}
use Rattle.machine.specs.declared.Row.{Row}
use Rattle.machine.specs.declared.RoundsAnswer.{RoundsAnswer}

-- ---- a round

-- STAY at 10; at 22, where lis is not empty, LOOK at its lowest member; GO otherwise
unfoldable pub round_word : Table → ℕ → ℕ
unfolding lowest
round_word t p =
    let r = row t p in
    cond (eqb r.location 10) (word_of STAY p 0)
    (cond (eqb r.location 22 && not (eqb r.lis 0)) (word_of LOOK p (lowest r.lis)) (word_of GO p 0))

-- the words of the processes 0 to p - 1
unfoldable pub round_to : Table → ℕ → Table
unfolding after_word round_word
round_to t zero = t
round_to t (suc p) = let u = round_to t p in after_word u (round_word u p)

-- a round: one word for each process, a round-robin schedule without choices
unfoldable pub round : Table → Table
unfolding round_to
round t = round_to t (length t)

unfoldable pub rounds : ℕ → Table → Table
unfolding round
rounds zero t = t
rounds (suc r) t = rounds r (round t)

-- how far a round went: the refusal of the word before which it stopped, or 0, and the table as left
pub record Went : Type 0 where
  pub refusal : ℕ
  pub table : Table

-- the words of m processes from process p on, each given to the table that the one before left, up to the first that is
-- refused
unfoldable pub round_on : Table → ℕ → ℕ → Went
unfolding refusal_of after_word round_word
round_on t p zero = record { refusal = accepted; table = t }
round_on t p (suc m) =
    elim (eqb (refusal_of t (round_word t p)) accepted) [
      | true ↦ round_on (after_word t (round_word t p)) (suc p) m
      | false ↦ record { refusal = refusal_of t (round_word t p); table = t }
    ]

-- each word of a round is accepted where it is given
abbrev pub Unbroken : Table → Type 0
Unbroken t = (p : ℕ) → p < length t → refusal_of (round_to t p) (round_word (round_to t p) p) ≡ accepted

-- ---- silence

-- at 20 to 24; the census counts from 21 on, see `waiting`
abbrev pub is_pending : Row → Bool
is_pending r = leb 20 r.location && leb r.location 24

abbrev pub pending : Table → ℕ
pending t = count_rows is_pending t

abbrev pub occupied : Table → ℕ
occupied t = bit (ltb 0 (critical t))

-- a silence: the critical section is free, and somebody is on the way to it
abbrev pub Silent : Table → Type 0
Silent t = (critical t ≡ 0) × (1 ≤ pending t)

-- so many rounds are done, and no more
abbrev pub round_limit : ℕ → ℕ
round_limit n = 4 * n * n * (n + 3)

-- the longest silence, in rounds
abbrev pub silence_bound : ℕ → ℕ
silence_bound n = 2 * n * n + 3 * n - 3

-- COME of process 0, of process 1, ..
abbrev pub all_coming : ℕ → List ℕ
unfolding up_to
all_coming n = up_to (λ p. word_of COME p 0) n

-- ---- rounds until some process is at 30

-- the answer, and the table afterwards
pub record Rounded : Type 0 where
  pub answer : RoundsAnswer
  pub table : Table

-- r rounds were done, and t is left
abbrev pub rounded : ℕ → Table → Rounded
rounded r t = record { answer = record { refusal = accepted; rounds = r; occupied = occupied t }; table = t }

-- a table that is refused is kept
abbrev pub unrounded : ℕ → Table → Rounded
unrounded why t = record { answer = record { refusal = why; rounds = 0; occupied = 0 }; table = t }

-- a word is refused after r rounds and the words of others; t is left
abbrev pub broken : ℕ → ℕ → Table → Rounded
broken why r t = record { answer = record { refusal = why; rounds = r; occupied = occupied t }; table = t }

-- at most b rounds more, after r of them; somebody at 30 is looked for before each round, not within it; a round that a
-- refused word breaks is not counted
unfoldable pub rounds_from : ℕ → ℕ → Table → Rounded
unfolding round_on
rounds_from zero r t = rounded r t
rounds_from (suc b) r t =
    let w = round_on t 0 (length t) in
    elim (ltb 0 (critical t)) [
      | true ↦ rounded r t
      | false ↦
          elim (eqb w.refusal accepted) [
            | true ↦ rounds_from b (suc r) w.table
            | false ↦ broken w.refusal r w.table
          ]
    ]

-- 6 or 7; no round where nobody is at 20 to 24; else until some process is at 30, the limit is used up, or a word is
-- refused
unfoldable pub rounds_of : Table → Rounded
unfolding table_refusal rounds_from
rounds_of t =
    elim (eqb (table_refusal t) accepted) [
      | false ↦ unrounded (table_refusal t) t
      | true ↦ elim (ltb 0 (pending t)) [ false ↦ rounded 0 t | true ↦ rounds_from (round_limit (length t)) 0 t ]
    ]

-- ---- what that comes to

-- rounds from t that had the outcome o, at most b: o has the table after the rounds that it tells; before them nobody
-- was at 30; whether somebody is now is told; and if nobody is, all b rounds were done
pub record Awaited (b : ℕ) (t : Table) (o : Rounded) : Type 0 where
  pub not_refused : o.answer.refusal ≡ accepted
  pub table_is : o.table ≡ rounds o.answer.rounds t
  pub at_most : o.answer.rounds ≤ b
  pub nobody_before : (r : ℕ) → r < o.answer.rounds → critical (rounds r t) ≡ 0
  pub occupied_is : o.answer.occupied ≡ occupied o.table
  pub all_done : critical o.table ≡ 0 → o.answer.rounds ≡ b

-- rounds from t that had the outcome o, in which a word was refused: it was that of process p in the first round, and
-- meets 15; the words before it are kept, no round is counted, and whether somebody is at 30 is told of the table left
pub record Broken (t : Table) (o : Rounded) : Type 0 where
  pub process : ℕ
  pub process_in : process < length t
  pub before_accepted : (q : ℕ) → q < process → refusal_of (round_to t q) (round_word (round_to t q) q) ≡ accepted
  pub refused_then : refusal_of (round_to t process) (round_word (round_to t process) process) ≡ passes_full
  pub answer_is : o.answer
      ≡ record { refusal = passes_full; rounds = 0; occupied = occupied (round_to t process) }
  pub table_is : o.table ≡ round_to t process
