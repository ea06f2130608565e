-- Rounds move by move and round by round, and what the answer says of them.
--
--   on_next, on_end, on_stop      one word more, the last one, and one that is refused
--   goes_round                    so much of a round
--   none_yet, one_more, whole     who is at 30 of those that have moved
--   from_occupied, from_limit     no round more: somebody is at 30, or the limit is used up
--   from_turn, from_cut           one round more, and one that is broken
--   ends                          what the answer says of them
--   some_is, none_is              what the code asks of the number at 30
--
-- Assumes nothing.
use Prim.Native.Nat.{ℕ, zero, suc, ◌+◌, ◌-◌, ◌≤◌, ◌<◌}
use mathlib.Core.Path.{◌≡◌, refl, sym, ap, ap₂, ◌∙◌, subst}
use mathlib.Core.Bool.{Bool, true, false, ◌||◌, not}
use native.Mathlib.Numerals.{add-one}
use native.Mathlib.Omega.{arith}
use lib.Dec.{eqb, ltb}
use lib.ListN.{length}
use borrow.Author.Tests.{ltb-true, ltb-false, ne_eqb, lt-ltb}
use Rattle.std.specs.Prelude.{Result, IfOk}
use Rattle.counting.specs.Sums.{bit, count}
use Rattle.counting.proofs.CountLaws.{count_zero}
use Rattle.machine.specs.Refusals.{refusal_in}
use Rattle.machine.specs.Tables.{Table, row, table_refusal}
use Rattle.machine.specs.Steps.{refusal_of, after_word}
use Rattle.machine.specs.Census.{is_critical, critical}
use Rattle.machine.specs.Rounds.{round_word, Went, round_on, Rounded, rounded, broken, rounds_from}
use Rattle.machine.proofs.Accepted.{refused_same}
use Rattle.machine.proofs.RoundLaws.{Move, process_moves_on}
use Rattle.machine.proofs.BrokenRounds.{on_none, on_word, on_refused}
use Rattle.machine.proofs.Arriving.{critical_next}
use Rattle.machine.proofs.RoundAnswers.{from_used, from_here, from_next, from_broken}
use Rattle.machine.specs.declared.Refusal.{Refusal}
use Rattle.machine.specs.declared.RoundsAnswer.{RoundsAnswer}
use Rattle.rounds.specs.Promises.{GoesRound, Rounds}

-- ---- a round

-- w says how far the n words of a round go, of which p are given and led to t

-- one word more
pub on_next : {u : Table} {n : ℕ} {w : Went} (t : Table) (p : ℕ)
    → p < n
    → refusal_of t (round_word t p) ≡ 0
    → u ≡ after_word t (round_word t p)
    → w ≡ round_on t p (n - p)
    → w ≡ round_on u (p + 1) (n - (p + 1))
on_next {u} {n} t p l ok e h =
    let i : n - p ≡ suc (n - (p + 1)) = omega arith in
    h ∙ ap (round_on t p) i ∙ on_word t p (n - (p + 1)) ok ∙ rw (e, add-one p) refl

-- the last one was given
pub on_end : {n : ℕ} {w : Went} (t : Table) (p : ℕ)
    → n ≤ p
    → w ≡ round_on t p (n - p)
    → w ≡ record { refusal = 0; table = t }
on_end {n} t p l h =
    let i : n - p ≡ 0 = omega arith in h ∙ ap (round_on t p) i ∙ on_none t p

-- the next one is refused
pub on_stop : {u : Table} {n : ℕ} {w : Went} (t : Table) (p : ℕ)
    → p < n
    → (refusal_of t (round_word t p) ≡ 0 → ⊥)
    → u ≡ after_word t (round_word t p)
    → w ≡ round_on t p (n - p)
    → w ≡ record { refusal = refusal_of t (round_word t p); table = u }
on_stop {u} {n} t p l ne e h =
    let i : n - p ≡ suc (n - (p + 1)) = omega arith in
    h
    ∙ ap (round_on t p) i
    ∙ on_refused t p (n - (p + 1)) ne
    ∙ ap (λ (v : Table). record { refusal = refusal_of t (round_word t p); table = v })
    (sym (e ∙ refused_same t (round_word t p) ne))

-- the words of a round of the table x led to y
pub goes_round : {x y : Table} (a : Result Bool Refusal)
    → round_on x 0 (length x) ≡ record { refusal = refusal_in a; table = y }
    → IfOk a (λ b. b ≡ ltb 0 (critical y))
    → GoesRound x y a
goes_round a e told =
    record {
      refusal_is = sym (ap (λ (w : Went). w.refusal) e);
      becomes = sym (ap (λ (w : Went). w.table) e);
      told = told;
    }

-- ---- who is at 30 of those that have moved

abbrev seen : Table → ℕ → Bool
seen t p = ltb 0 (count (λ q. is_critical (row t q)) p)

pub none_yet : (t : Table) → false ≡ seen t 0
none_yet t = sym (ap (λ (k : ℕ). ltb 0 k) (count_zero (λ q. is_critical (row t q))))

some_or : (k : ℕ) (b : Bool) → (ltb 0 k || b) ≡ ltb 0 (k + bit b)
some_or zero true = refl
some_or zero false = refl
some_or (suc k) b =
    ap (λ (c : Bool). c || b) (lt-ltb 0 (suc k) (omega arith)) ∙ sym (lt-ltb 0 (suc k + bit b) (omega arith))

-- p has moved as well
pub one_more : {u : Table} {occupied there : Bool} (t : Table) (p : ℕ)
    → table_refusal t ≡ 0
    → p < length t
    → refusal_of t (round_word t p) ≡ 0
    → u ≡ after_word t (round_word t p)
    → occupied ≡ seen t p
    → there ≡ is_critical (row u p)
    → (occupied || there) ≡ seen u (p + 1)
one_more {u} t p z l ok e h k =
    let m = subst (Move t p) (sym e) (process_moves_on t p z l ok) in
    ap₂ (λ (a b : Bool). a || b) h k
    ∙ some_or (count (λ q. is_critical (row t q)) p) (is_critical (row u p))
    ∙ ap (λ (c : ℕ). ltb 0 c) (sym (critical_next t u p z l m))
    ∙ ap (seen u) (sym (add-one p))

-- all have
pub whole : (t : Table) (p : ℕ) → p ≡ length t → seen t p ≡ ltb 0 (critical t)
whole t p e = ap (seen t) e

-- ---- rounds

-- somebody is at 30
pub from_occupied : (b r : ℕ) (t : Table) → true ≡ ltb 0 (critical t) → rounds_from b r t ≡ rounded r t
from_occupied zero r t e = from_used r t
from_occupied (suc b) r t e = from_here b r t (λ z. absurd (omega (arith, ltb-true 0 (critical t) (sym e))))

-- none is left
pub from_limit : (n r : ℕ) (t : Table) → r ≡ n → rounds_from (n - r) r t ≡ rounded n t
from_limit n r t e =
    let i : n - r ≡ 0 = omega arith in
    ap (λ (b : ℕ). rounds_from b r t) i ∙ from_used r t ∙ ap (λ (k : ℕ). rounded k t) e

-- one round of the n that are allowed
pub from_turn : {u : Table} (n r : ℕ) (t : Table)
    → r < n
    → critical t ≡ 0
    → (round_on t 0 (length t)).refusal ≡ 0
    → u ≡ (round_on t 0 (length t)).table
    → rounds_from (n - r) r t ≡ rounds_from (n - (r + 1)) (r + 1) u
from_turn {u} n r t l z ok e =
    let i : n - r ≡ suc (n - (r + 1)) = omega arith in
    ap (λ (b : ℕ). rounds_from b r t) i
    ∙ from_next (n - (r + 1)) r t z ok
    ∙ rw (e, add-one r) refl

-- a round that a refused word ends
pub from_cut : {u : Table} {v : ℕ} (n r : ℕ) (t : Table)
    → r < n
    → critical t ≡ 0
    → v ≡ (round_on t 0 (length t)).refusal
    → (v ≡ 0 → ⊥)
    → u ≡ (round_on t 0 (length t)).table
    → rounds_from (n - r) r t ≡ broken v r u
from_cut n r t l z e ne h =
    let i : n - r ≡ suc (n - (r + 1)) = omega arith in
    ap (λ (b : ℕ). rounds_from b r t) i
    ∙ from_broken (n - (r + 1)) r t z (λ k. ne (e ∙ k))
    ∙ ap₂ (λ (k : ℕ) (w : Table). broken k r w) (sym e) (sym h)

-- the outcome o by another name
pub ends : {x y : Table} {o k : Rounded} {a : RoundsAnswer} → o ≡ k → a ≡ k.answer → y ≡ k.table → Rounds x o y a
ends e h g =
    record {
      becomes = g ∙ sym (ap (λ (k : Rounded). k.table) e);
      answer_is = h ∙ sym (ap (λ (k : Rounded). k.answer) e);
    }

-- ---- the number at 30

-- what the code asks of the number k at 30
pub some_is : {k n : ℕ} → k ≡ n → not (eqb k 0) ≡ ltb 0 n
some_is {k} {n} e = go k ∙ ap (λ (i : ℕ). ltb 0 i) e
  where
    go : (i : ℕ) → not (eqb i 0) ≡ ltb 0 i
    go zero = refl
    go (suc i) = ap not (ne_eqb (suc i) 0 (λ e. absurd (omega arith))) ∙ sym (lt-ltb 0 (suc i) (omega arith))

-- the number at 30 where the flag is not set
pub none_is : (k : ℕ) → ltb 0 k ≡ false → k ≡ 0
none_is k e = omega (arith, ltb-false 0 k e)
