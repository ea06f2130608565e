-- What rounds promise of a table.
--
--   Moving x p        <=>  process p of the table x, a sound table, can move.
--   MovesOn x p y a   <=>  the word of a round of process p made y of the table x, and a tells whether it was refused,
--                          and if not, whether p is at 30.
--   GoesRound x y a   <=>  the words of a round, up to the first that is refused, made y of x, and a tells whether one
--                          was, and if not, whether somebody is at 30.
--   Rounds x o y a    <=>  the table x has become y, and a is the answer, by rounds with outcome o.
--   RoundsTo a t u    <=>  rounds make the table u of t, with the answer a: what the function for C ensures.
--
-- Assumes nothing.
use Rattle.std.specs.Prelude.{ℕ, ◌<◌, ◌≡◌, Bool, ltb, length, Result, IfOk}
use Rattle.machine.specs.Refusals.{refusal_in}
use Rattle.machine.specs.Tables.{Table, row, table_refusal}
use Rattle.machine.specs.Steps.{refusal_of, after_word}
use Rattle.machine.specs.Census.{is_critical, critical}
use Rattle.machine.specs.Rounds.{round_word, round_on, Rounded, rounds_of}
use Rattle.machine.specs.declared.Refusal.{Refusal}
use Rattle.machine.specs.declared.RoundsAnswer.{RoundsAnswer}

pub record Moving (x : Table) (p : ℕ) : Type 0 where
  pub table_sound : table_refusal x ≡ 0
  pub process_in : p < length x

pub record MovesOn (x : Table) (p : ℕ) (y : Table) (a : Result Bool Refusal) : Type 0 where
  pub refusal_is : refusal_in a ≡ refusal_of x (round_word x p)
  pub becomes : y ≡ after_word x (round_word x p)
  pub told : IfOk a (λ b. b ≡ is_critical (row y p))

pub record GoesRound (x y : Table) (a : Result Bool Refusal) : Type 0 where
  pub refusal_is : refusal_in a ≡ (round_on x 0 (length x)).refusal
  pub becomes : y ≡ (round_on x 0 (length x)).table
  pub told : IfOk a (λ b. b ≡ ltb 0 (critical y))

pub record Rounds (x : Table) (o : Rounded) (y : Table) (a : RoundsAnswer) : Type 0 where
  pub becomes : y ≡ o.table
  pub answer_is : a ≡ o.answer

abbrev pub RoundsTo : RoundsAnswer → Table → Table → Type 0
RoundsTo a t u = (a ≡ (rounds_of t).answer) × (u ≡ (rounds_of t).table)
