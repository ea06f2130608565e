-- What a step can tell of a table: its process's private variables and one shared cell (MANUAL, "Shared cells").
--
--   Alike t u w       <=>  word w, which t accepts, cannot tell table u from table t, and w does not meet 15 at u.
--   SameEffect t u w  <=>  w does the same to both.
--
-- Assumes nothing.
use Rattle.std.specs.Prelude.{ℕ, ◌≡◌, length}
use Rattle.machine.specs.Refusals.{accepted, passes_full}
use Rattle.machine.specs.Tables.{Table, row}
use Rattle.machine.specs.Words.{process_of}
use Rattle.machine.specs.Shared.{act_read, act_written, turn_read, turn_written, own}
use Rattle.machine.specs.Steps.{refusal_of, after_word, cell_of}

-- as many processes, the same private variables of the word's process, the same value in the cell that it reads from t,
-- if it reads one, and room for the counts that it adds to, if it adds to any
pub record Alike (t u : Table) (w : ℕ) : Type 0 where
  pub as_many : length u ≡ length t
  pub own_same : own (row u (process_of w)) ≡ own (row t (process_of w))
  pub act_same : (q : ℕ) → cell_of t w ≡ act_read q → (row u q).act ≡ (row t q).act
  pub turn_same : (k : ℕ) → cell_of t w ≡ turn_read k → (row u k).turn ≡ (row t k).turn
  pub not_full : refusal_of u w ≡ passes_full → ⊥

-- u accepts w too, it uses the same cell, leaves its process with the same private variables, and writes the same
-- value, if it writes one
pub record SameEffect (t u : Table) (w : ℕ) : Type 0 where
  pub accepted_too : refusal_of u w ≡ accepted
  pub cell_same : cell_of u w ≡ cell_of t w
  pub own_same : own (row (after_word u w) (process_of w)) ≡ own (row (after_word t w) (process_of w))
  pub act_same : (q : ℕ) → cell_of t w ≡ act_written q → (row (after_word u w) q).act ≡ (row (after_word t w) q).act
  pub turn_same : (k : ℕ) → cell_of t w ≡ turn_written k → (row (after_word u w) k).turn ≡ (row (after_word t w) k).turn
