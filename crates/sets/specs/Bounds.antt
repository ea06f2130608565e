-- What the functions on sets require that do not branch.
--
--   Among n p  <=>  p is one of n processes, at most 16.
--
-- Assumes nothing.
use Rattle.std.specs.Prelude.{ℕ, ◌≤◌, ◌<◌}

pub record Among (n p : ℕ) : Type 0 where
  pub one : p < n
  pub few : n ≤ 16
