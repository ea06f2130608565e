-- Bytes put on a page: into a lent buffer, after those that are there.
--
--   page_space p   ==   for how many more bytes the page p has room.
--   Written p s q  <=>  the page p has become q, of the same lent buffer: s is put after what was put.
--
-- Assumes nothing.
use Rattle.std.specs.Prelude.{ℕ, ◌+◌, ◌-◌, ◌≤◌, ◌≡◌, List, length}
use Rattle.counting.specs.Placing.{placed}
use Rattle.text.specs.declared.sinks.Page.{Page}

abbrev pub page_space : Page → ℕ
page_space p = length p.bytes.now - p.filled

pub record Written (p : Page) (s : List ℕ) (q : Page) : Type 0 where
  pub same_buffer : q.bytes.ghost_name ≡ p.bytes.ghost_name
  pub bytes_are : q.bytes.now ≡ placed p.bytes.now p.filled s
  pub filled_is : q.filled ≡ p.filled + length s
  pub room : length s ≤ page_space p
