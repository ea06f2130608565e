-- The four words of a process: where they stand, in order, and the row that they hold.
--
--   four_at ws i          ==  the four words from place i on.
--   four w                ==  the four in order.
--   row_of_words w v l    ==  the row that they, a turn cell v and passes l hold.
--
-- Assumes nothing.
use Rattle.std.specs.Prelude.{ℕ, ◌+◌, List, [], ◌∷◌, get_or}
use Rattle.machine.specs.Images.{location_in, act_in, bb_in, level_in, set_in}
use Rattle.machine.specs.declared.Row.{Row}
use Rattle.images.specs.declared.checks.RowWords.{RowWords}

abbrev pub four_at : List ℕ → ℕ → RowWords
four_at ws i =
    record {
      state = get_or ws i 0;
      est = get_or ws (i + 1) 0;
      lis = get_or ws (i + 2) 0;
      ahead = get_or ws (i + 3) 0;
    }

abbrev pub four : RowWords → List ℕ
four w = w.state ∷ w.est ∷ w.lis ∷ w.ahead ∷ []

abbrev pub row_of_words : RowWords → ℕ → List ℕ → Row
row_of_words w v l =
    record {
      location = location_in w.state;
      act = act_in w.state;
      bb = bb_in w.state;
      level = level_in w.state;
      est = set_in w.est;
      lis = set_in w.lis;
      ahead = set_in w.ahead;
      turn = v;
      passes = l;
    }
