-- A row, one for each process, and the row with one cell changed (MANUAL, "Tables").
--
--   idle       ==  the row of a process that rests, with every variable 0.
--   blank      ==  what stands past a table's end: all zeros, which is at no location.
--   no_passes  ==  sixteen counts of 0.
--   with_x     ==  the row with cell x changed, the others kept.
--
-- `location` is the paper's pc, `ahead` its history set lwb (section 3.4), and `passes` of row q, at place r, its
-- history count a[q, r] (section 4.1): how often q entered while r competed. The other cells bear the paper's names.
-- Assumes nothing.
use Rattle.std.specs.Prelude.{ℕ, List, replicate}
use Rattle.machine.specs.declared.Row.{Row}

-- a row has a count for each process that there may be
abbrev pub no_passes : List ℕ
no_passes = replicate 16 0

-- a process that rests
abbrev pub idle : Row
idle =
    record { location = 10; act = 0; bb = 0; level = 0; est = 0; lis = 0; ahead = 0; turn = 0; passes = no_passes }

-- no process
abbrev pub blank : Row
blank =
    record { location = 0; act = 0; bb = 0; level = 0; est = 0; lis = 0; ahead = 0; turn = 0; passes = no_passes }

-- ---- one cell changed

abbrev pub with_location : ℕ → Row → Row
with_location v r =
    record {
      location = v;
      act = r.act;
      bb = r.bb;
      level = r.level;
      est = r.est;
      lis = r.lis;
      ahead = r.ahead;
      turn = r.turn;
      passes = r.passes;
    }

abbrev pub with_act : ℕ → Row → Row
with_act v r =
    record {
      location = r.location;
      act = v;
      bb = r.bb;
      level = r.level;
      est = r.est;
      lis = r.lis;
      ahead = r.ahead;
      turn = r.turn;
      passes = r.passes;
    }

abbrev pub with_bb : ℕ → Row → Row
with_bb v r =
    record {
      location = r.location;
      act = r.act;
      bb = v;
      level = r.level;
      est = r.est;
      lis = r.lis;
      ahead = r.ahead;
      turn = r.turn;
      passes = r.passes;
    }

abbrev pub with_level : ℕ → Row → Row
with_level v r =
    record {
      location = r.location;
      act = r.act;
      bb = r.bb;
      level = v;
      est = r.est;
      lis = r.lis;
      ahead = r.ahead;
      turn = r.turn;
      passes = r.passes;
    }

abbrev pub with_est : ℕ → Row → Row
with_est v r =
    record {
      location = r.location;
      act = r.act;
      bb = r.bb;
      level = r.level;
      est = v;
      lis = r.lis;
      ahead = r.ahead;
      turn = r.turn;
      passes = r.passes;
    }

abbrev pub with_lis : ℕ → Row → Row
with_lis v r =
    record {
      location = r.location;
      act = r.act;
      bb = r.bb;
      level = r.level;
      est = r.est;
      lis = v;
      ahead = r.ahead;
      turn = r.turn;
      passes = r.passes;
    }

abbrev pub with_ahead : ℕ → Row → Row
with_ahead v r =
    record {
      location = r.location;
      act = r.act;
      bb = r.bb;
      level = r.level;
      est = r.est;
      lis = r.lis;
      ahead = v;
      turn = r.turn;
      passes = r.passes;
    }

abbrev pub with_turn : ℕ → Row → Row
with_turn v r =
    record {
      location = r.location;
      act = r.act;
      bb = r.bb;
      level = r.level;
      est = r.est;
      lis = r.lis;
      ahead = r.ahead;
      turn = v;
      passes = r.passes;
    }

abbrev pub with_passes : List ℕ → Row → Row
with_passes v r =
    record {
      location = r.location;
      act = r.act;
      bb = r.bb;
      level = r.level;
      est = r.est;
      lis = r.lis;
      ahead = r.ahead;
      turn = r.turn;
      passes = v;
    }
