-- The census, the counts of a table (MANUAL, "Census"; `held` is A(k) of section 3.5 of the paper).
--
--   below k t    ==  how many processes compete with a level under k.
--   held k t     ==  those, and the competing processes not at 24 with fewer than k members in ahead.
--   critical t   ==  how many processes are at 30, in the critical section.
--   waiting t    ==  how many processes are at 21 to 24: they compete and are not yet in the critical section.
--   census_of t  ==  all of these, for each k from 0 to the number of processes; or 6 or 7 and no figures.
--
-- Assumes nothing.
use Rattle.std.specs.Prelude.{ℕ, Bool, cond, ◌&&◌, ◌||◌, not, List, eqb, leb, ltb, length, replicate}
use Rattle.counting.specs.Sums.{count}
use Rattle.counting.specs.Sets.{size}
use Rattle.counting.specs.Ranges.{up_to}
use Rattle.machine.specs.Refusals.{accepted}
use Rattle.machine.specs.Tables.{Table, row, table_refusal, competes}
use Rattle.machine.specs.declared.Row.{Row}
use Rattle.machine.specs.declared.Census.{Census}

-- how many processes have a row with P
abbrev pub count_rows : (Row → Bool) → Table → ℕ
count_rows P t = count (λ q. P (row t q)) (length t)

abbrev pub is_below : ℕ → Row → Bool
is_below k r = competes r && ltb r.level k

abbrev pub is_held : ℕ → Row → Bool
is_held k r = competes r && (ltb r.level k || (not (eqb r.location 24) && ltb (size r.ahead) k))

abbrev pub is_critical : Row → Bool
is_critical r = eqb r.location 30

-- in a competing period and not yet in the critical section: the period starts with entry(p), which is GO at 20, the
-- completed write of act (the paper, section 4.1)
abbrev pub is_waiting : Row → Bool
is_waiting r = leb 21 r.location && leb r.location 24

abbrev pub below : ℕ → Table → ℕ
below k t = count_rows (is_below k) t

abbrev pub held : ℕ → Table → ℕ
held k t = count_rows (is_held k) t

abbrev pub critical : Table → ℕ
critical t = count_rows is_critical t

abbrev pub waiting : Table → ℕ
waiting t = count_rows is_waiting t

-- 17 figures, of which those past the number of processes are 0
abbrev pub figures : (ℕ → Table → ℕ) → Table → List ℕ
figures f t = up_to (λ k. cond (leb k (length t)) (f k t) 0) 17

unfoldable pub census_of : Table → Census
unfolding table_refusal up_to
census_of t =
    let none : List ℕ = replicate 17 0 in
    let refused : Census = record { refusal = table_refusal t; critical = 0; waiting = 0; below = none; held = none } in
    let counted : Census =
    record {
      refusal = accepted;
      critical = critical t;
      waiting = waiting t;
      below = figures below t;
      held = figures held t;
    } in
    cond (eqb (table_refusal t) accepted) counted refused
