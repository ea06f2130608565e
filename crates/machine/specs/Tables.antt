-- Tables: the states of the system (MANUAL, "Tables" and "The functions of the crates"; the paper, section 3.2).
--
--   row t q        ==   the row of process q; blank past the end.
--   sound t        <=>  2 to 16 rows, each within its ranges: a well-formed state.
--   table_refusal t ==   the first of 6 and 7 that applies, or 0.
--   fresh t        <=>  sound, and every process at 10 with act 0, bb 0, ahead empty and counts 0: an initial state.
--   fresh_table n   ==   the fresh table of n processes in which everything else is 0 too.
--   handed ..      ==   a refusal, a place and a table as they are handed back by value; made_fresh n is a fresh one so.
--   handed_in r    ==   what an answer of the code hands back.
--   competes r     <=>  at locations 21 to 30; competitors t is the set of those that compete, the paper's Cp.
--
-- Assumes nothing.
use Rattle.std.specs.Prelude.{ℕ, suc, ◌-◌, ◌^◌, Bool, true, false, cond, ◌&&◌, ◌||◌, not, List, [], ◌∷◌, ◌++◌, eqb}
use Rattle.std.specs.Prelude.{leb, ltb, length, get_or, replicate, Result, Ok, Err}
use Rattle.counting.specs.Ranges.{every}
use Rattle.counting.specs.Sets.{set_of}
use Rattle.machine.specs.Refusals.{accepted, wrong_size, unsound_row, number}
use Rattle.machine.specs.Rows.{idle, blank}
use Rattle.machine.specs.declared.Row.{Row}
use Rattle.machine.specs.declared.Refusal.{Refusal}
use Rattle.machine.specs.declared.NewTable.{NewTable}

-- row q for process q
abbrev pub Table : Type 0
Table = List Row

-- the row of process q
abbrev pub row : Table → ℕ → Row
row t q = get_or t q blank

-- whether x is in a list
abbrev pub one_of : ℕ → List ℕ → Bool
one_of x [] = false
one_of x (v ∷ vs) = eqb x v || one_of x vs

-- the eight locations in rising order
abbrev pub locations : List ℕ
locations = 10 ∷ 20 ∷ 21 ∷ 22 ∷ 23 ∷ 24 ∷ 30 ∷ 40 ∷ []

-- ---- sound

-- locations 22, 23 and 24 have a level above 0, and location 30 has level 0
abbrev pub level_fits : ℕ → ℕ → Bool
level_fits l v = (not (leb 22 l && leb l 24) || ltb 0 v) && (not (eqb l 30) || eqb v 0)

-- the largest count of passes
abbrev pub count_limit : ℕ
count_limit = 65535

-- the count over process i is in range in row q of a table of n processes: 0 for i = q and for i not below n
abbrev pub sound_count : ℕ → ℕ → List ℕ → ℕ → Bool
sound_count n q l i = leb (get_or l i 0) count_limit && (eqb (get_or l i 0) 0 || (ltb i n && not (eqb i q)))

-- sixteen counts, each in range
unfoldable pub sound_passes : ℕ → ℕ → List ℕ → Bool
unfolding every
sound_passes n q l = eqb (length l) 16 && every (sound_count n q l) 16

-- row q of a table of n processes is within its ranges; no set has a bit at or above n, and row 0 holds turn 0
abbrev pub sound_row : ℕ → ℕ → Row → Bool
sound_row n q r =
    one_of r.location locations && ltb r.act 2 && ltb r.bb 2 && ltb r.level n
    && ltb r.est (2 ^ n) && ltb r.lis (2 ^ n) && ltb r.ahead (2 ^ n)
    && ltb r.turn n && (not (eqb q 0) || eqb r.turn 0)
    && level_fits r.location r.level
    && sound_passes n q r.passes

-- the rows from row q on are sound
unfoldable pub sound_from : ℕ → ℕ → Table → Bool
unfolding sound_passes
sound_from n q [] = true
sound_from n q (r ∷ t) = sound_row n q r && sound_from n (suc q) t

-- a table has 2 to 16 rows
abbrev pub size_fits : ℕ → Bool
size_fits n = leb 2 n && leb n 16

-- a well-formed table
unfoldable pub sound : Table → Bool
unfolding sound_from
sound t = size_fits (length t) && sound_from (length t) 0 t

-- 0, or the first refusal of a table
unfoldable pub table_refusal : Table → ℕ
unfolding sound_from
table_refusal t =
    cond (not (size_fits (length t))) wrong_size
    (cond (not (sound_from (length t) 0 t)) unsound_row accepted)

-- ---- fresh

-- each of sixteen counts is 0
unfoldable pub clear : List ℕ → Bool
unfolding every
clear l = every (λ i. eqb (get_or l i 0) 0) 16

-- at 10 with act 0, bb 0, ahead empty and every count 0
abbrev pub resting : Row → Bool
resting r =
    eqb r.location 10 && eqb r.act 0 && eqb r.bb 0 && eqb r.ahead 0 && clear r.passes

unfoldable pub all_resting : Table → Bool
unfolding clear
all_resting [] = true
all_resting (r ∷ t) = resting r && all_resting t

-- an initial table; level, est, lis and turn may be anything sound
unfoldable pub fresh : Table → Bool
unfolding sound all_resting
fresh t = sound t && all_resting t

-- the fresh table that is made for n processes
abbrev pub fresh_table : ℕ → Table
fresh_table n = replicate n idle

-- a refusal, its place and a table handed back by value: the table is the first `size` rows
pub record Handed : Type 0 where
  pub refusal : ℕ
  pub place : ℕ
  pub size : ℕ
  pub rows : List Row

-- a refusal with its place and a table as they are handed back; the rows past the table's end are blank
abbrev pub handed : ℕ → ℕ → Table → Handed
handed refusal place t =
    record { refusal = refusal; place = place; size = length t; rows = t ++ replicate (16 - length t) blank }

-- the making of a fresh table: 6 and no table for n outside 2 to 16
abbrev pub made_fresh : ℕ → Handed
made_fresh n = cond (size_fits n) (handed accepted 0 (fresh_table n)) (handed wrong_size 0 [])

-- a table, or a refusal and no table
abbrev pub handed_in : Result NewTable Refusal → Handed
handed_in (Ok t) = record { refusal = accepted; place = 0; size = t.size; rows = t.rows }
handed_in (Err e) = handed (number e) 0 []

-- ---- competing

-- at locations 21 to 30
abbrev pub competes : Row → Bool
competes r = leb 21 r.location && leb r.location 30

-- the set of the processes that compete
unfoldable pub competitors : Table → ℕ
unfolding set_of
competitors t = set_of (λ q. competes (row t q)) (length t)
