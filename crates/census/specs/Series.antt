-- What the functions inside this crate promise: the figures of all k counted in one pass over the rows (the census
-- itself promises `census_of` of machine/specs/Census). A series is 16 counts, of which count i is figure i + 1: how
-- many processes have a threshold of i or less.
--
--   is_at low high r  <=>  a row is at the locations from `low` to `high`.
--   below_from r      ==   a row's threshold for `below`: figure k counts it where k is above that.
--   held_from r       ==   the same for `held`.
--   Near i from       <=>  numbers that the code compares by arithmetic.
--   Small a v         <=>  no count of the series is above 16, nor is the number v.
--   one_over a from   ==   the series with one process more, whose threshold is `from`.
--   figures_in n a    ==   the figures of a table of n processes: figure 0 and those past n are 0.
--
-- Assumes nothing.
use Rattle.std.specs.Prelude.{ℕ, ◌+◌, ◌≤◌, ◌<◌, Bool, cond, ◌&&◌, not, List, ◌∷◌, eqb, leb, ltb, get_or}
use Rattle.counting.specs.Sums.{bit}
use Rattle.counting.specs.Sets.{size}
use Rattle.counting.specs.Ranges.{up_to}
use Rattle.machine.specs.Tables.{competes}
use Rattle.machine.specs.declared.Row.{Row}

abbrev pub is_at : ℕ → ℕ → Row → Bool
is_at low high r = leb low r.location && leb r.location high

-- the level where it competes, else 16, which no k of a table is above
abbrev pub below_from : Row → ℕ
below_from r = cond (competes r) r.level 16

-- the lesser of its level and, elsewhere than at 24, the size of its ahead where it competes, else 16
abbrev pub held_from : Row → ℕ
held_from r =
    let members : ℕ = size r.ahead in
    cond (competes r) (cond (not (eqb r.location 24) && ltb members r.level) members r.level) 16

abbrev pub Near : ℕ → ℕ → Type 0
Near i from = (from ≤ 16) × (i < from + 16)

abbrev pub Small : List ℕ → ℕ → Type 0
Small a v = (v ≤ 16) × ((i : ℕ) → i < 16 → get_or a i 0 ≤ 16)

-- count i of the series with one process more
abbrev pub more_at : List ℕ → ℕ → ℕ → ℕ
more_at a from i = get_or a i 0 + bit (leb from i)

abbrev pub one_over : List ℕ → ℕ → List ℕ
one_over a from = up_to (more_at a from) 16

-- figure k of a table of n processes
abbrev pub figure_at : ℕ → List ℕ → ℕ → ℕ
figure_at n a k = cond (leb k n) (get_or (0 ∷ a) k 0) 0

abbrev pub figures_in : ℕ → List ℕ → List ℕ
figures_in n a = up_to (figure_at n a) 17
