-- `add` meets its contract: the counts passed have the process, at each turn of the loop. Assumes nothing.
use Rattle.std.proofs.Common.{◌≡◌, ℕ, ◌≤◌, ◌<◌, length, get_or}
use Rattle.census.specs.Series.{more_at}
use Rattle.census.proofs.add.Given as goal

abbrev pub invariant-loop-i : goal.invariant-loop-i
invariant-loop-i l =
    (length l.series ≡ 16)
    × ((k : ℕ) → k < l.i → get_or l.series k 0 ≡ more_at l.initial.series l.from k)
    × ((k : ℕ) → l.i ≤ k → get_or l.series k 0 ≡ get_or l.initial.series k 0)
