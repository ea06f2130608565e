-- No smaller bound than that of Theorems.antt would do, since it is attained (MANUAL, "Rounds"). Assumes nothing.
use Prim.Native.Nat.{ℕ, ◌≤◌}
use mathlib.Core.Path.{◌≡◌}
use mathlib.Core.Bool.{true}
use mathlib.Core.List.{List}
use lib.ListN.{length}
use Rattle.machine.specs.Tables.{Table, fresh}
use Rattle.machine.specs.Steps.{after_words}
use Rattle.machine.specs.Census.{critical}
use Rattle.machine.specs.Rounds.{rounds, Unbroken, Silent, silence_bound, all_coming}
use Rattle.silence.proofs.FrontEnds.{first_least}
use Rattle.silence.proofs.ExactTheorems.{silence_attained, silence_there, silence_unbroken}

-- So no smaller bound would do: a number of rounds that is enough after every list of words, from one fresh table, is
-- at least `silence_bound`, even if it is asked to be enough only where the first round is unbroken.
-- Excludes: a sharper bound, at whatever number of processes, from whatever fresh table.
-- Not empty: as above; `silence_bound` itself is such a number, by `silence_ends` in Theorems.antt.
pub silence_least : (t : Table) (b : ℕ)
    → fresh t ≡ true
    → ((ws : List ℕ)
    → Silent (after_words t ws)
    → Unbroken (after_words t ws)
    → (r : ℕ) × (r ≤ b) × (1 ≤ critical (rounds r (after_words t ws))))
    → silence_bound (length t) ≤ b
silence_least t b h enough =
    first_least (silence_bound (length t)) b (after_words t (all_coming (length t)))
    (silence_attained t h)
    (enough (all_coming (length t)) (silence_there t h) (silence_unbroken t h))
