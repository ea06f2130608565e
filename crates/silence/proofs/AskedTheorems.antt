-- The theorem of Theorems.antt with the limit of the engine (MANUAL, "Rounds"). Assumes nothing.
use Prim.Native.Nat.{ℕ, ◌+◌, ◌*◌, ◌≤◌}
use mathlib.Core.Path.{◌≡◌}
use mathlib.Core.Bool.{true}
use mathlib.Core.List.{List}
use lib.ListN.{length}
use Rattle.machine.specs.Tables.{Table, fresh}
use Rattle.machine.specs.Steps.{after_words}
use Rattle.machine.specs.Census.{critical}
use Rattle.machine.specs.Rounds.{rounds, Silent, Unbroken, round_limit, silence_bound}
use Rattle.silence.proofs.ArrivalLaws.{arrives_mono}
use Rattle.silence.proofs.PhaseLaws.{bound_fits}
use Rattle.silence.proofs.Theorems.{silence_ends}

-- The same with the limit of the engine, 4 n n (n + 3), which is `round_limit`: it is not used up without an arrival.
-- Excludes: as above; and a limit that is below the longest silence.
-- Not empty: as above.
pub silence_ends_as_asked : (t : Table) (ws : List ℕ)
    → fresh t ≡ true
    → Silent (after_words t ws)
    → Unbroken (after_words t ws)
    → (r : ℕ) × (r ≤ 4 * length t * length t * (length t + 3)) × (1 ≤ critical (rounds r (after_words t ws)))
silence_ends_as_asked t ws h s whole =
    arrives_mono (after_words t ws) (silence_bound (length t)) (round_limit (length t)) (bound_fits (length t))
    (silence_ends t ws h s whole)
