-- What a step does to the rows, turn cells apart: one function of the step for the row of its process, one for an ahead
-- set of any other row. So what a step keeps of the rows is proved by a short case for each of its alternatives.
--
--   step_row t p x       ==  the row of p after step x.
--   step_ahead t p x s   ==  what becomes of s, the ahead set of another row: p leaves it where x is `exits`.
--   step_other t p x r   ==  so what becomes of r, the row of another process.
--   step_becomes            these are the rows after a step of a table whose levels are below its length
--   step_keeps-rows         so what holds of the row of p and of the other rows so changed holds of each row
--
-- Assumes nothing.
use Prim.Native.Nat.{ℕ, ◌-◌, ◌<◌}
use mathlib.Core.Path.{◌≡◌, refl, ap₂}
use mathlib.Core.List.{List}
use native.Mathlib.Omega.{arith}
use lib.ListN.{length, set}
use Rattle.counting.specs.Sets.{size, without, others}
use Rattle.counting.proofs.SetLaws.{has_zero, without_none}
use Rattle.machine.specs.Rows.{blank, with_location, with_act, with_bb, with_level, with_est, with_lis, with_ahead}
use Rattle.machine.specs.Rows.{with_passes}
use Rattle.machine.specs.Tables.{Table, row}
use Rattle.machine.specs.System.{Cp, incremented, exited, Step}
use Rattle.machine.specs.System.Step.{rests, comes, flickers_20, enters, starts_scan, wins, discards, keeps}
use Rattle.machine.specs.System.Step.{ends_scan, lowers, to_push, waits, skips, flickers_24, pushes, exits}
use Rattle.machine.specs.System.Step.{flickers_40, leaves, cancels}
use Rattle.machine.specs.declared.Row.{Row}
use Rattle.machine.proofs.Assignments.{bare, Becomes, set_becomes, turn_becomes, turn_set_becomes, map_becomes}
use Rattle.machine.proofs.Assignments.{other_rows_keep}
use Rattle.machine.proofs.PassLaws.{none_cleared}

-- ---- the rows after some of the alternatives

abbrev pub entered_row : Table → ℕ → Row
entered_row t p =
    with_location 21
    (with_est (others (length t) p)
    (with_level (length t - 1)
    (with_act 1 (with_ahead (Cp t) (with_passes (incremented (Cp t) (row t p).passes) (row t p))))))

-- to 21 with level v and bb 0
abbrev pub lowered_row : ℕ → Row → Row
lowered_row v r = with_location 21 (with_bb 0 (with_level v r))

abbrev pub pushed_row : Table → ℕ → Row → Row
pushed_row t p r = with_location 21 (with_ahead (without (Cp t) p) (with_est (others (length t) p) (with_bb 1 r)))

-- ---- the rows after each of them

module _ (t : Table) (p : ℕ) where
  abbrev pub step_row : {u : Table} → Step t p u → Row
  step_row (rests e) = row t p
  step_row (comes e) = with_location 20 (row t p)
  step_row (flickers_20 a e h) = with_act a (row t p)
  step_row (enters e) = entered_row t p
  step_row (starts_scan e h) = with_location 22 (with_lis (row t p).est (row t p))
  step_row (wins e h) = with_location 30 (row t p)
  step_row (discards q e h a) = with_est (without (row t p).est q) (with_lis (without (row t p).lis q) (row t p))
  step_row (keeps q e h a) = with_lis (without (row t p).lis q) (row t p)
  step_row (ends_scan e h) = with_location 23 (row t p)
  step_row (lowers e h) = lowered_row (size (row t p).est) (row t p)
  step_row (to_push e h b) = with_location 24 (row t p)
  step_row (waits e h b v) = lowered_row ((row t p).level - 1) (row t p)
  step_row (skips e h b v) = with_location 21 (row t p)
  step_row (flickers_24 a e h) = row t p
  step_row (pushes e) = pushed_row t p (row t p)
  step_row (exits e) = with_location 40 (exited p (row t p))
  step_row (flickers_40 a e h) = with_act a (row t p)
  step_row (leaves e) = with_location 10 (with_act 0 (row t p))
  step_row (cancels e) = with_location 40 (row t p)

  abbrev pub step_ahead : {u : Table} → Step t p u → ℕ → ℕ
  step_ahead (rests e) s = s
  step_ahead (comes e) s = s
  step_ahead (flickers_20 a e h) s = s
  step_ahead (enters e) s = s
  step_ahead (starts_scan e h) s = s
  step_ahead (wins e h) s = s
  step_ahead (discards q e h a) s = s
  step_ahead (keeps q e h a) s = s
  step_ahead (ends_scan e h) s = s
  step_ahead (lowers e h) s = s
  step_ahead (to_push e h b) s = s
  step_ahead (waits e h b v) s = s
  step_ahead (skips e h b v) s = s
  step_ahead (flickers_24 a e h) s = s
  step_ahead (pushes e) s = s
  step_ahead (exits e) s = without s p
  step_ahead (flickers_40 a e h) s = s
  step_ahead (leaves e) s = s
  step_ahead (cancels e) s = s

  abbrev pub step_passes : {u : Table} → Step t p u → List ℕ → List ℕ
  step_passes (rests e) l = l
  step_passes (comes e) l = l
  step_passes (flickers_20 a e h) l = l
  step_passes (enters e) l = l
  step_passes (starts_scan e h) l = l
  step_passes (wins e h) l = l
  step_passes (discards q e h a) l = l
  step_passes (keeps q e h a) l = l
  step_passes (ends_scan e h) l = l
  step_passes (lowers e h) l = l
  step_passes (to_push e h b) l = l
  step_passes (waits e h b v) l = l
  step_passes (skips e h b v) l = l
  step_passes (flickers_24 a e h) l = l
  step_passes (pushes e) l = l
  step_passes (exits e) l = set l p 0
  step_passes (flickers_40 a e h) l = l
  step_passes (leaves e) l = l
  step_passes (cancels e) l = l

  abbrev pub step_other : {u : Table} → Step t p u → Row → Row
  step_other x r = with_ahead (step_ahead x r.ahead) (with_passes (step_passes x r.passes) r)

  module _ (l : p < length t) (i : (row t p).level < length t) where
    pub step_becomes : {u : Table} (x : Step t p u) → Becomes t p (step_other x) (step_row x) u
    step_becomes (rests e) = record { same_size = refl; own = refl; other = λ q ne. refl }
    step_becomes (comes e) = set_becomes t p l _
    step_becomes (flickers_20 a e h) = set_becomes t p l _
    step_becomes (enters e) = set_becomes t p l _
    step_becomes (starts_scan e h) = set_becomes t p l _
    step_becomes (wins e h) = set_becomes t p l _
    step_becomes (discards q e h a) = set_becomes t p l _
    step_becomes (keeps q e h a) = set_becomes t p l _
    step_becomes (ends_scan e h) = set_becomes t p l _
    step_becomes (lowers e h) = set_becomes t p l _
    step_becomes (to_push e h b) = set_becomes t p l _
    step_becomes (waits e h b v) = set_becomes t p l _
    step_becomes (skips e h b v) = set_becomes t p l _
    step_becomes (flickers_24 a e h) = turn_becomes t (row t p).level a i p
    step_becomes (pushes e) =
        turn_set_becomes t (row t p).level p i p l (pushed_row t p) (λ r. refl) (λ r. refl)
    step_becomes (exits e) =
        map_becomes t p (exited p) (with_location 40) l
        (ap₂ (λ (s : ℕ) (l : List ℕ). with_ahead s (with_passes l blank))
        (without_none 0 p (omega arith) (has_zero p)) (none_cleared p))
    step_becomes (flickers_40 a e h) = set_becomes t p l _
    step_becomes (leaves e) = set_becomes t p l _
    step_becomes (cancels e) = set_becomes t p l _

    -- P speaks of no turn cell, so that P q (bare r) is P q r
    pub step_keeps-rows : {u : Table} (P : ℕ → Row → Type 0) (x : Step t p u)
        → P p (bare (step_row x))
        → ((q : ℕ) → (q ≡ p → ⊥) → P q (bare (step_other x (row t q))))
        → (q : ℕ) → P q (bare (row u q))
    step_keeps-rows P x own other = other_rows_keep P (step_becomes x) own other
