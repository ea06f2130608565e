-- What the code reads at a process: its row. Assumes nothing.
use Prim.Native.Nat.{ℕ, ◌<◌}
use mathlib.Core.Path.{◌≡◌}
use mathlib.Core.List.{[]}
use lib.ListN.{length, get_or}
use Rattle.std.proofs.lemmas.List.{get_or_default}
use Rattle.machine.specs.Rows.{blank}
use Rattle.machine.specs.Tables.{Table, row}
use Rattle.machine.specs.declared.Row.{Row}
use Rattle.steps.specs.Moves.{Ready, At}

-- the row at p, and a row of no counts past the end
abbrev pub read : Table → ℕ → Row
read x p =
    get_or x p
    (record { location = 0; act = 0; bb = 0; level = 0; est = 0; lis = 0; ahead = 0; turn = 0; passes = [] })

pub read_row : (x : Table) (p : ℕ) → p < length x → read x p ≡ row x p
read_row x p l = get_or_default x p _ blank l

-- a process that can move is at the location that is read
pub read_at : (x : Table) (p l : ℕ) → Ready x p → (read x p).location ≡ l → At x p l
read_at x p l ready e =
    let own = read_row x p ready.one in
    record { ready = ready; there = rw own at e }
