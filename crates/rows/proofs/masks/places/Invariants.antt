-- `masks::places` meets its contract: the loop marks each location that has the property. Assumes nothing.
use Prim.Native.Nat.{◌*◌, ◌^◌, ◌≤◌}
use mathlib.Core.Path.{◌≡◌}
use Rattle.machine.specs.Words.{kind_number}
use Rattle.rows.specs.Masks.{allowed_at, marks_to}
use Rattle.rows.proofs.masks.places.Given as goal

abbrev pub invariant-loop-code : goal.invariant-loop-code
invariant-loop-code l = record { marked : l.mask ≡ marks_to (allowed_at (kind_number l.kind)) l.code; low : l.mask ≤ l.code * 2 ^ 40 }
