-- `masks::fitting` meets its contract: the loop marks each location that has the property. Assumes nothing.
use Prim.Native.Nat.{◌*◌, ◌^◌, ◌≤◌}
use mathlib.Core.Path.{◌≡◌}
use Rattle.machine.specs.Tables.{level_fits}
use Rattle.rows.specs.Masks.{marks_to}
use Rattle.rows.proofs.masks.fitting.Given as goal

abbrev pub invariant-loop-code : goal.invariant-loop-code
invariant-loop-code l = record { marked : l.mask ≡ marks_to (λ x. level_fits x l.level) l.code; low : l.mask ≤ l.code * 2 ^ 40 }
