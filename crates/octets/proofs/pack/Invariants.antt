-- `octets::pack` meets its contract. The invariant of its loop: the bytes of the first i words stand at the start.
-- Assumes nothing.
use mathlib.Core.Path.{◌≡◌}
use mathlib.Core.List.{List}
use Prim.Native.Nat.{ℕ}
use lib.ListN.{take}
use Rattle.machine.specs.Bytes.{bytes_of}
use Rattle.counting.specs.Placing.{placed}
use Rattle.octets.proofs.pack.Given as goal

-- the bytes after i words
abbrev pub after : List ℕ → List ℕ → ℕ → List ℕ
after words bytes i = placed bytes 0 (bytes_of (take i words))

abbrev pub invariant-loop-i : goal.invariant-loop-i
invariant-loop-i l = l.bytes ≡ after l.words l.initial.bytes l.i
