-- A fresh table as it is handed back. Assumes nothing.
use Prim.Native.Nat.{ℕ}
use mathlib.Core.Path.{◌≡◌, refl}
use mathlib.Core.List.{List, ◌++◌}
use lib.ListN.{drop, replicate, length-replicate}
use Rattle.std.specs.Prelude.{cond, Ok}
use Rattle.std.proofs.lemmas.List.{drop-replicate}
use Rattle.machine.specs.Refusals.{accepted, wrong_size}
use Rattle.machine.specs.Rows.{idle, blank}
use Rattle.machine.specs.Tables.{size_fits, fresh_table, handed_in, made_fresh}
use Rattle.machine.specs.declared.Row.{Row}
use Rattle.tables.proofs.RefusalLaws.{size_taken}

-- idle rows put before blank ones up to 16
pub made_table : (n : ℕ) (first : List Row)
    → accepted ≡ cond (size_fits n) accepted wrong_size
    → first ≡ fresh_table n
    → handed_in (Ok (record { size = n; rows = first ++ drop n (replicate 16 blank) })) ≡ made_fresh n
made_table n first h is =
    let count = length-replicate n idle in
    let rest = drop-replicate n 16 blank in
    rw (size_taken _ h, is, rest, count) refl
