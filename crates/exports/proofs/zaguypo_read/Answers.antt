-- `zaguypo_read` meets its contract: the answer to the image, and then to the lent rows. Assumes nothing.
use mathlib.Core.Path.{◌≡◌, refl, sym, ◌∙◌}
use mathlib.Core.List.{List}
use Prim.Native.Nat.{ℕ, ◌≤◌}
use lib.ListN.{length}
use lib.Seq.{length-take-le}
use native.Mathlib.Omega.{arith}
use Rattle.std.specs.Prelude.{Ok}
use Rattle.machine.specs.Tables.{Table}
use Rattle.images.specs.Answers.{ReadInto}
use Rattle.images.proofs.ReadingLaws.{loaded}
use Rattle.exports.proofs.ExportLaws.{read_all, read_short, read_error}
use Rattle.exports.proofs.zaguypo_read.Goals as goal

-- ---- a table

-- it is in the first n of the 16 rows
within : (ws : List ℕ) (x y : Table) (n : ℕ) → ReadInto ws x y (Ok n) → length y ≡ 16 → n ≤ length y
within ws x y n read count = omega (arith, (loaded ws x y n read).few)

pub slice_bounds-table-end : goal.slice_bounds-table-end
slice_bounds-table-end c = within _ _ _ c.in-Ok.size c.in-Ok.ensures c.read_cells.auto.rows

pub slice_bounds-copy_from_slice-end-in-Ok-2 : goal.slice_bounds-copy_from_slice-end-in-Ok-2
slice_bounds-copy_from_slice-end-in-Ok-2 c =
    sym (length-take-le c.in-Ok.size _ (within _ _ _ c.in-Ok.size c.in-Ok.ensures c.read_cells.auto.rows))

pub copy_from_slice-requires : goal.copy_from_slice-requires
copy_from_slice-requires c =
    let n = c.in-Ok.size in
    length-take-le n _ c.if-size-rows.true
    ∙ sym (length-take-le n _ (within _ _ _ n c.in-Ok.ensures c.read_cells.auto.rows))

pub returns-in-Ok : goal.returns-in-Ok
returns-in-Ok c =
    let table = loaded _ _ _ c.in-Ok.size c.in-Ok.ensures in
    rw (read_all c.args.words.now c.args.rows.now _ _ table c.if-size-rows.true)
    (refl, rw c.copy_from_slice.ensures.after refl)

-- ---- a refusal

pub returns-in-Ok-2 : goal.returns-in-Ok-2
returns-in-Ok-2 c =
    let table = loaded _ _ _ c.in-Ok.size c.in-Ok.ensures in
    rw (read_short c.args.words.now c.args.rows.now _ _ table c.if-size-rows.false, c.into.ensures) (refl, refl)

pub returns-in-Err : goal.returns-in-Err
returns-in-Err c =
    let e = c.in-Err.error in
    rw (read_error c.args.words.now c.args.rows.now e c.in-Err.ensures.found_is, c.into-in-Err.ensures) (refl, refl)
