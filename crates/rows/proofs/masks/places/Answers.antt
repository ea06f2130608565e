-- `masks::places` meets its contract: ALLOWED says what `allowed` says. Assumes nothing.
use Prim.Native.Nat.{◌<◌}
use native.Mathlib.Omega.{arith}
use lib.ListN.{get_or}
use Rattle.counting.proofs.TestLaws.{every}
use Rattle.machine.specs.Tables.{locations}
use Rattle.machine.specs.Words.{kind_number}
use Rattle.machine.specs.Steps.{allowed}
use Rattle.rows.specs.Masks.{allowed_at}
use Rattle.rows.proofs.MaskLaws.{next_marked, mark_low, right, says_kind}
use Rattle.rows.proofs.masks.places.Goals as goal

pub loop-code-preserved : goal.loop-code-preserved
unfolding right every allowed allowed_at
loop-code-preserved c =
    let i = c.loop-code.code in
    let rule = allowed_at (kind_number c.args.kind) in
    let h : i < 8 = c.loop-code-test.true in
    let e = rw says_kind at c.mark-mask.ensures in
    record {
      marked = omega (arith, next_marked rule i);
      low = omega (arith, mark_low i (rule (get_or locations i 0)) h);
    }
