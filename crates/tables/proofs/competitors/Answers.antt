-- `competitors` meets its contract: the set of the rows passed, at each turn of the loop. Assumes nothing.
use mathlib.Core.Path.{◌≡◌, ap, ◌∙◌}
use native.Mathlib.Omega.{arith}
use lib.ListN.{length}
use borrow.Author.Rules.{rules}
use Rattle.std.proofs.lemmas.List.{get_or_default}
use Rattle.counting.specs.Sums.{bit}
use Rattle.counting.specs.Sets.{set_of}
use Rattle.counting.proofs.CountLaws.{bit_le_one}
use Rattle.counting.proofs.BitLaws.{gather_fits_digit, gather_digit}
use Rattle.machine.specs.Rows.{blank}
use Rattle.machine.specs.Tables.{row, competes, competitors}
use Rattle.tables.proofs.competitors.Goals as goal

pub loop-q-init : goal.loop-q-init
unfolding set_of
loop-q-init c = search rules

pub overflow_add-s : goal.overflow_add-s
overflow_add-s c =
    let q = c.loop-q.q in
    let d = bit c.competes.result in
    record {
      fits =
          rw c.loop-q.invariant
          (gather_fits_digit _ q (omega arith) d (omega (arith, bit_le_one c.competes.result)));
    }

pub loop-q-preserved : goal.loop-q-preserved
loop-q-preserved c =
    let t = c.args.rows.now in
    let q = c.loop-q.q in
    let d = bit c.competes.result in
    let is = ap bit (c.competes.ensures ∙ ap competes (get_or_default t q _ blank (omega arith))) in
    rw c.loop-q.invariant (gather_digit (λ i. competes (row t i)) q (omega arith) d is)

pub returns : goal.returns
unfolding competitors
returns c =
    let t = c.args.rows.now in
    let e : c.loop-q.q ≡ length t = omega arith in
    c.loop-q.invariant ∙ ap (set_of (λ i. competes (row t i))) e
