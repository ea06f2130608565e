-- `print`: what is written is within the buffer. No contract can say what a program writes. Assumes nothing.
use Rattle.std.proofs.Common.{arith, ℕ, ◌≤◌, sym, subst}
use Rattle.std.proofs.lemmas.List.{length-take-le}
use Rattle.text.specs.Printing.{text_room}
use Rattle.text.proofs.TextFits.{answer_fits}
use Rattle.replay.proofs.print.Goals as goal

-- the text is within the buffer
pub slice_bounds-out-end : goal.slice_bounds-out-end
slice_bounds-out-end g c =
    let p = c.print_run-length in
    let fits = subst (λ (n : ℕ). n ≤ text_room) (sym p.ensures.0) (answer_fits _ _) in
    omega (arith, fits, p.auto.out)

pub slice_bounds-write_all-end : goal.slice_bounds-write_all-end
slice_bounds-write_all-end g c =
    let p = c.print_run-length in
    let fits = subst (λ (n : ℕ). n ≤ text_room) (sym p.ensures.0) (answer_fits _ _) in
    sym (length-take-le p.result p.new.out (omega (arith, fits, p.auto.out)))
