-- `text::print_run` meets its contract. Assumes nothing.
use Rattle.std.proofs.Common.{arith, rules, ap, ◌∙◌, length, ℕ, List}
use Rattle.text.proofs.PrintLaws.{opened_fits, short_print, whole_print}
use Rattle.text.proofs.print_run.Goals.{then-out-lt-TEXT_BYTES+else-out-length, else-out-lt-TEXT_BYTES}
use Rattle.text.proofs.print_run.Goals as goal

pub put_text-requires-clause-room : goal.put_text-requires-clause-room
put_text-requires-clause-room c =
    let o = c.open_input-opened in omega (arith, opened_fits c.args.input.now o.new.rows o.result o.ensures.shows)

pub returns-then-out-length : goal.returns-then-out-length
returns-then-out-length c =
    let o = c.open_input-opened in
    short_print c.args.input.now o.new.rows o.result o.ensures.shows c.args.out.now
    (c.bytes-length.ensures ∙ c.put_text.ensures.count_is ∙ omega arith) c.if-out-length.true

pub print_on-requires-clause-room : goal.print_on-requires-clause-room
print_on-requires-clause-room c =
    let o = c.open_input-opened in
    let fits = opened_fits c.args.input.now o.new.rows o.result o.ensures.shows in
    let page = ap (λ (l : List ℕ). length l) c.new-page.ensures.bytes in
    elim c.if-out-lt-TEXT_BYTES.branch [
      | then-out-lt-TEXT_BYTES+else-out-length w ↦
          omega (arith, page, w.bytes-length.ensures, w.put_text.ensures.count_is, w.if-out-length.false, c.new-page.ensures.filled)
      | else-out-lt-TEXT_BYTES w ↦ omega (arith, page, fits, w.if-out-lt-TEXT_BYTES.false, c.new-page.ensures.filled)
    ]

pub returns : goal.returns
returns c =
    let o = c.open_input-opened in
    let done =
    whole_print c.args.input.now o.new.rows o.result o.ensures.shows c.args.out.now
    c.new-page.ensures.bytes c.new-page.ensures.filled c.print_on.ensures.written in
    (c.filled.ensures ∙ done.0, (search rules) ∙ done.1)
