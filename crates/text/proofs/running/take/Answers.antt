-- `text::running::take` meets its contract. Assumes nothing.
use Rattle.std.proofs.Common.{refl, ap, ◌∙◌, ◌≡◌, rules}
use Rattle.std.specs.Prelude.{Err}
use Rattle.machine.specs.Tables.{Table, row}
use Rattle.text.proofs.RunLaws.{weak_table, weak_refused, weak_taken, may_carry}
use Rattle.text.proofs.running.take.Goals as goal

pub returns-in_err-told : goal.returns-in_err-told
returns-in_err-told c =
    let x = c.args.system.now in
    let is : c.from_residual.result ≡ Err c.in_err-told.field-0.0 = search rules in
    rw is (record {
      same_memory = c.advance.ensures.memory;
      answer_is =
          weak_refused c.requires.weak x.rows.now c.args.word _ c.args.place c.in_err-told.ensures.step.answer_is;
      becomes = c.advance.ensures.step.becomes ∙ weak_table c.requires.weak x.rows.now c.args.word;
    })

pub carried-requires : goal.carried-requires
carried-requires c =
    let x = c.args.system.now in
    may_carry c.requires.weak x.rows.now c.args.word _ c.in_ok-told.ensures.step.answer_is c.requires.inside_is x.sound

pub returns : goal.returns
returns c =
    let x = c.args.system.now in
    let p = c.process_of-process.result in
    let before = c.location_at-from.ensures ∙ ap (λ (t : Table). (row t p).location) c.rows.ensures in
    let after = c.location_at.ensures ∙ ap (λ (t : Table). (row t p).location) c.rows-2.ensures in
    record {
      same_memory = c.advance.ensures.memory;
      answer_is =
          weak_taken c.requires.weak x.rows.now c.args.word _ c.in_ok-told.ensures.step.answer_is _
          c.requires.inside_is c.advance.ensures.step.becomes c.process_of-process.ensures before after
          c.carried.ensures refl;
      becomes = c.advance.ensures.step.becomes ∙ weak_table c.requires.weak x.rows.now c.args.word;
    }
