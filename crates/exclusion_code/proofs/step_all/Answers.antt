-- `step_all` meets its contract: what is left of the list is what the loop still gives. Assumes nothing.
use native.Mathlib.Omega.{arith}
use borrow.Author.Rules.{rules}
use Rattle.exclusion_code.proofs.ListLaws.{after_one, listed_all, listed_none}
use Rattle.exclusion_code.proofs.step_all.Goals as goal

pub loop-word-preserved : goal.loop-word-preserved
loop-word-preserved c =
    let s = c.loop-word.system in
    let one = after_one c.args.settings s.rows.now c.args.words.now c.loop-word.word-index (omega arith) in
    record { same_rows = cc; memory = cc; left = cc }

pub returns-after-loop-word : goal.returns-after-loop-word
returns-after-loop-word c =
    listed_all c.args.settings c.args.rows.now c.args.words.now c.loop-word.word-index _ c.loop-word.system.rows.now
    (omega arith) (search rules) c.loop-word.invariant.left

pub returns-in_default : goal.returns-in_default
returns-in_default c = listed_none c.args.settings c.args.rows.now c.args.words.now c.in_default.field-0 c.in_default.ensures
