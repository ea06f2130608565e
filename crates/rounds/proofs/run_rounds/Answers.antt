-- `run_rounds` meets its contract. Assumes nothing.
use mathlib.Core.Path.{refl, ap, sym, ◌∙◌}
use native.Mathlib.Omega.{arith}
use Rattle.machine.specs.Tables.{table_refusal}
use Rattle.machine.proofs.BrokenRounds.{round_on_sound}
use Rattle.tables.proofs.RefusalLaws.{number_some}
use Rattle.rounds.proofs.RoundLaws.{from_occupied, from_turn, from_cut, from_limit, ends, some_is, none_is}
use Rattle.rounds.proofs.run_rounds.Goals as goal

-- somebody is at 30
pub returns-then-occupied : goal.returns-then-occupied
returns-then-occupied c =
    let at = c.loop-r in
    let v = at.invariant in
    let there = sym c.if-occupied.true ∙ v.seen in
    ends (v.goes_on ∙ from_occupied _ at.r at.rows there) (rw (sym there) c.answer.ensures) refl

-- a word of the round is refused
pub returns-in-Err : goal.returns-in-Err
returns-in-Err c =
    let at = c.loop-r in
    let v = at.invariant in
    let e = c.in-Err.refusal in
    let why = c.into.ensures in
    let m = c.in-Err.ensures in
    let nobody = none_is _ (sym v.seen ∙ c.if-occupied.false) in
    let at-30 = some_is c.critical.ensures in
    let cut = from_cut _ at.r at.rows c.loop-r-test.true nobody (why ∙ m.refusal_is)
    (λ z. number_some e (sym why ∙ z)) m.becomes in
    ends (v.goes_on ∙ cut) (rw at-30 at c.answer-in-Err.ensures) refl

pub loop-r-preserved : goal.loop-r-preserved
loop-r-preserved c =
    let at = c.loop-r in
    let v = at.invariant in
    let m = c.in-Ok.ensures in
    let nobody = none_is _ (sym v.seen ∙ c.if-occupied.false) in
    record {
      sound = ap table_refusal m.becomes ∙ round_on_sound at.rows 0 _ v.sound;
      seen = m.told;
      goes_on = v.goes_on ∙ from_turn _ at.r at.rows c.loop-r-test.true nobody (sym m.refusal_is) m.becomes;
    }

-- the limit is used up
pub returns : goal.returns
returns c =
    let at = c.loop-r in
    let v = at.invariant in
    let n = c.round_limit-limit.result in
    ends (v.goes_on ∙ from_limit n at.r at.rows (omega (arith, at.auto.r-end, c.loop-r-test.false)))
    (rw v.seen at c.answer-2.ensures) refl
