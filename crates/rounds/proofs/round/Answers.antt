-- `round` meets its contract. Assumes nothing.
use Prim.Native.Nat.{ℕ, ◌<◌}
use mathlib.Core.Path.{◌≡◌, ap, sym, ◌∙◌}
use native.Mathlib.Omega.{arith}
use lib.ListN.{length}
use borrow.Author.Rules.{rules}
use Rattle.std.specs.Prelude.{Ok, Err}
use Rattle.machine.specs.Tables.{table_refusal}
use Rattle.machine.specs.Rounds.{round_on}
use Rattle.machine.proofs.Soundness.{word_keeps_sound}
use Rattle.tables.proofs.RefusalLaws.{number_some}
use Rattle.rounds.proofs.RoundLaws.{on_next, on_end, on_stop, goes_round, none_yet, one_more, whole}
use Rattle.rounds.proofs.round.Goals as goal

pub loop-p-init : goal.loop-p-init
loop-p-init c =
    let x = c.args.rows.now in
    record { sound = c.requires; goes_on = ap (round_on x 0) (omega arith); seen = none_yet x }

-- the word is refused
pub returns-in_err-occupied : goal.returns-in_err-occupied
returns-in_err-occupied c =
    let at = c.loop-p in
    let e = c.in_err-occupied.field-0.0 in
    let m = c.in_err-occupied.ensures in
    let is : c.from_residual.result ≡ Err e = search rules in
    let cut = on_stop at.rows at.p c.loop-p-test.true (λ z. number_some e (m.refusal_is ∙ z)) m.becomes
    at.invariant.goes_on in
    let all = cut ∙ ap (λ (v : ℕ). record { refusal = v; table = c.move_on.new.rows }) (sym m.refusal_is) in
    rw is (goes_round (Err e) all tt)

pub loop-p-preserved : goal.loop-p-preserved
loop-p-preserved c =
    let at = c.loop-p in
    let v = at.invariant in
    let m = c.in_ok-occupied.ensures in
    let ok = sym m.refusal_is in
    let within : at.p < length at.rows = omega (arith, at.auto.rows, c.loop-p-test.true) in
    record {
      sound = ap table_refusal m.becomes ∙ word_keeps_sound at.rows _ v.sound;
      goes_on = on_next at.rows at.p c.loop-p-test.true ok m.becomes v.goes_on;
      seen = one_more at.rows at.p v.sound within ok m.becomes v.seen m.told;
    }

-- each has had its word
pub returns : goal.returns
returns c =
    let at = c.loop-p in
    let v = at.invariant in
    let all : at.p ≡ length at.rows = omega (arith, at.auto.rows, at.auto.p-end, c.loop-p-test.false) in
    goes_round (Ok at.occupied) (on_end at.rows at.p c.loop-p-test.false v.goes_on) (v.seen ∙ whole at.rows _ all)
