-- `run_words` meets its contract: what is left of the run is what the loop still takes. Assumes nothing.
use Prim.Native.Nat.{ℕ, ◌+◌, ◌<◌}
use mathlib.Core.Path.{sym, ap, subst, ◌∙◌}
use native.Mathlib.Omega.{arith}
use lib.ListN.{length, drop}
use Rattle.machine.specs.Refusals.{number}
use Rattle.machine.specs.Settings.{settings_of}
use Rattle.machine.specs.Runs.{counted, run_from}
use Rattle.machine.specs.declared.Event.{Event}
use Rattle.machine.specs.declared.Memory.{Memory}
use Rattle.machine.specs.declared.Tally.{Tally}
use Rattle.machine.proofs.RunLaws.{counted_words}
use Rattle.runs.specs.Bounds.{outcome}
use Rattle.runs.proofs.RunLaws.{takes, stops, run_past, ends_so, counted_comes, counted_arrivals}
use Rattle.runs.proofs.run_words.Invariants.{Counts}
use Rattle.runs.proofs.run_words.Goals as goal

count_on : (i : ℕ) (e : Event) (h : Tally) → Counts i h → Counts (i + 1) (counted e h)
count_on i e h v =
    record {
      words_are = counted_words e h ∙ ap (λ (k : ℕ). k + 1) v.words_are;
      comes_few = omega (arith, counted_comes e h, v.comes_few);
      arrivals_few = omega (arith, counted_arrivals e h, v.arrivals_few);
    }

pub returns-in-Err : goal.returns-in-Err
returns-in-Err g c =
    let ws = g.W.Words.list c.args.words in
    let at = c.loop-i in
    let v = at.invariant in
    let s = c.in-Err.ensures in
    let m = settings_of at.system.memory in
    let l : at.i < length ws = omega (arith, v.end_is, c.loop-i-test.true) in
    let left = v.left
    ∙ stops m at.system.rows.now _ at.tally at.cell ws at.i _ l c.word.ensures c.in-Err.refusal s.step in
    let e = ends_so _ (outcome c.args.system.now ws) at.tally at.cell (number c.in-Err.refusal) left in
    record {
      same_rows = s.same_rows ∙ v.same_rows;
      same_memory = s.memory ∙ v.same_memory;
      becomes = e.becomes;
      ran_is = c.answer.ensures ∙ e.ran_is;
      tally_is = e.tally_is;
    }

pub loop-i-preserved : goal.loop-i-preserved
loop-i-preserved g c =
    let ws = g.W.Words.list c.args.words in
    let at = c.loop-i in
    let v = at.invariant in
    let s = c.in-Ok.ensures in
    let m = settings_of at.system.memory in
    let l : at.i < length ws = omega (arith, v.end_is, c.loop-i-test.true) in
    let next = takes m at.system.rows.now c.advance.new.self.rows.now at.tally at.cell ws at.i _ l c.word.ensures
    c.in-Ok.told c.counted.result s.step c.counted.ensures in
    let same =
    ap (λ (k : Memory). run_from (settings_of k) c.advance.new.self.rows.now c.counted.result c.in-Ok.told.cell (drop (at.i + 1) ws))
    (sym s.memory) in
    record {
      same_rows = s.same_rows ∙ v.same_rows;
      same_memory = s.memory ∙ v.same_memory;
      end_is = v.end_is;
      few = v.few;
      counts = subst (λ (k : Tally). Counts (at.i + 1) k) (sym c.counted.ensures)
          (count_on at.i c.in-Ok.told.event at.tally v.counts);
      left = v.left ∙ next ∙ same;
    }

pub returns : goal.returns
returns g c =
    let ws = g.W.Words.list c.args.words in
    let at = c.loop-i in
    let v = at.invariant in
    let m = settings_of at.system.memory in
    let left = v.left ∙ run_past m at.system.rows.now at.tally at.cell ws at.i (omega (arith, v.end_is)) in
    let e = ends_so _ (outcome c.args.system.now ws) at.tally at.cell 0 left in
    record {
      same_rows = v.same_rows;
      same_memory = v.same_memory;
      becomes = e.becomes;
      ran_is = c.answer-2.ensures ∙ e.ran_is;
      tally_is = e.tally_is;
    }
