-- `text::running::put_run` meets its contract. Assumes nothing.
use Rattle.std.proofs.Common.{arith, ◌≡◌, sym, ap, ◌∙◌, ℕ, length}
use Rattle.machine.specs.Text.{done_line, stop_line}
use Rattle.machine.specs.Settings.{settings_of}
use Rattle.machine.specs.Census.{critical}
use Rattle.machine.proofs.SoundRows.{sound_few}
use Rattle.text.specs.Lines.{taken_line}
use Rattle.text.specs.declared.lines.TakenWord.{TakenWord}
use Rattle.text.proofs.Puts.{put_as}
use Rattle.text.proofs.RunLaws.{was_taken, was_refused}
use Rattle.text.proofs.ProgressLaws.{printed_taken, printed_stopped, printed_done, word_room, stop_room, done_room}
use Rattle.text.proofs.running.put_run.Goals as goal

pub critical-inside-requires : goal.critical-inside-requires
critical-inside-requires g c = sound_few c.args.rows.now c.requires.sound

-- ---- a taken word

pub put_taken-out-requires : goal.put_taken-out-requires
put_taken-out-requires g c =
    let l = c.loop-i in
    let took = was_taken l.system.rows.now l.i c.word.result _ c.in-Ok.ensures.answer_is in
    let room =
    word_room g.met.S.Sink.laws l.invariant.0 c.word.ensures (omega arith) took.0 c.requires.room in
    omega (arith, room, ap (λ (x : TakenWord). length (taken_line x)) took.1)

pub loop-i-preserved : goal.loop-i-preserved
loop-i-preserved g c =
    let l = c.loop-i in
    let laws = g.met.S.Sink.laws in
    let took = was_taken l.system.rows.now l.i c.word.result _ c.in-Ok.ensures.answer_is in
    let after = c.in-Ok.ensures.becomes in (
      printed_taken laws l.invariant.0 c.word.ensures (omega arith) took.0 after
          (put_as laws (ap (λ (x : TakenWord). taken_line x) took.1) c.put_taken-out.ensures),
      record {
        weak = ap settings_of c.in-Ok.ensures.same_memory ∙ l.invariant.1.weak;
        inside_is = ap (λ (x : TakenWord). x.inside) took.1 ∙ ap critical (sym after);
      },
    )

-- ---- a refused one

pub put_stop-requires : goal.put_stop-requires
put_stop-requires g c =
    let l = c.loop-i in
    let no = was_refused l.system.rows.now l.i c.word.result _ c.in-Err.ensures.answer_is in
    let room =
    stop_room g.met.S.Sink.laws l.invariant.0 c.word.ensures (omega arith) no.0 c.requires.room in
    omega (arith, room, ap (λ (n : ℕ). length (stop_line l.i n)) no.1)

pub returns-in-Err : goal.returns-in-Err
returns-in-Err g c =
    let l = c.loop-i in
    let laws = g.met.S.Sink.laws in
    let no = was_refused l.system.rows.now l.i c.word.result _ c.in-Err.ensures.answer_is in
    printed_stopped laws l.invariant.0 c.word.ensures (omega arith) no.0
    (put_as laws (ap (stop_line l.i) no.1) c.put_stop.ensures)

-- ---- no more

pub put_done-requires : goal.put_done-requires
put_done-requires g c =
    let l = c.loop-i in
    let same : c.count-n.result ≡ l.i = omega arith in
    omega (
      arith,
      done_room g.met.S.Sink.laws l.invariant.0 (omega arith) c.requires.room,
      ap (λ (n : ℕ). length (done_line n)) same,
    )

pub returns : goal.returns
returns g c =
    let l = c.loop-i in
    let laws = g.met.S.Sink.laws in
    let same : c.count-n.result ≡ l.i = omega arith in
    printed_done laws l.invariant.0 (omega arith) (put_as laws (ap done_line same) c.put_done.ensures)
