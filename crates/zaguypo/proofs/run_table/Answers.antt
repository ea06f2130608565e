-- `zaguypo::run_table` meets its contract: 18, 13, or the run and its last image. Assumes nothing.
use native.Mathlib.Omega.{arith}
use mathlib.Core.Path.{◌≡◌, refl, ap₂, ◌∙◌}
use borrow.Author.Rules.{rules}
use Rattle.std.specs.Prelude.{Err}
use Rattle.machine.specs.Tables.{Table}
use Rattle.machine.specs.Shared.{no_cell}
use Rattle.machine.specs.Settings.{settings_of}
use Rattle.machine.specs.Runs.{zero_tally, run_from}
use Rattle.machine.specs.Bytes.{words_in}
use Rattle.machine.specs.declared.Memory.{Memory}
use Rattle.machine.specs.declared.Refusal.TheVariants.{TooFewLent}
use Rattle.machine.proofs.SoundRows.{sound_rows}
use Rattle.images.proofs.CountLaws.{image_low}
use Rattle.zaguypo.proofs.CallLaws.{calls_unfit, calls_short, calls_ran}
use Rattle.zaguypo.proofs.run_table.Goals as goal

pub returns-in_err-memory : goal.returns-in_err-memory
returns-in_err-memory c =
    let a = c.args in
    let e = c.in_err-memory.field-0.0 in
    let answer : c.from_residual.result ≡ Err e = search rules in
    rw answer (calls_unfit a.settings a.rows.now (words_in a.events.now) a.image.now e c.in_err-memory.ensures)

-- ---- where the settings fit

pub image_words-requires : goal.image_words-requires
image_words-requires c = omega (arith, (sound_rows c.args.rows.now c.requires.table_sound).1)

pub overflow_mul-image_words : goal.overflow_mul-image_words
overflow_mul-image_words c =
    omega (arith, c.image_words.ensures, image_low _ (sound_rows c.args.rows.now c.requires.table_sound).1)

pub returns-then-image-image_words : goal.returns-then-image-image_words
returns-then-image-image_words c =
    let a = c.args in
    calls_short a.settings a.rows.now (words_in a.events.now) a.image.now c.in_ok-memory.memory c.in_ok-memory.ensures
    TooFewLent (omega (arith, c.image_words.ensures, c.if-image-image_words.true)) refl

pub returns : goal.returns
returns c =
    let a = c.args in
    let ws = words_in a.events.now in
    let system = c.new.ensures in
    let run = c.run_words-ran.ensures in
    let begun = ap₂ (λ (k : Memory) (t : Table). run_from (settings_of k) t zero_tally no_cell ws) system.memory system.table in
    calls_ran a.settings a.rows.now ws a.image.now c.in_ok-memory.memory c.in_ok-memory.ensures
    (omega (arith, c.image_words.ensures, c.if-image-image_words.false))
    _ _ _ c.run_words-ran.result _ begun c.write_image.ensures (search rules ∙ run.becomes) run.ran_is (omega arith)
