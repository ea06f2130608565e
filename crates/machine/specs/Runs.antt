-- A run, an execution of the system by a list of words up to the first that is refused, and its tally, the counters of
-- words, COMEs and arrivals; the number at 30 that goes along (MANUAL, "Runs", "Shared cells" and "Census").
--
--   counted e h          ==  the tally h after an accepted word with event e.
--   carried e n          ==  the number at 30 after such a word, from the number n before it.
--   carried_over t n ws  ==  that number after words given one by one to table t, where it is n.
--   run_from s t h c ws  ==  the words in order from table t with tally h, up to the first that is refused under the
--                            settings s; c is the shared cell of the word before them.
--   run_of s t ws        ==  a run under settings: 6, 7, 18, then 12 for more than 8,192 words, before any is taken.
--
-- How many words a run took is what its tally says, which is zero at the start. Assumes nothing.
use Rattle.std.specs.Prelude.{ℕ, ◌+◌, ◌-◌, true, false, cond, not, List, [], ◌∷◌, eqb, leb, length}
use Rattle.machine.specs.Refusals.{accepted, too_many_words, bad_settings}
use Rattle.machine.specs.Tables.{Table, table_refusal}
use Rattle.machine.specs.Shared.{no_cell}
use Rattle.machine.specs.Steps.{refusal_of, after_word, event_of, cell_of}
use Rattle.machine.specs.Settings.{settings_fit, refusal_under}
use Rattle.machine.specs.declared.Event.{Event}
use Rattle.machine.specs.declared.Event.TheVariants.{Quiet, Come, Arrival, Departure}
use Rattle.machine.specs.declared.SharedCell.{SharedCell}
use Rattle.machine.specs.declared.Settings.{Settings}
use Rattle.machine.specs.declared.Tally.{Tally}
use Rattle.machine.specs.declared.Ran.{Ran}

-- the most words of a run
abbrev pub limit : ℕ
limit = 8192

abbrev pub zero_tally : Tally
zero_tally = record { words = 0; comes = 0; arrivals = 0 }

abbrev pub counted : Event → Tally → Tally
counted Quiet h = record { words = h.words + 1; comes = h.comes; arrivals = h.arrivals }
counted Come h = record { words = h.words + 1; comes = h.comes + 1; arrivals = h.arrivals }
counted Arrival h = record { words = h.words + 1; comes = h.comes; arrivals = h.arrivals + 1 }
counted Departure h = record { words = h.words + 1; comes = h.comes; arrivals = h.arrivals }

-- the number at 30 (the holder figure), carried along: one more on an arrival, one less on a departure
abbrev pub carried : Event → ℕ → ℕ
carried Quiet n = n
carried Come n = n
carried Arrival n = n + 1
carried Departure n = n - 1

-- the same from word to word; a refused word is passed over
unfoldable pub carried_over : Table → ℕ → List ℕ → ℕ
unfolding refusal_of after_word event_of
carried_over t n [] = n
carried_over t n (w ∷ ws) =
    let m = cond (eqb (refusal_of t w) accepted) (carried (event_of t w) n) n in carried_over (after_word t w) m ws

-- the table, the tally, the shared cell of the last word taken and the refusal at the end of a run
pub record Outcome : Type 0 where
  pub table : Table
  pub tally : Tally
  pub cell : SharedCell
  pub refusal : ℕ

-- a run that has ended
abbrev pub ended : Table → Tally → SharedCell → ℕ → Outcome
ended t h c n = record { table = t; tally = h; cell = c; refusal = n }

-- a run that is refused before any word is taken
abbrev pub untaken : Table → ℕ → Outcome
untaken t n = ended t zero_tally no_cell n

-- what a run answers: how many words were taken, the refusal or 0, and the cell of the last word taken, none if it took
-- none
abbrev pub ran_of : Outcome → Ran
ran_of o = record { taken = o.tally.words; refusal = o.refusal; cell = o.cell }

unfoldable pub run_from : Settings → Table → Tally → SharedCell → List ℕ → Outcome
unfolding refusal_under after_word event_of cell_of
run_from s t h c [] = ended t h c accepted
run_from s t h c (w ∷ ws) =
    elim (eqb (refusal_under s t w) accepted) [
      | true ↦ run_from s (after_word t w) (counted (event_of t w) h) (cell_of t w) ws
      | false ↦ ended t h c (refusal_under s t w)
    ]

unfoldable pub run_of : Settings → Table → List ℕ → Outcome
unfolding table_refusal run_from
run_of s t ws =
    let taken = run_from s t zero_tally no_cell ws in
    cond (not (eqb (table_refusal t) accepted)) (untaken t (table_refusal t))
    (cond (not (settings_fit s)) (untaken t bad_settings)
    (cond (not (leb (length ws) limit)) (untaken t too_many_words) taken))
