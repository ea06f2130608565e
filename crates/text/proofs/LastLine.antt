-- The last printed line says what the run under 0 and 0 answers (MANUAL, "The printed text").
-- Assumes nothing.
use mathlib.Core.Path.{◌≡◌, refl, sym, ap, ◌∙◌}
use mathlib.Core.Bool.{Bool, true, false}
use mathlib.Core.List.{List, [], ◌∷◌, ◌++◌, append_assoc}
use Prim.Native.Nat.{ℕ, suc, ◌≤◌, ◌<◌}
use native.Mathlib.Decide.{dec_le}
use native.Mathlib.Numerals.{add-one}
use native.Mathlib.Omega.{arith}
use lib.Dec.{eqb}
use lib.ListN.{length}
use Rattle.machine.specs.Refusals.{accepted, too_many_words}
use Rattle.machine.specs.Tables.{Table, table_refusal}
use Rattle.machine.specs.Shared.{no_cell}
use Rattle.machine.specs.Steps.{refusal_of, after_word, event_of, cell_of}
use Rattle.machine.specs.Settings.{weakest}
use Rattle.machine.specs.Runs.{limit, Outcome, ended, counted, zero_tally, run_from, run_of}
use Rattle.machine.specs.Images.{image_refusal, table_in}
use Rattle.machine.specs.Bytes.{words_in, bytes_fit}
use Rattle.machine.specs.Inputs.{image_part, event_part, Input, input_of}
use Rattle.machine.specs.Text.{posts_text, spaced, cell_text, word_fields, word_line, posts_line, done_line, stop_line}
use Rattle.machine.specs.Text.{run_lines, text_of, printed}
use Rattle.machine.specs.declared.Event.{Event}
use Rattle.machine.specs.declared.SharedCell.{SharedCell}
use Rattle.machine.specs.declared.Tally.{Tally}
use Rattle.machine.proofs.SettingTheorems.{weakest_step}
use Rattle.machine.proofs.RunLaws.{run_of_words, run_of_taken, counted_words}
use Rattle.image_theorems.proofs.InputTheorems.{table_fits, holds_ready, holds_too_many}
use Rattle.text.specs.Running.{takes}
use Rattle.text.proofs.RunLaws.{run_lines_taken, run_lines_stopped}

-- the last line for what a run answers: how many words were taken, and the refusal if there is one
abbrev pub final_line : Outcome → List ℕ
final_line o =
    let n = o.tally.words in elim (eqb o.refusal accepted) [ true ↦ done_line n | false ↦ stop_line n o.refusal ]

-- ---- the lines of a run, and its outcome

counted_suc : (e : Event) (h : Tally) → (counted e h).words ≡ suc h.words
counted_suc e h = counted_words e h ∙ add-one h.words

-- a text up to a line feed, then the last line
abbrev Ends : List ℕ → Outcome → Type 0
Ends s o = (before : List ℕ) × (s ≡ before ++ (10 ∷ final_line o))

-- a line between two line feeds
between : (y fields rest : List ℕ) → y ++ (10 ∷ ((fields ++ (10 ∷ [])) ++ rest)) ≡ (y ++ (10 ∷ fields)) ++ (10 ∷ rest)
between y fields rest =
    ap (λ (l : List ℕ). y ++ (10 ∷ l)) (append_assoc fields (10 ∷ []) rest)
    ∙ sym (append_assoc y (10 ∷ fields) (10 ∷ rest))

run_ends : (y : List ℕ) (t : Table) (h : Tally) (c : SharedCell) (ws : List ℕ)
    → Ends (y ++ (10 ∷ run_lines t h.words ws)) (run_from weakest t h c ws)
unfolding run_lines run_from
run_ends y t h c [] = (y, refl)
run_ends y t h c (w ∷ ws) =
    go (run_ends (y ++ (10 ∷ fields)) (after_word t w) (counted (event_of t w) h) (cell_of t w) ws) (takes t w) refl
  where
    i : ℕ
    i = h.words

    fields : List ℕ
    fields = spaced (word_fields t i w) ++ (32 ∷ cell_text (cell_of t w))

    line_is : word_line t i w ≡ fields ++ (10 ∷ [])
    line_is = sym (append_assoc (spaced (word_fields t i w)) (32 ∷ cell_text (cell_of t w)) (10 ∷ []))

    next : Outcome
    next = run_from weakest (after_word t w) (counted (event_of t w) h) (cell_of t w) ws

    outcome : (b : Bool) → takes t w ≡ b
        → run_from weakest t h c (w ∷ ws) ≡ elim b [ true ↦ next | false ↦ ended t h c (refusal_of t w) ]
    outcome b e =
        ap (λ (n : ℕ). elim (eqb n accepted) [ true ↦ next | false ↦ ended t h c n ]) (weakest_step t w).refusal_same
        ∙ ap (λ (d : Bool). elim d [ true ↦ next | false ↦ ended t h c (refusal_of t w) ]) e

    go : Ends ((y ++ (10 ∷ fields)) ++ (10 ∷ run_lines (after_word t w) (counted (event_of t w) h).words ws)) next
        → (b : Bool) → takes t w ≡ b
        → Ends (y ++ (10 ∷ run_lines t h.words (w ∷ ws))) (run_from weakest t h c (w ∷ ws))
    go rest true e = (
      rest.0,
      ap (λ (l : List ℕ). y ++ (10 ∷ l))
          (run_lines_taken t i w ws e
          ∙ ap (λ (l : List ℕ). l ++ run_lines (after_word t w) (suc i) ws) line_is)
          ∙ between y fields (run_lines (after_word t w) (suc i) ws)
          ∙ ap (λ (k : ℕ). (y ++ (10 ∷ fields)) ++ (10 ∷ run_lines (after_word t w) k ws))
          (sym (counted_suc (event_of t w) h))
          ∙ rest.1
          ∙ ap (λ (o : Outcome). rest.0 ++ (10 ∷ final_line o)) (sym (outcome true e)),
    )
    go rest false e = (
      y,
      ap (λ (l : List ℕ). y ++ (10 ∷ l))
          (run_lines_stopped t i w ws e
          ∙ ap (λ (b : Bool). elim b [ true ↦ done_line i | false ↦ stop_line i (refusal_of t w) ]) (sym e)
          ∙ ap final_line (sym (outcome false e))),
    )

-- ---- the printed text

-- the first line, without its line feed
abbrev posts : Table → List ℕ
posts t = posts_text ++ spaced (length t ∷ [])

after_posts : (t : Table) (rest : List ℕ) → posts_line t ++ rest ≡ posts t ++ (10 ∷ rest)
after_posts t rest =
    ap (λ (l : List ℕ). l ++ rest) (sym (append_assoc posts_text (spaced (length t ∷ [])) (10 ∷ [])))
    ∙ append_assoc (posts t) (10 ∷ []) rest

module _ (bs : List ℕ) (t : Table) (ws : List ℕ) (sound : table_refusal t ≡ accepted) where
  -- a table and its words
  pub ready_last_line : input_of bs ≡ Input.Ready t ws → length ws ≤ limit → Ends (printed bs) (run_of weakest t ws)
  unfolding printed text_of
  ready_last_line holds few =
      let end = run_ends (posts t) t zero_tally no_cell ws in (
        end.0,
        ap text_of holds
            ∙ after_posts t (run_lines t 0 ws)
            ∙ end.1
            ∙ ap (λ (o : Outcome). end.0 ++ (10 ∷ final_line o)) (sym (run_of_taken weakest t ws sound refl few)),
      )

  -- a table, and more words than a run takes
  pub many_last_line : input_of bs ≡ Input.TooMany t → limit < length ws → Ends (printed bs) (run_of weakest t ws)
  unfolding printed text_of
  many_last_line holds many = (
    posts t,
    ap text_of holds
        ∙ after_posts t (stop_line 0 too_many_words)
        ∙ ap (λ (o : Outcome). posts t ++ (10 ∷ final_line o)) (sym (run_of_words weakest t ws sound refl many)),
  )

-- For every input whose bytes and whose image are accepted, the text ends in a line feed and one more line, and that
-- line says what the run of its event words from its table answers under 0 and 0: `done` and the words taken, or
-- `stop`, the words taken and the refusal, 12 included.
-- Excludes: `done` after a refusal; another count or refusal than the run's; text after the last line.
pub last_line : (bs : List ℕ)
    → bytes_fit bs ≡ true
    → (image_refusal (image_part (words_in bs))).refusal ≡ accepted
    → let t = table_in (image_part (words_in bs)) in
    let ws = event_part (words_in bs) in
    (before : List ℕ) × (printed bs ≡ before ++ (10 ∷ final_line (run_of weakest t ws)))
last_line bs fit read = go (dec_le (length ws) limit) where
  t : Table
  t = table_in (image_part (words_in bs))

  ws : List ℕ
  ws = event_part (words_in bs)

  go : Dec (length ws ≤ limit) → Ends (printed bs) (run_of weakest t ws)
  go (yes h) = ready_last_line bs t ws (table_fits bs fit read) (holds_ready bs fit read h) h
  go (no h) =
      let many : limit < length ws = omega (arith, h) in
      many_last_line bs t ws (table_fits bs fit read) (holds_too_many bs fit read many) many
