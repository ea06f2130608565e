-- How long the lines of a text are. Assumes nothing.
use mathlib.Core.Path.{◌≡◌, refl, ap}
use mathlib.Core.Bool.{Bool, true, false, not}
use mathlib.Core.List.{List, [], ◌∷◌, ◌++◌}
use Prim.Native.Nat.{ℕ, suc, ◌+◌, ◌*◌, ◌≤◌, ◌<◌}
use native.Mathlib.Omega.{arith}
use borrow.Author.Tests.{eqb-true, leb-true}
use lib.Dec.{eqb, ltb, leb}
use lib.ListN.{length, length-append}
use Rattle.counting.proofs.TestLaws.{cond_le}
use Rattle.machine.specs.Refusals.{accepted, too_many_words, bad_bytes}
use Rattle.machine.specs.Tables.{Table, row, table_refusal, locations}
use Rattle.machine.specs.Words.{kind_of, process_of, argument_of, formed}
use Rattle.machine.specs.Steps.{allowed, argument_fits, overflows, word_refusal, refusal_of, after_word, cell_of}
use Rattle.machine.specs.Runs.{limit}
use Rattle.machine.specs.Text.{input_text, image_text, posts_text, done_text, stop_text, line}
use Rattle.machine.specs.Text.{word_fields, word_line, done_line, stop_line, run_lines}
use Rattle.machine.proofs.OneOfLaws.{by_test}
use Rattle.machine.proofs.SoundRows.{sound-row, sound_few}
use Rattle.machine.proofs.Accepted.{accepted_says}
use Rattle.machine.proofs.CellBounds.{cell_index}
use Rattle.machine.proofs.Soundness.{word_keeps_sound, word_keeps_length}
use Rattle.text.specs.Running.{takes}
use Rattle.text.proofs.LineLaws.{length-spaced, length-cell_text, length-taken_line, length_within}
use Rattle.text.proofs.LineLaws.Within.{last, then}
use Rattle.text.proofs.RunLaws.{run_lines_taken, run_lines_stopped, run_lines_done, few_critical}

-- the most bytes of a word's line, of the last line, and of all that stands before the lines of a run
abbrev pub line_room : ℕ
line_room = 22

abbrev pub last_room : ℕ
last_room = 13

abbrev pub head_room : ℕ
head_room = 22

-- ---- the last line

pub length-done_line : (i : ℕ) → i ≤ limit → length (done_line i) ≤ last_room
length-done_line i few = let long = length_within done_text {ns = i ∷ []} (last 3 (omega arith)) in omega arith

pub length-stop_line : (i n : ℕ) → i < limit → n < 100 → length (stop_line i n) ≤ last_room
length-stop_line i n few small = length_within stop_text (then 3 (omega arith) (last 1 (omega arith)))

-- ---- what stands before the lines of a run

pub length_input : length (line input_text (bad_bytes ∷ [])) ≤ head_room
length_input = let long = length_within input_text {ns = bad_bytes ∷ []} (last 1 (omega arith)) in omega arith

pub length_image : (place why : ℕ) → place < 1000 → why < 100 → length (line image_text (place ∷ why ∷ [])) ≤ head_room
length_image place why h k =
    let long = length_within image_text {ns = place ∷ why ∷ []} (then 2 (omega arith) (last 1 (omega arith))) in
    omega arith

pub length_posts : (n : ℕ) → n ≤ 16 → length (line posts_text (n ∷ [])) ≤ 9
length_posts n few = length_within posts_text (last 1 (omega arith))

-- the first line and the last one
pub length_many : (n : ℕ) → n ≤ 16 → length (line posts_text (n ∷ []) ++ stop_line 0 too_many_words) ≤ head_room
length_many n few =
    omega (
      arith,
      length-append (line posts_text (n ∷ [])) (stop_line 0 too_many_words),
      length_posts n few,
      length-stop_line 0 too_many_words (omega arith) (omega arith),
    )

-- ---- the line of a word

module _ (t : Table) (sound : table_refusal t ≡ 0) where
  -- a sound row's location has two digits
  location_low : (p : ℕ) → p < length t → (row t p).location < 100
  location_low p h =
      let l = (row t p).location in
      leb-true _ _ (by_test (λ v. leb (suc v) 100) l locations refl (sound-row t sound p h).location_known)

  -- a word's refusal has two digits
  refusal_low : (w : ℕ) → refusal_of t w ≤ 15
  unfolding refusal_of word_refusal
  refusal_low w =
      let k = kind_of w in
      let p = process_of w in
      let last = cond_le (overflows t k p) 15 0 15 (omega arith) (omega arith) in
      let at = cond_le (not (argument_fits (length t) k (row t p) (argument_of w))) 11 _ 15 (omega arith) last in
      let there = cond_le (not (allowed k (row t p))) 10 _ 15 (omega arith) at in
      let known = cond_le (not (ltb p (length t))) 9 _ 15 (omega arith) there in
      let word = cond_le (not (formed w)) 8 _ 15 (omega arith) known in
      cond_le (eqb (table_refusal t) accepted) _ (table_refusal t) 15 word (omega (arith, sound))

module _ (t : Table) (i w : ℕ) (sound : table_refusal t ≡ 0) (few : i < limit) where
  length_taken : takes t w ≡ true → length (word_line t i w) ≤ line_room
  length_taken e =
      let p = process_of w in
      let u = after_word t w in
      let z = eqb-true (refusal_of t w) 0 e in
      let says = accepted_says t w z in
      let same = word_keeps_length t w in
      let before = location_low t sound p says.process_in in
      let after = location_low u (word_keeps_sound t w sound) p (omega (arith, says.process_in)) in
      let inside = few_critical u (word_keeps_sound t w sound) in
      let most = sound_few t sound in
      let cell = length-cell_text (cell_of t w) (omega (arith, cell_index t w z)) in
      let numbers = length-spaced {ns = word_fields t i w}
      (then 3 (omega arith)
      (then 1 (omega (arith, says.process_in))
      (then 1 (omega arith)
      (then 1 (omega arith)
      (last 1 (omega arith)))))) in
      omega (arith, length-taken_line (word_fields t i w) (cell_of t w))

  length_stopped : length (stop_line i (refusal_of t w)) ≤ last_room
  length_stopped = length-stop_line i (refusal_of t w) few (omega (arith, refusal_low t sound w))

-- ---- the lines of a run

-- a line for each word, and the last one
pub length-run_lines : (t : Table) (i : ℕ) (ws : List ℕ) → table_refusal t ≡ 0 → i + length ws ≤ limit
    → length (run_lines t i ws) ≤ line_room * length ws + last_room
length-run_lines t i [] sound few = omega (arith, ap length (run_lines_done t i), length-done_line i (omega arith))
length-run_lines t i (w ∷ ws) sound few =
    go (length-run_lines (after_word t w) (suc i) ws (word_keeps_sound t w sound) (omega arith)) (takes t w) refl
  where
    u : Table
    u = after_word t w

    first : i < limit
    first = omega arith

    go : length (run_lines u (suc i) ws) ≤ line_room * length ws + last_room
        → (b : Bool) → takes t w ≡ b
        → length (run_lines t i (w ∷ ws)) ≤ line_room * suc (length ws) + last_room
    go rest true e =
        omega (
          arith,
          ap length (run_lines_taken t i w ws e),
          length-append (word_line t i w) (run_lines u (suc i) ws),
          length_taken t i w sound first e,
        )
    go rest false e = omega (arith, ap length (run_lines_stopped t i w ws e), length_stopped t i w sound first)
