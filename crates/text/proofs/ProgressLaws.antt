-- How far a run that is printed has come: what its words printed, and what is still to be. Assumes nothing.
use mathlib.Core.Path.{◌≡◌, refl, sym, ap, ◌∙◌}
use mathlib.Core.Bool.{true, false}
use mathlib.Core.List.{List, [], ◌∷◌, ◌++◌, append_assoc}
use Prim.Native.Nat.{ℕ, suc, ◌+◌, ◌≤◌, ◌<◌}
use native.Mathlib.Omega.{arith}
use native.Mathlib.Numerals.{add-one}
use lib.ListN.{length, get_or, drop, length-append}
use lib.Seq.{drop-cons, drop-length}
use Rattle.machine.specs.Tables.{Table}
use Rattle.machine.specs.Steps.{refusal_of, after_word}
use Rattle.machine.specs.Text.{word_line, done_line, stop_line, run_lines}
use Rattle.text.specs.Laws.{SinkLaws}
use Rattle.text.specs.Running.{takes}
use Rattle.text.proofs.Puts.{put_both}
use Rattle.text.proofs.RunLaws.{run_lines_taken, run_lines_stopped, run_lines_done}

-- i words of ws have been taken from table t, which is u now, and what they printed is put on p, which is q now
pub record Printed {S : Type 0} (appended : S → List ℕ → S → Type 0) (p : S) (t : Table) (ws : List ℕ) (q : S)
    (u : Table) (i : ℕ) : Type 0 where
  pub text : List ℕ
  pub put : appended p text q
  pub goes_on : text ++ run_lines u i (drop i ws) ≡ run_lines t 0 ws

module _ {S : Type 0} {space : S → ℕ} {appended : S → List ℕ → S → Type 0} (laws : SinkLaws space appended) where
  -- before the first word
  pub printed_none : (p : S) (t : Table) (ws : List ℕ) → Printed appended p t ws p t 0
  printed_none p t ws = record { text = []; put = laws.none p; goes_on = refl }

  module _ {p q : S} {t u : Table} {ws : List ℕ} {i : ℕ} (d : Printed appended p t ws q u i) where
    -- there is room for what is left, where there was for all
    printed_room : length (run_lines t 0 ws) ≤ space p → length (run_lines u i (drop i ws)) ≤ space q
    printed_room all =
        omega (arith, ap length d.goes_on, length-append d.text (run_lines u i (drop i ws)), laws.takes_room d.put)

    -- no word is left
    module _ (end : i ≡ length ws) where
      all_done : run_lines u i (drop i ws) ≡ done_line i
      all_done = ap (run_lines u i) (ap (λ (k : ℕ). drop k ws) end ∙ drop-length ws) ∙ run_lines_done u i

      pub done_room : length (run_lines t 0 ws) ≤ space p → length (done_line i) ≤ space q
      done_room all = omega (arith, printed_room all, ap length all_done)

      pub printed_done : {r : S} → appended q (done_line i) r → appended p (run_lines t 0 ws) r
      printed_done put = put_both laws (ap (λ (l : List ℕ). d.text ++ l) (sym all_done) ∙ d.goes_on) d.put put

    -- word w is next
    module _ {w : ℕ} (is : w ≡ get_or ws i 0) (more : i < length ws) where
      next : run_lines u i (drop i ws) ≡ run_lines u i (w ∷ drop (suc i) ws)
      next =
          ap (run_lines u i)
          (drop-cons ws i 0 more ∙ ap (λ (v : ℕ). v ∷ drop (suc i) ws) (sym is))

      -- and is refused
      module _ (stopped : takes u w ≡ false) where
        last : run_lines u i (drop i ws) ≡ stop_line i (refusal_of u w)
        last = next ∙ run_lines_stopped u i w (drop (suc i) ws) stopped

        pub stop_room : length (run_lines t 0 ws) ≤ space p → length (stop_line i (refusal_of u w)) ≤ space q
        stop_room all = omega (arith, printed_room all, ap length last)

        pub printed_stopped : {r : S} → appended q (stop_line i (refusal_of u w)) r → appended p (run_lines t 0 ws) r
        printed_stopped put = put_both laws (ap (λ (l : List ℕ). d.text ++ l) (sym last) ∙ d.goes_on) d.put put

      -- or taken
      module _ (taken : takes u w ≡ true) where
        abbrev rest : List ℕ
        rest = run_lines (after_word u w) (suc i) (drop (suc i) ws)

        lines : run_lines u i (drop i ws) ≡ word_line u i w ++ rest
        lines = next ∙ run_lines_taken u i w (drop (suc i) ws) taken

        pub word_room : length (run_lines t 0 ws) ≤ space p → length (word_line u i w) ≤ space q
        word_room all = omega (arith, printed_room all, ap length lines, length-append (word_line u i w) rest)

        pub printed_taken : {r : S} {v : Table} → v ≡ after_word u w → appended q (word_line u i w) r
            → Printed appended p t ws r v (i + 1)
        printed_taken {v = v} after put =
            record {
              text = d.text ++ word_line u i w;
              put = laws.joined d.put put;
              goes_on =
                  append_assoc d.text (word_line u i w) (run_lines v (i + 1) (drop (i + 1) ws))
                  ∙ ap (λ (k : ℕ). d.text ++ (word_line u i w ++ run_lines v k (drop k ws))) (add-one i)
                  ∙ ap (λ (a : Table). d.text ++ (word_line u i w ++ run_lines a (suc i) (drop (suc i) ws))) after
                  ∙ ap (λ (l : List ℕ). d.text ++ l) (sym lines)
                  ∙ d.goes_on;
            }
