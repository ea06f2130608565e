-- The text for what opening an input answers, and what printing it into a lent buffer leaves there. Assumes nothing.
use mathlib.Core.Path.{◌≡◌, sym, ap, ◌∙◌}
use mathlib.Core.Bool.{Bool, true, false}
use mathlib.Core.List.{List, [], ◌∷◌, ◌++◌}
use Prim.Native.Nat.{ℕ, ◌+◌, ◌≤◌, ◌<◌}
use native.Mathlib.Nat.{zero-add}
use native.Mathlib.Omega.{arith}
use lib.ListN.{length, take}
use lib.Seq.{length-take-le}
use borrow.Author.Tests.{le-leb, lt-leb}
use Rattle.std.specs.Prelude.{Result, Ok, Err}
use Rattle.counting.specs.Placing.{placed}
use Rattle.machine.specs.Refusals.{too_many_words}
use Rattle.machine.specs.Tables.{Table}
use Rattle.machine.specs.Bytes.{words_in}
use Rattle.machine.specs.Inputs.{Input, input_of}
use Rattle.machine.specs.Text.{posts_text, line, posts_line, stop_line, run_lines, text_of, printed}
use Rattle.machine.specs.Exports.{printed_in}
use Rattle.inputs.specs.Opening.{Shows, Opens}
use Rattle.inputs.specs.declared.Input.{Input as Opened}
use Rattle.inputs.specs.declared.InputError.{InputError}
use Rattle.inputs.specs.declared.InputError.TheVariants.{BadBytes, BadImage, TooMany}
use Rattle.text.specs.Pages.{Written}
use Rattle.text.specs.Printing.{text_room, opened_text}
use Rattle.text.specs.declared.sinks.Page.{Page}
use Rattle.text.proofs.TextFits.{text_fits}

-- ---- the text of an answer

-- the first line of the table in the first n rows
first_line : (y : Table) (n : ℕ) → n ≤ length y → posts_line (take n y) ≡ line posts_text (n ∷ [])
first_line y n within = ap (λ (k : ℕ). line posts_text (k ∷ [])) (length-take-le n y within)

shown_text : (y : Table) (i : Input) (r : Result Opened InputError) → Shows i y r → text_of i ≡ opened_text r y
unfolding text_of
shown_text y i (Ok o) s =
    ap text_of s.holds
    ∙ ap (λ (l : List ℕ). l ++ run_lines (take o.size y) 0 (words_in o.events.now))
    (first_line y o.size s.table.within)
shown_text y i (Err BadBytes) s = ap text_of s
shown_text y i (Err (BadImage e)) s = ap text_of s
shown_text y i (Err (TooMany n)) s =
    ap text_of s.holds
    ∙ ap (λ (l : List ℕ). l ++ stop_line 0 too_many_words) (first_line y n s.table.within)

module _ (bs : List ℕ) (y : Table) (r : Result Opened InputError) (opens : Opens bs y r) where
  pub text_is : printed bs ≡ opened_text r y
  unfolding printed
  text_is = shown_text y (input_of bs) r opens

  -- it is not long
  pub opened_fits : length (opened_text r y) ≤ text_room
  opened_fits = omega (arith, ap length text_is, text_fits bs)

  -- ---- the buffer

  module _ (l : List ℕ) where
    abbrev buffers : Bool → List ℕ
    buffers b = elim b [ false ↦ l | true ↦ placed l 0 (printed bs) ]

    -- too short
    pub short_print : {k : ℕ} → k ≡ length (opened_text r y) → length l < k
        → (k ≡ (printed_in bs l).number) × (l ≡ (printed_in bs l).lent)
    unfolding printed_in
    short_print is h =
        let long = ap length text_is in
        (is ∙ sym long, sym (ap buffers (lt-leb (length (printed bs)) (length l) (omega arith))))

    -- the text fits
    pub whole_print : {p q : Page} → p.bytes.now ≡ l → p.filled ≡ 0 → Written p (opened_text r y) q
        → (q.filled ≡ (printed_in bs l).number) × (q.bytes.now ≡ (printed_in bs l).lent)
    unfolding printed_in
    whole_print {p = p} whole empty a =
        let long = ap length text_is in
        let start =
        ap (λ (d : List ℕ). placed d p.filled (opened_text r y)) whole
        ∙ ap (λ (k : ℕ). placed l k (opened_text r y)) empty
        ∙ ap (placed l 0) (sym text_is) in (
          a.filled_is ∙ ap (λ (k : ℕ). k + length (opened_text r y)) empty ∙ zero-add _ ∙ sym long,
          a.bytes_are
              ∙ start
              ∙ sym (ap buffers (le-leb (length (printed bs)) (length l) (omega (arith, a.room, ap length whole)))),
        )
