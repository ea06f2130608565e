-- The check of a table row by row, and the refusals that it ends in. Assumes nothing.
use Prim.Native.Nat.{ℕ, ◌+◌, ◌<◌}
use mathlib.Core.Path.{◌≡◌, refl, sym, ap, ◌∙◌}
use mathlib.Core.Bool.{Bool, true, false, cond, not, ◌&&◌, and_assoc, and-true, and-false}
use mathlib.Core.List.{List}
use native.Mathlib.Numerals.{add-one}
use lib.ListN.{length, get_or, drop, replicate}
use lib.Seq.{drop-cons, drop-length}
use Rattle.machine.specs.Refusals.{accepted, wrong_size, unsound_row, number}
use Rattle.machine.specs.Tables.{Table, size_fits, sound_passes, sound_row, sound_from, table_refusal}
use Rattle.machine.specs.declared.Row.{Row}
use Rattle.machine.specs.declared.Refusal.{Refusal}
use Rattle.rows.specs.Bounds.{RowFits}
use Rattle.rows.specs.Passes.{clear_past, Clear, Joined}
use Rattle.rows.proofs.PassLaws.{passes_sound, own_first, clear_none, clear_joined}
use Rattle.tables.proofs.RefusalLaws.{size_taken, size_refused}

-- every row before row q fits, and `joined` are their passes: whether the table is sound is up to these and to the rows
-- from row q on
abbrev pub SoundSo : Table → ℕ → ℕ → List ℕ → Type 0
SoundSo t n q joined = sound_from n 0 t ≡ (clear_past n joined && sound_from n q (drop q t))

module _ (t : Table) where
  -- before the first row
  pub sound_start : (n : ℕ) → SoundSo t n 0 (replicate 16 0)
  sound_start n = sym (ap (λ (b : Bool). b && sound_from n 0 t) (clear_none n))

  -- row q looked at: what the code has found out of it, and its passes
  module _ (n q : ℕ) (l : q < length t) (d : Row) (b : Bool) (fits : RowFits n q (get_or t q d) b) where
    abbrev rest_from : ℕ → Bool
    rest_from k = sound_from n k (drop k t)

    at_row : rest_from q ≡ (sound_row n q (get_or t q d) && rest_from (q + 1))
    unfolding sound_from
    at_row = rw (drop-cons t q d l, add-one q) refl

    -- it fits: its passes are joined to the others
    pub sound_suc : (joined next : List ℕ) → SoundSo t n q joined → b ≡ true → Joined joined (get_or t q d).passes next
        → SoundSo t n (q + 1) next
    sound_suc joined next h e j =
        let own = (get_or t q d).passes in
        let clear : Clear n own (clear_past n own) = record { told = refl; sixteen = j.sixteen; low = j.low } in
        let sound = fits.is (clear_past n own) (passes_sound n q own (clear_past n own) clear) in
        let row_is = sym sound ∙ ap (λ (x : Bool). x && clear_past n own) e in
        h
        ∙ ap (λ (x : Bool). clear_past n joined && x) (at_row ∙ ap (λ (x : Bool). x && rest_from (q + 1)) row_is)
        ∙ sym (and_assoc (clear_past n joined) (clear_past n own) (rest_from (q + 1)))
        ∙ ap (λ (x : Bool). x && rest_from (q + 1)) (sym (clear_joined n j))

    -- it does not
    pub sound_not : (joined : List ℕ) → SoundSo t n q joined → b ≡ false → sound_from n 0 t ≡ false
    sound_not joined h e =
        let own = (get_or t q d).passes in
        let sound = fits.is (sound_passes n q own) (own_first n q own) in
        let row_is = sym sound ∙ ap (λ (x : Bool). x && sound_passes n q own) e in
        h
        ∙ ap (λ (x : Bool). clear_past n joined && x) (at_row ∙ ap (λ (x : Bool). x && rest_from (q + 1)) row_is)
        ∙ and-false (clear_past n joined)

  -- after the last row
  pub sound_all : (n q : ℕ) (joined : List ℕ) → q ≡ length t → SoundSo t n q joined
      → sound_from n 0 t ≡ clear_past n joined
  unfolding sound_from
  sound_all n q joined end h =
      h ∙ rw (end, drop-length t) (and-true (clear_past n joined))

  pub refused_size : (e : Refusal) → number e ≡ cond (size_fits (length t)) accepted wrong_size
      → number e ≡ table_refusal t
  unfolding table_refusal
  refused_size e h = let no = size_refused e _ h in rw no (h ∙ rw no refl)

  -- the size fits
  pub judged : (b : Bool) → accepted ≡ cond (size_fits (length t)) accepted wrong_size
      → sound_from (length t) 0 t ≡ b → table_refusal t ≡ cond b accepted unsound_row
  unfolding table_refusal
  judged b h e = rw (size_taken _ h, e) (either b)
    where
      either : (b : Bool) → cond (not b) unsound_row accepted ≡ cond b accepted unsound_row
      either true = refl
      either false = refl
