-- The promises about images as C reads and writes them: reading undoes writing, and writing the reading of an image
-- that is not bare. Assumes nothing.
use Prim.Native.Nat.{ℕ, ◌≤◌, ◌<◌}
use mathlib.Core.Path.{◌≡◌, refl, sym, ap, subst, ◌∙◌}
use mathlib.Core.Bool.{true, false}
use mathlib.Core.List.{List}
use native.Mathlib.Decide.{ℕ_discrete, dec_le}
use native.Mathlib.Omega.{arith}
use lib.ListN.{length, get_or, take}
use Rattle.counting.specs.Placing.{placed}
use Rattle.counting.proofs.PlacingLaws.{take_first}
use Rattle.machine.specs.Refusals.{accepted}
use Rattle.machine.specs.Rows.{no_passes}
use Rattle.machine.specs.Tables.{Table, row, sound, table_refusal}
use Rattle.machine.specs.Images.{says_passes, image_refusal, table_in, image_of, bare_image_of}
use Rattle.machine.specs.Exports.{Loaded, loaded, read_in}
use Rattle.machine.proofs.SoundRows.{sound-accepted}
use Rattle.image_theorems.proofs.Reading.{Accepted, accepted_facts, facts_accepted}
use Rattle.image_theorems.proofs.RoundTrip.{image_accepted, image_back, table_sound, table_image}
use Rattle.image_theorems.proofs.RoundTrip.{table_bare, table_passes}
use Rattle.exports.proofs.ExportLaws.{loaded_short, loaded_all, read_table, read_refused}

-- The image of a sound table, read into rows that are enough, is that table in the first of them.
-- Excludes: a cell that is lost on the way; a row past the table that changes.
pub read_undoes_write : (t l : Table) → sound t ≡ true → length t ≤ length l
    → read_in (image_of t) l
    ≡ record { answer = record { refusal = accepted; place = 0; size = length t }; rows = placed l 0 t }
read_undoes_write t l s enough =
    let ok = sound-accepted t s in
    let read = ap (λ f. f.refusal) (facts_accepted (image_of t) (length t) true (image_accepted t ok)) in
    read_table (image_of t) l read
    ∙ ap (λ (u : Table). loaded u l) (image_back t ok)
    ∙ loaded_all t l enough

-- An image that was read leaves in the first rows, as many as the answer says, a sound table whose image it is; or,
-- where its first word says that no passes follow, whose bare image it is, and whose counts are 0.
-- Excludes: a bit that reading passes over; a table that writing then refuses; counts that the lent rows had before.
pub write_undoes_read : (ws : List ℕ) (l : Table) → (read_in ws l).answer.refusal ≡ accepted
    → let t = take (read_in ws l).answer.size (read_in ws l).rows in
    (table_refusal t ≡ accepted)
    × (says_passes (get_or ws 0 0) ≡ true → image_of t ≡ ws)
    × (says_passes (get_or ws 0 0) ≡ false
    → (bare_image_of t ≡ ws) × ((q : ℕ) → q < length t → (row t q).passes ≡ no_passes))
write_undoes_read ws l z = go (ℕ_discrete (image_refusal ws).refusal accepted) (dec_le (length u) (length l))
  where
    u : Table
    u = table_in ws

    rows_of : Loaded → Table
    rows_of o = take o.answer.size o.rows

    Good : Table → Type 0
    Good t =
        (table_refusal t ≡ accepted)
        × (says_passes (get_or ws 0 0) ≡ true → image_of t ≡ ws)
        × (says_passes (get_or ws 0 0) ≡ false
        → (bare_image_of t ≡ ws) × ((q : ℕ) → q < length t → (row t q).passes ≡ no_passes))

    go : Dec ((image_refusal ws).refusal ≡ accepted) → Dec (length u ≤ length l) → Good (rows_of (read_in ws l))
    go (no bad) few = absurd (bad (sym (ap (λ (o : Loaded). o.answer.refusal) (read_refused ws l bad)) ∙ z))
    go (yes read) (no few) =
        let short = read_table ws l read ∙ loaded_short u l (omega (arith, few)) in
        absurd (omega (arith, sym (ap (λ (o : Loaded). o.answer.refusal) short) ∙ z))
    go (yes read) (yes enough) =
        let facts = accepted_facts ws read in
        let is = ap rows_of (read_table ws l read ∙ loaded_all u l enough) ∙ take_first l u (length u) refl in
        subst Good (sym is) (
          table_sound ws _ _ facts,
          λ e. table_image ws _ (subst (Accepted ws _) e facts),
          λ e. let bare = subst (Accepted ws _) e facts in (table_bare ws _ bare, table_passes ws _ bare),
        )
