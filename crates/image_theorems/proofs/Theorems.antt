-- The promises about images (MANUAL, "Images"), for all tables and all lists of words. Assumes nothing.
use Prim.Native.Nat.{ℕ, ◌<◌}
use mathlib.Core.Path.{◌≡◌, refl, sym, ap, ◌∙◌, subst}
use mathlib.Core.Bool.{Bool, true, false}
use mathlib.Core.Logic.{◌↔◌, ◌⊎◌, inl, inr}
use mathlib.Core.List.{List}
use native.Mathlib.Omega.{arith}
use lib.ListN.{length, get_or}
use Rattle.machine.specs.Rows.{no_passes}
use Rattle.machine.specs.Tables.{Table, row, sound, handed}
use Rattle.machine.specs.Images.{image_length, says_passes, image_of, bare_image_of, table_in, read_image}
use Rattle.machine.proofs.SoundRows.{sound-accepted, accepted-sound, sound_rows}
use Rattle.image_theorems.proofs.Reading.{Accepted, accepted_facts, facts_accepted, read_refusal}
use Rattle.image_theorems.proofs.Reading.{read_accepted}
use Rattle.image_theorems.proofs.RoundTrip.{length_image, image_accepted, image_back, bare_accepted, bare_back}
use Rattle.image_theorems.proofs.RoundTrip.{table_sound, table_image, table_bare, table_passes}

-- Reading what was written gives the same table.
-- Excludes: an image that loses a cell or a count, or is refused. Proved in RoundTrip.
pub read_written : (t : Table) → sound t ≡ true → read_image (image_of t) ≡ handed 0 0 t
read_written t s =
    let ok = sound-accepted t s in
    read_accepted (image_of t) (ap (λ f. f.refusal) (facts_accepted (image_of t) (length t) true (image_accepted t ok)))
    ∙ ap (handed 0 0) (image_back t ok)

-- Writing what was read gives the same words, of any size, and what was read is sound.
-- Excludes: a bit that reading passes over; a table that the engine then refuses. Proved in RoundTrip.
pub written_read : (ws : List ℕ)
    → (read_image ws).refusal ≡ 0
    → says_passes (get_or ws 0 0) ≡ true
    → (read_image ws ≡ handed 0 0 (table_in ws)) × (sound (table_in ws) ≡ true) × (image_of (table_in ws) ≡ ws)
written_read ws z full =
    let y = sym (read_refusal ws) ∙ z in
    let a = subst (Accepted ws _) full (accepted_facts ws y) in
    (read_accepted ws y, accepted-sound (table_in ws) (table_sound ws _ true a), table_image ws _ a)

-- Reading the bare image of a table whose counts are 0 gives that table.
-- Excludes: a count that is not 0 after reading; a bare image that is refused. Proved in RoundTrip.
pub read_bare : (t : Table) → sound t ≡ true → ((q : ℕ) → q < length t → (row t q).passes ≡ no_passes)
    → read_image (bare_image_of t) ≡ handed 0 0 t
read_bare t s none =
    let ok = sound-accepted t s in
    read_accepted (bare_image_of t)
    (ap (λ f. f.refusal) (facts_accepted (bare_image_of t) (length t) false (bare_accepted t ok)))
    ∙ ap (handed 0 0) (bare_back t ok none)

-- A bare image that is read is that of the table read, which is sound and whose counts are 0.
-- Excludes: a bit that reading passes over; a count that is taken from elsewhere. Proved in RoundTrip.
pub bare_read : (ws : List ℕ)
    → (read_image ws).refusal ≡ 0
    → says_passes (get_or ws 0 0) ≡ false
    → (read_image ws ≡ handed 0 0 (table_in ws))
    × (sound (table_in ws) ≡ true)
    × ((q : ℕ) → q < length (table_in ws) → (row (table_in ws) q).passes ≡ no_passes)
    × (bare_image_of (table_in ws) ≡ ws)
bare_read ws z bare =
    let y = sym (read_refusal ws) ∙ z in
    let a = subst (Accepted ws _) bare (accepted_facts ws y) in (
      read_accepted ws y,
      accepted-sound (table_in ws) (table_sound ws _ false a),
      table_passes ws _ a,
      table_bare ws _ a,
    )

-- Reading accepts exactly the images of sound tables, and the bare images of those whose counts are 0.
pub accepts_exactly : (ws : List ℕ)
    → ((read_image ws).refusal ≡ 0)
    ↔ (((t : Table) × (sound t ≡ true) × (image_of t ≡ ws))
    ⊎ ((t : Table) × (sound t ≡ true) × ((q : ℕ) → q < length t → (row t q).passes ≡ no_passes) × (bare_image_of t ≡ ws)))
accepts_exactly ws = (λ z. from (says_passes (get_or ws 0 0)) refl z, to)
  where
    Full : Type 0
    Full = (t : Table) × (sound t ≡ true) × (image_of t ≡ ws)

    Bare : Type 0
    Bare =
        (t : Table) × (sound t ≡ true) × ((q : ℕ) → q < length t → (row t q).passes ≡ no_passes) × (bare_image_of t ≡ ws)

    from : (b : Bool) → says_passes (get_or ws 0 0) ≡ b → (read_image ws).refusal ≡ 0 → Full ⊎ Bare
    from true e z =
        let w = written_read ws z e in
        inl (table_in ws, w.1, w.2)
    from false e z =
        let w = bare_read ws z e in
        inr (table_in ws, w.1, w.2, w.3)

    to : Full ⊎ Bare → (read_image ws).refusal ≡ 0
    to (inl x) =
        subst (λ (v : List ℕ). (read_image v).refusal ≡ 0) x.2 (ap (λ r. r.refusal) (read_written x.0 x.1))
    to (inr x) =
        subst (λ (v : List ℕ). (read_image v).refusal ≡ 0) x.3
        (ap (λ r. r.refusal) (read_bare x.0 x.1 x.2))

-- Different sound tables have different images.
pub images_differ : (t u : Table) → sound t ≡ true → sound u ≡ true → image_of t ≡ image_of u → t ≡ u
images_differ t u s r e =
    sym (image_back t (sound-accepted t s)) ∙ ap table_in e ∙ image_back u (sound-accepted u r)

-- The image of N processes has as many words as `image_length` says.
pub image_length_lem : (t : Table) → sound t ≡ true → length (image_of t) ≡ image_length (length t)
image_length_lem t s =
    let few = sound_rows t (sound-accepted t s) in
    length_image t (omega arith)
