-- What the lent rows hold, by the cases of machine/specs/Exports. Assumes nothing.
use Prim.Native.Nat.{ℕ, ◌≤◌, ◌<◌}
use mathlib.Core.Path.{◌≡◌, refl, sym, ap, ◌∙◌}
use mathlib.Core.Bool.{Bool, true, false}
use mathlib.Core.List.{List, ◌++◌}
use native.Mathlib.Omega.{arith}
use lib.ListN.{length, take, drop}
use borrow.Author.Tests.{le-leb, lt-leb, eq-eqb, ne_eqb}
use Rattle.counting.specs.Placing.{placed}
use Rattle.counting.proofs.PlacingLaws.{placed_first}
use Rattle.machine.specs.Refusals.{accepted, too_few_lent, number}
use Rattle.machine.specs.Tables.{Table}
use Rattle.machine.specs.Images.{Found, image_refusal, table_in}
use Rattle.machine.specs.Exports.{Loaded, unread, loaded, read_in}
use Rattle.machine.specs.declared.ImageError.{ImageError}
use Rattle.tables.proofs.RefusalLaws.{number_some}
use Rattle.images.proofs.ReadingLaws as reading

-- ---- a table read

pub loaded_short : (t l : Table) → length l < length t → loaded t l ≡ unread l too_few_lent 0
loaded_short t l h = rw (lt-leb (length t) (length l) h) refl

pub loaded_all : (t l : Table) → length t ≤ length l
    → loaded t l
    ≡ record { answer = record { refusal = accepted; place = 0; size = length t }; rows = placed l 0 t }
loaded_all t l h = rw (le-leb (length t) (length l) h) refl

module _ (ws : List ℕ) (l : Table) where
  abbrev by : Bool → Loaded
  by b =
      elim b [
        | false ↦ unread l (image_refusal ws).refusal (image_refusal ws).place
        | true ↦ loaded (table_in ws) l
      ]

  pub read_table : (image_refusal ws).refusal ≡ accepted → read_in ws l ≡ loaded (table_in ws) l
  unfolding read_in
  read_table e = ap by (eq-eqb (image_refusal ws).refusal accepted e)

  pub read_refused : ((image_refusal ws).refusal ≡ accepted → ⊥)
      → read_in ws l ≡ unread l (image_refusal ws).refusal (image_refusal ws).place
  unfolding read_in
  read_refused e = ap by (ne_eqb (image_refusal ws).refusal accepted e)

-- ---- the answers to the image

module _ (ws : List ℕ) (l : Table) where
  -- a table in the first n of the rows y
  module _ (y : Table) (n : ℕ) (t : reading.Loaded ws y n) where
    pub read_all : n ≤ length l
        → read_in ws l
        ≡ record { answer = record { refusal = accepted; place = 0; size = n }; rows = take n y ++ drop n l }
    read_all h =
        read_table ws l t.accepted
        ∙ loaded_all (table_in ws) l (omega (arith, t.size_is))
        ∙ rw (placed_first l (table_in ws), t.size_is, t.rows_are) refl

    pub read_short : length l < n → read_in ws l ≡ unread l too_few_lent 0
    read_short h = read_table ws l t.accepted ∙ loaded_short (table_in ws) l (omega (arith, t.size_is))

  -- a refusal
  pub read_error : (e : ImageError) → record { refusal = number e.refusal; place = e.place } ≡ image_refusal ws
      → read_in ws l ≡ unread l (number e.refusal) e.place
  read_error e is =
      read_refused ws l (λ z. number_some e.refusal (ap (λ (f : Found). f.refusal) is ∙ z))
      ∙ ap (λ (f : Found). unread l f.refusal f.place) (sym is)
