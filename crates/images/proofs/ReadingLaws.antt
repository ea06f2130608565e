-- What the answer to an image says of it, and of the rows that it was read into. Assumes nothing.
use mathlib.Core.Path.{◌≡◌, refl, sym, ap, ◌∙◌}
use mathlib.Core.List.{List}
use Prim.Native.Nat.{ℕ, ◌≤◌}
use native.Mathlib.Omega.{arith}
use lib.ListN.{length, get_or, take}
use Rattle.std.specs.Prelude.{Ok}
use Rattle.counting.proofs.PlacingLaws.{take_first}
use Rattle.machine.specs.Tables.{Table, table_refusal}
use Rattle.machine.specs.Images.{says_passes, size_in, image_refusal, table_in}
use Rattle.image_theorems.proofs.Reading.{accepted_facts}
use Rattle.image_theorems.proofs.RoundTrip.{length-table_in, table_sound}
use Rattle.images.specs.Answers.{ReadInto}

-- the first n of the rows y are the table of the image ws, which is sound
pub record Loaded (ws : List ℕ) (y : Table) (n : ℕ) : Type 0 where
  pub accepted : (image_refusal ws).refusal ≡ 0
  pub rows_are : take n y ≡ table_in ws
  pub sound : table_refusal (take n y) ≡ 0
  pub size_is : length (table_in ws) ≡ n
  pub few : n ≤ 16

pub loaded : (ws : List ℕ) (x y : Table) (n : ℕ) → ReadInto ws x y (Ok n) → Loaded ws y n
loaded ws x y n read =
    let ok = sym (ap (λ f. f.refusal) read.found_is) in
    let facts = accepted_facts ws ok in
    let rows = ap (take n) read.rows_are ∙ take_first x (table_in ws) n (sym read.size_is) in
    record {
      accepted = ok;
      rows_are = rows;
      sound =
          ap table_refusal rows ∙ table_sound ws (size_in (get_or ws 0 0)) (says_passes (get_or ws 0 0)) facts;
      size_is = sym read.size_is;
      few =
          omega (arith, facts.header.few, length-table_in ws (size_in (get_or ws 0 0)) refl, read.size_is);
    }
