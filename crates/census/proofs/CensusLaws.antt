-- What a census is once its table is checked. Assumes nothing.
use mathlib.Core.Path.{◌≡◌, refl}
use lib.ListN.{replicate}
use borrow.Author.Tests.{eq-eqb, ne_eqb}
use Rattle.machine.specs.Tables.{Table, table_refusal}
use Rattle.machine.specs.Census.{critical, waiting, below, held, figures, census_of}

module _ (t : Table) where
  pub census_refused : (table_refusal t ≡ 0 → ⊥)
      → census_of t
      ≡ record {
        refusal = table_refusal t;
        critical = 0;
        waiting = 0;
        below = replicate 17 0;
        held = replicate 17 0;
      }
  unfolding census_of
  census_refused n = rw (ne_eqb (table_refusal t) 0 n) refl

  pub census_counted : table_refusal t ≡ 0
      → census_of t
      ≡ record {
        refusal = 0;
        critical = critical t;
        waiting = waiting t;
        below = figures below t;
        held = figures held t;
      }
  unfolding census_of
  census_counted e = rw (eq-eqb (table_refusal t) 0 e) refl
