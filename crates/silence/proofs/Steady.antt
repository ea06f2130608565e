-- What holds of every table that a list of words made from a fresh one, as far as the bound needs it.
--
--   SteadyRow q r  <=>  bb is set only where it may be; who rests shows no act; who competes is not in its own est.
--   Steady t       <=>  t is sound, and each row has these.
--   Quiet n t      <=>  t is steady, has n processes, each at 10 or at 21 to 24, and somebody competes.
--   Arrives t b    <=>  some process is at 30 after at most b rounds.
--
-- Each clause speaks of every number q: past the end of the table the rows are blank, and all clauses hold there.
-- Assumes nothing.
use Prim.Native.Nat.{ℕ, ◌≤◌, ◌<◌}
use mathlib.Core.Path.{◌≡◌}
use mathlib.Core.Bool.{true, false}
use mathlib.Core.List.{List, [], ◌∷◌}
use lib.ListN.{length}
use Rattle.counting.specs.Sets.{has}
use Rattle.machine.specs.Tables.{Table, row, one_of, table_refusal, competes}
use Rattle.machine.specs.Census.{critical}
use Rattle.machine.specs.Rounds.{rounds}
use Rattle.machine.specs.declared.Row.{Row}
use Rattle.machine.proofs.BbInside.{BbInside}

pub record SteadyRow (q : ℕ) (r : Row) : Type 0 where
  pub bb_inside : BbInside r
  pub rest_unseen : r.location ≡ 10 → r.act ≡ 0
  pub est_others : competes r ≡ true → has r.est q ≡ false

pub record Steady (t : Table) : Type 0 where
  pub sound : table_refusal t ≡ 0
  pub rows : (q : ℕ) → SteadyRow q (row t q)

-- where one who competes is in a quiet table, and where a process is
abbrev pub waiting_places : List ℕ
waiting_places = 21 ∷ 22 ∷ 23 ∷ 24 ∷ []

abbrev pub quiet_places : List ℕ
quiet_places = 10 ∷ waiting_places

pub record Quiet (n : ℕ) (t : Table) : Type 0 where
  pub steady : Steady t
  pub size_is : length t ≡ n
  pub places : (q : ℕ) → q < n → one_of (row t q).location quiet_places ≡ true
  pub somebody : (q : ℕ) × (competes (row t q) ≡ true)

abbrev pub Arrives : Table → ℕ → Type 0
Arrives t b = (r : ℕ) × (r ≤ b) × (1 ≤ critical (rounds r t))
