-- Laws of tables: the row of a process after an assignment, and assignments in another order.
--
--   row_same, row_other, row_over, row-map    the row of q after a row was set, past the end, after a map
--   row_cases                                 what holds of the new row and of the others holds of each row
--   turn_same, turn_other                     the row of q after an assignment to turn[k]
--   turn_free, map_free                       what a turn cell, or a map, leaves alone, for any q
--   map-set                                   a map over a table in which a row was set
--
-- Assumes nothing.
use Prim.Native.Nat.{ℕ, zero, suc, ◌≤◌, ◌<◌}
use mathlib.Core.Path.{◌≡◌, refl, sym, ap, subst}
use mathlib.Core.Logic.{◌≢◌}
use mathlib.Core.List.{[], ◌∷◌, map}
use native.Mathlib.Decide.{ℕ_discrete, dec_lt}
use native.Mathlib.Omega.{arith}
use lib.ListN.{length, set, get_or-eq_default}
use lib.Seq.{get_or-set_same, get_or-set_other, set_out}
use Rattle.machine.specs.Rows.{blank, with_turn}
use Rattle.machine.specs.Tables.{Table, row}
use Rattle.machine.specs.System.{turn_assigned}
use Rattle.machine.specs.declared.Row.{Row}

-- ---- one row

pub row_same : (t : Table) (p : ℕ) (r : Row) → p < length t → row (set t p r) p ≡ r
row_same t p r l = get_or-set_same t p r blank l

pub row_other : (t : Table) (p q : ℕ) (r : Row) → q ≢ p → row (set t p r) q ≡ row t q
row_other t p q r ne = get_or-set_other t p q r blank ne

-- no process stands past the end
pub row_over : (t : Table) (q : ℕ) → length t ≤ q → row t q ≡ blank
row_over t q l = get_or-eq_default t blank l

pub row-map : (f : Row → Row) (t : Table) (q : ℕ) → q < length t → row (map f t) q ≡ f (row t q)
row-map f [] q l = absurd (omega arith)
row-map f (r ∷ t) zero l = refl
row-map f (r ∷ t) (suc q) l = row-map f t q (omega arith)

-- each row of a table whose row p was set: what holds of the new row at p, and of the old ones elsewhere
pub row_cases : (P : ℕ → Row → Type 0) (t : Table) (p : ℕ) (r : Row)
    → p < length t
    → P p r
    → ((q : ℕ) → q ≢ p → P q (row t q))
    → (q : ℕ) → P q (row (set t p r) q)
row_cases P t p r l a b q = go (ℕ_discrete q p)
  where
    go : Dec (q ≡ p) → P q (row (set t p r) q)
    go (yes e) = subst (λ (x : ℕ). P x (row (set t p r) x)) (sym e) (subst (P p) (sym (row_same t p r l)) a)
    go (no ne) = subst (P q) (sym (row_other t p q r ne)) (b q ne)

-- ---- turn cells

pub turn_same : (t : Table) (k v : ℕ) → k < length t → row (turn_assigned t k v) k ≡ with_turn v (row t k)
turn_same t k v l = row_same t k (with_turn v (row t k)) l

pub turn_other : (t : Table) (k v q : ℕ) → q ≢ k → row (turn_assigned t k v) q ≡ row t q
turn_other t k v q ne = row_other t k q (with_turn v (row t k)) ne

-- what no turn cell decides holds of a row after an assignment to one, within the table or not
pub turn_free : (P : Row → Type 0) (t : Table) (k v q : ℕ)
    → ((r : Row) → P r → P (with_turn v r))
    → P (row t q)
    → P (row (turn_assigned t k v) q)
turn_free P t k v q f h = go (dec_lt k (length t)) (ℕ_discrete q k)
  where
    go : Dec (k < length t) → Dec (q ≡ k) → P (row (turn_assigned t k v) q)
    go (no nl) d = subst (λ (u : Table). P (row u q)) (sym (set_out t k (with_turn v (row t k)) (omega (arith, nl)))) h
    go (yes l) (no ne) = subst P (sym (turn_other t k v q ne)) h
    go (yes l) (yes e) =
        subst (λ (x : ℕ). P (row (turn_assigned t k v) x)) (sym e)
        (subst P (sym (turn_same t k v l)) (f (row t k) (subst (λ (x : ℕ). P (row t x)) e h)))

-- ---- maps

-- what f keeps holds of a row after a map, within the table or not
pub map_free : (P : Row → Type 0) (f : Row → Row) (t : Table) (q : ℕ)
    → ((r : Row) → P r → P (f r))
    → P (row t q)
    → P (row (map f t) q)
map_free P f [] q h k = k
map_free P f (r ∷ t) zero h k = h r k
map_free P f (r ∷ t) (suc q) h k = map_free P f t q h k

pub map-set : (f : Row → Row) (t : Table) (p : ℕ) (r : Row) → map f (set t p r) ≡ set (map f t) p (f r)
map-set f [] p r = refl
map-set f (s ∷ t) zero r = refl
map-set f (s ∷ t) (suc p) r = ap (λ (u : Table). f s ∷ u) (map-set f t p r)
