-- What an assignment leaves alone: every row but that of p, the turn cells apart.
--
--   bare r             ==   row r without its turn cell, which is no variable of the row's process.
--   Becomes t p g s u  <=>  from t to u the row of p becomes s, every other row r becomes g r, turn cells apart.
--   TurnsKept t u      <=>  no turn cell changes; TurnsKeptBut j t u: none but turn[j].
--   other_rows_keep    what holds of s at p and of g r elsewhere holds of every row of u
--
-- Assumes nothing.
use Prim.Native.Nat.{ℕ, ◌<◌}
use mathlib.Core.Path.{◌≡◌, refl, sym, ap, ◌∙◌, subst}
use mathlib.Core.Bool.{true, ◌&&◌, false≢true}
use mathlib.Core.List.{map}
use native.Mathlib.Decide.{ℕ_discrete, dec_lt}
use native.Mathlib.Omega.{arith}
use lib.Dec.{leb}
use lib.ListN.{length, set, length-set, length-map}
use Rattle.machine.specs.Rows.{blank, with_turn}
use Rattle.machine.specs.Tables.{Table, row, competes}
use Rattle.machine.specs.System.{assigned, turn_assigned}
use Rattle.machine.specs.declared.Row.{Row}
use Rattle.machine.proofs.TableLaws.{row_same, row_other, row_over, row-map, row_cases}

-- a row without its turn cell
abbrev pub bare : Row → Row
bare r = with_turn 0 r

pub record Becomes (t : Table) (p : ℕ) (g : Row → Row) (s : Row) (u : Table) : Type 0 where
  pub same_size : length u ≡ length t
  pub own : bare (row u p) ≡ bare s
  pub other : (q : ℕ) → (q ≡ p → ⊥) → bare (row u q) ≡ bare (g (row t q))

abbrev pub TurnsKept : Table → Table → Type 0
TurnsKept t u = (k : ℕ) → (row u k).turn ≡ (row t k).turn

abbrev pub TurnsKeptBut : ℕ → Table → Table → Type 0
TurnsKeptBut j t u = (k : ℕ) → (k ≡ j → ⊥) → (row u k).turn ≡ (row t k).turn

-- P speaks of no turn cell, so that P q (bare r) is P q r
pub other_rows_keep : {t u : Table} {p : ℕ} {g : Row → Row} {s : Row} (P : ℕ → Row → Type 0)
    → Becomes t p g s u
    → P p (bare s)
    → ((q : ℕ) → (q ≡ p → ⊥) → P q (bare (g (row t q))))
    → (q : ℕ)
    → P q (bare (row u q))
other_rows_keep {t} {u} {p} {g} {s} P b own other q = go (ℕ_discrete q p)
  where
    go : Dec (q ≡ p) → P q (bare (row u q))
    go (yes e) = subst (λ (x : ℕ). P x (bare (row u x))) (sym e) (subst (P p) (sym b.own) own)
    go (no ne) = subst (P q) (sym (b.other q ne)) (other q ne)

-- ---- assignments

-- the row of p becomes s
module _ (t : Table) (p : ℕ) (l : p < length t) (s : Row) where
  pub set_becomes : Becomes t p (λ r. r) s (set t p s)
  set_becomes =
      record {
        same_size = length-set t p s;
        own = ap bare (row_same t p s l);
        other = λ q ne. ap bare (row_other t p q s ne);
      }

  pub set_keeps_turns : s.turn ≡ (row t p).turn → TurnsKept t (set t p s)
  set_keeps_turns e = row_cases (λ k r. r.turn ≡ (row t k).turn) t p s l e (λ k ne. refl)

-- turn[j] becomes v
module _ (t : Table) (j v : ℕ) (l : j < length t) where
  pub turn_keeps_rows : (q : ℕ) → bare (row (turn_assigned t j v) q) ≡ bare (row t q)
  turn_keeps_rows = row_cases (λ q r. bare r ≡ bare (row t q)) t j (with_turn v (row t j)) l refl (λ q ne. refl)

  pub turn_becomes : (p : ℕ) → Becomes t p (λ r. r) (row t p) (turn_assigned t j v)
  turn_becomes p =
      record {
        same_size = length-set t j (with_turn v (row t j));
        own = turn_keeps_rows p;
        other = λ q ne. turn_keeps_rows q;
      }

  pub turn_is : (row (turn_assigned t j v) j).turn ≡ v
  turn_is = ap (λ (r : Row). r.turn) (row_same t j (with_turn v (row t j)) l)

  pub other_turns_keep : TurnsKeptBut j t (turn_assigned t j v)
  other_turns_keep k ne = ap (λ (r : Row). r.turn) (row_other t j k (with_turn v (row t j)) ne)

-- turn[j] becomes v, and then the row of p becomes f of it; f keeps the turn cell, and sets the others whatever it is
module _ (t : Table) (j v : ℕ) (i : j < length t) (p : ℕ) (l : p < length t) (f : Row → Row)
    (keeps : (r : Row) → (f r).turn ≡ r.turn) (blind : (r : Row) → bare (f r) ≡ bare (f (bare r))) where
  abbrev put : Table
  put = turn_assigned t j v

  in_put : p < length put
  in_put = subst (λ (n : ℕ). p < n) (sym (turn_becomes t j v i p).same_size) l

  own_put : bare (f (row put p)) ≡ bare (f (row t p))
  own_put = blind (row put p) ∙ ap (λ (r : Row). bare (f r)) (turn_keeps_rows t j v i p) ∙ sym (blind (row t p))

  pub turn_set_becomes : Becomes t p (λ r. r) (f (row t p)) (assigned put p f)
  turn_set_becomes =
      let b = set_becomes put p in_put (f (row put p)) in
      record {
        same_size = b.same_size ∙ (turn_becomes t j v i p).same_size;
        own = b.own ∙ own_put;
        other = λ q ne. b.other q ne ∙ turn_keeps_rows t j v i q;
      }

  turn_set_turns : TurnsKept put (assigned put p f)
  turn_set_turns = set_keeps_turns put p in_put (f (row put p)) (keeps (row put p))

  pub turn_set_is : (row (assigned put p f) j).turn ≡ v
  turn_set_is = turn_set_turns j ∙ turn_is t j v i

  pub turn_set_others : TurnsKeptBut j t (assigned put p f)
  turn_set_others k ne = turn_set_turns k ∙ other_turns_keep t j v i k ne

-- every row r becomes g r, and then that of p becomes f of it
pub map_becomes : (t : Table) (p : ℕ) (g f : Row → Row)
    → p < length t
    → bare (g blank) ≡ bare blank
    → Becomes t p g (f (g (row t p))) (assigned (map g t) p f)
map_becomes t p g f l z =
    let u : Table = map g t in
    let same : length u ≡ length t = length-map t g in
    let in-u : p < length u = subst (λ (n : ℕ). p < n) (sym same) l in
    let rows : (q : ℕ) → bare (row u q) ≡ bare (g (row t q)) =
    λ q. mapped q (dec_lt q (length t)) in
    record {
      same_size = length-set u p (f (row u p)) ∙ same;
      own = ap bare (row_same u p (f (row u p)) in-u ∙ ap f (row-map g t p l));
      other = λ q ne. ap bare (row_other u p q (f (row u p)) ne) ∙ rows q;
    }
  where
    mapped : (q : ℕ) → Dec (q < length t) → bare (row (map g t) q) ≡ bare (g (row t q))
    mapped q (yes i) = ap bare (row-map g t q i)
    mapped q (no ni) =
        ap bare (row_over (map g t) q (omega (arith, ni, length-map t g)))
        ∙ sym z ∙ ap (λ (r : Row). bare (g r)) (sym (row_over t q (omega (arith, ni))))

-- ---- competing

-- a location decides whether its process competes
pub competes_at : (r : Row) (v : ℕ) → r.location ≡ v → competes r ≡ (leb 21 v && leb v 30)
competes_at r v e = ap (λ (l : ℕ). leb 21 l && leb l 30) e

-- who competes is a process of the table
pub competes_within : (t : Table) (q : ℕ) → competes (row t q) ≡ true → q < length t
competes_within t q h = go (dec_lt q (length t))
  where
    go : Dec (q < length t) → q < length t
    go (yes l) = l
    go (no nl) = absurd (false≢true (sym (ap competes (row_over t q (omega (arith, nl)))) ∙ h))
