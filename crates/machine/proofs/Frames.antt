-- What a step leaves alone.
--
--   Untouched r s    <=>  row s is row r but for its turn and its ahead; `untouched_twice`: first to s, then to x.
--   step_others           a step of p leaves every other row so
--
-- Assumes nothing.
use Prim.Native.Nat.{ℕ}
use mathlib.Core.Path.{◌≡◌, refl, sym, ◌∙◌, subst}
use mathlib.Core.Logic.{◌≢◌}
use mathlib.Core.List.{List, map}
use lib.ListN.{set}
use Rattle.counting.specs.Sets.{without}
use Rattle.machine.specs.Rows.{with_ahead, with_turn, with_passes}
use Rattle.machine.specs.Tables.{Table, row}
use Rattle.machine.specs.System.{turn_assigned, Step, exited}
use Rattle.machine.specs.System.Step.{rests, comes, flickers_20, enters, starts_scan, wins, discards, keeps}
use Rattle.machine.specs.System.Step.{ends_scan, lowers, to_push, waits, skips, flickers_24, pushes, exits}
use Rattle.machine.specs.System.Step.{flickers_40, leaves, cancels}
use Rattle.machine.specs.declared.Row.{Row}
use Rattle.machine.proofs.TableLaws.{row_other, turn_free, map_free}

pub record Untouched (r s : Row) : Type 0 where
  pub location_same : s.location ≡ r.location
  pub act_same : s.act ≡ r.act
  pub bb_same : s.bb ≡ r.bb
  pub level_same : s.level ≡ r.level
  pub est_same : s.est ≡ r.est
  pub lis_same : s.lis ≡ r.lis

-- ---- the other rows

-- what a step at 24 and a step at 30 keep of another row, every step keeps
module _ (P : Row → Type 0) (t : Table) (p q : ℕ) (ne : q ≢ p)
    (writes : (row t p).location ≡ 24 → (v : ℕ) (r : Row) → P r → P (with_turn v r))
    (removes : (row t p).location ≡ 30 → (r : Row) → P r → P (exited p r))
  where
    same : (v : Table) (r : Row) → P (row v q) → P (row (set v p r) q)
    same v r h = subst P (sym (row_other v p q r ne)) h

    pub other_row : {u : Table} → Step t p u → P (row t q) → P (row u q)
    other_row (rests e) h = h
    other_row (comes e) h = same t _ h
    other_row (flickers_20 a e b) h = same t _ h
    other_row (enters e) h = same t _ h
    other_row (starts_scan e b) h = same t _ h
    other_row (wins e b) h = same t _ h
    other_row (discards x e b a) h = same t _ h
    other_row (keeps x e b a) h = same t _ h
    other_row (ends_scan e b) h = same t _ h
    other_row (lowers e b) h = same t _ h
    other_row (to_push e a b) h = same t _ h
    other_row (waits e a b v) h = same t _ h
    other_row (skips e a b v) h = same t _ h
    other_row (flickers_24 a e b) h = turn_free P t (row t p).level a q (writes e a) h
    other_row (pushes e) h =
        same (turn_assigned t (row t p).level p) _ (turn_free P t (row t p).level p q (writes e p) h)
    other_row (exits e) h =
        same (map (exited p) t) _ (map_free P (exited p) t q (removes e) h)
    other_row (flickers_40 a e b) h = same t _ h
    other_row (leaves e) h = same t _ h
    other_row (cancels e) h = same t _ h

pub untouched : (r : Row) → Untouched r r
untouched r =
    record {
      location_same = refl;
      act_same = refl;
      bb_same = refl;
      level_same = refl;
      est_same = refl;
      lis_same = refl;
    }

pub untouched_twice : {r s x : Row} → Untouched r s → Untouched s x → Untouched r x
untouched_twice a b =
    record {
      location_same = b.location_same ∙ a.location_same;
      act_same = b.act_same ∙ a.act_same;
      bb_same = b.bb_same ∙ a.bb_same;
      level_same = b.level_same ∙ a.level_same;
      est_same = b.est_same ∙ a.est_same;
      lis_same = b.lis_same ∙ a.lis_same;
    }

-- the same cells, by another row with the same cells
again : {r s : Row} → Untouched r s → (v a : ℕ) (l : List ℕ) → Untouched r (with_turn v (with_ahead a (with_passes l s)))
again h v a l =
    record {
      location_same = h.location_same;
      act_same = h.act_same;
      bb_same = h.bb_same;
      level_same = h.level_same;
      est_same = h.est_same;
      lis_same = h.lis_same;
    }

pub step_others : (t u : Table) (p q : ℕ) → Step t p u → q ≢ p → Untouched (row t q) (row u q)
step_others t u p q x ne =
    other_row (Untouched (row t q)) t p q ne
    (λ e v s h. again h v s.ahead s.passes)
    (λ e s h. again h s.turn (without s.ahead p) (set s.passes p 0))
    x (untouched (row t q))
