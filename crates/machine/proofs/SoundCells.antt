-- Sound rows and tables with cells changed: what each assignment needs so that the row, or the table, stays sound.
--
--   without_fits                                  a set less p fits where the set does
--   sound-moved, sound_turn, sound_act ..         a row with cells changed
--   sound-set, sound-turned, sound_mapped         a table of n processes with a row set, a turn cell set, a map over it
--
-- Assumes nothing.
use Prim.Native.Nat.{ℕ, ◌^◌, ◌≤◌, ◌<◌}
use mathlib.Core.Path.{◌≡◌, sym, ap, ◌∙◌, subst}
use mathlib.Core.Bool.{Bool, true, ◌&&◌, not}
use mathlib.Core.List.{List, map}
use native.Mathlib.Decide.{dec_lt}
use native.Mathlib.Nat.{lt_of_lt_of_le}
use native.Mathlib.Omega.{arith}
use lib.Dec.{eqb}
use lib.ListN.{length, set, length-set, length-map}
use lib.Pow.{pow_mono}
use Rattle.counting.specs.Sets.{has, set_of, without}
use Rattle.counting.proofs.SetLaws.{set_of_lt, has-set_of, has_over, has-without, without_lt, set_ext}
use Rattle.machine.specs.Rows.{with_location, with_act, with_bb, with_level, with_est, with_lis, with_ahead, with_turn}
use Rattle.machine.specs.Rows.{with_passes}
use Rattle.machine.specs.Tables.{Table, row, one_of, locations}
use Rattle.machine.specs.System.{turn_assigned}
use Rattle.machine.specs.declared.Row.{Row}
use Rattle.machine.proofs.TableLaws.{row_cases, row-map}
use Rattle.machine.proofs.PassLaws.{SoundPasses}
use Rattle.machine.proofs.SoundRows.{SoundRow}

-- ---- sound rows with cells changed

-- a set of some of n processes, less p, is one
pub without_fits : (s p n : ℕ) → n ≤ 16 → s < 2 ^ n → without s p < 2 ^ n
without_fits s p n l h = rw same (set_of_lt P n)
  where
    P : ℕ → Bool
    P q = has s q && not (eqb q p)

    at : (q : ℕ) → Dec (q < n) → P q ≡ has (set_of P n) q
    at q (yes k) = sym (has-set_of P n q k)
    at q (no nk) =
        ap (λ (b : Bool). b && not (eqb q p)) (has_over s n q h (omega (arith, nk)))
        ∙ sym (has_over (set_of P n) n q (set_of_lt P n) (omega (arith, nk)))

    same : without s p ≡ set_of P n
    same =
        set_ext 16 (without s p) (set_of P n) (without_lt s p) (lt_of_lt_of_le (set_of_lt P n) (pow_mono l))
        (λ q k. has-without s p q k ∙ at q (dec_lt q n))

module _ {n q : ℕ} {r : Row} (s : SoundRow n q r) where
  -- another location, with a level that goes with it
  pub sound-moved : (v k : ℕ)
      → one_of v locations ≡ true
      → k < n
      → (22 ≤ v → v ≤ 24 → 0 < k)
      → (v ≡ 30 → k ≡ 0)
      → SoundRow n q (with_location v (with_level k r))
  sound-moved v k o l some none =
      record {
        location_known = o;
        act_low = s.act_low;
        bb_low = s.bb_low;
        level_low = l;
        est_low = s.est_low;
        lis_low = s.lis_low;
        ahead_low = s.ahead_low;
        turn_low = s.turn_low;
        turn_none = s.turn_none;
        level_some = some;
        level_none = none;
        passes_fit = s.passes_fit;
      }

  -- other cells
  sound-cells : (a b : ℕ) (e i h : ℕ)
      → a < 2
      → b < 2
      → e < 2 ^ n
      → i < 2 ^ n
      → h < 2 ^ n
      → SoundRow n q (with_act a (with_bb b (with_est e (with_lis i (with_ahead h r)))))
  sound-cells a b e i h ha hb he hi hh =
      record {
        location_known = s.location_known;
        act_low = ha;
        bb_low = hb;
        level_low = s.level_low;
        est_low = he;
        lis_low = hi;
        ahead_low = hh;
        turn_low = s.turn_low;
        turn_none = s.turn_none;
        level_some = s.level_some;
        level_none = s.level_none;
        passes_fit = s.passes_fit;
      }

  pub sound_turn : (v : ℕ) → v < n → (q ≡ 0 → v ≡ 0) → SoundRow n q (with_turn v r)
  sound_turn v l none =
      record {
        location_known = s.location_known;
        act_low = s.act_low;
        bb_low = s.bb_low;
        level_low = s.level_low;
        est_low = s.est_low;
        lis_low = s.lis_low;
        ahead_low = s.ahead_low;
        turn_low = l;
        turn_none = none;
        level_some = s.level_some;
        level_none = s.level_none;
        passes_fit = s.passes_fit;
      }

  pub sound_act : (a : ℕ) → a < 2 → SoundRow n q (with_act a r)
  sound_act a l =
      sound-cells a r.bb r.est r.lis r.ahead l s.bb_low s.est_low s.lis_low s.ahead_low

  pub sound_bb : (b : ℕ) → b < 2 → SoundRow n q (with_bb b r)
  sound_bb b l =
      sound-cells r.act b r.est r.lis r.ahead s.act_low l s.est_low s.lis_low s.ahead_low

  pub sound_est : (e : ℕ) → e < 2 ^ n → SoundRow n q (with_est e r)
  sound_est e l =
      sound-cells r.act r.bb e r.lis r.ahead s.act_low s.bb_low l s.lis_low s.ahead_low

  pub sound_lis : (i : ℕ) → i < 2 ^ n → SoundRow n q (with_lis i r)
  sound_lis i l =
      sound-cells r.act r.bb r.est i r.ahead s.act_low s.bb_low s.est_low l s.ahead_low

  pub sound_ahead : (h : ℕ) → h < 2 ^ n → SoundRow n q (with_ahead h r)
  sound_ahead h l =
      sound-cells r.act r.bb r.est r.lis h s.act_low s.bb_low s.est_low s.lis_low l

  pub sound_passes_lem : (l : List ℕ) → SoundPasses n q l → SoundRow n q (with_passes l r)
  sound_passes_lem l h =
      record {
        location_known = s.location_known;
        act_low = s.act_low;
        bb_low = s.bb_low;
        level_low = s.level_low;
        est_low = s.est_low;
        lis_low = s.lis_low;
        ahead_low = s.ahead_low;
        turn_low = s.turn_low;
        turn_none = s.turn_none;
        level_some = s.level_some;
        level_none = s.level_none;
        passes_fit = h;
      }

-- ---- tables of sound rows

pub record SoundTable (n : ℕ) (t : Table) : Type 0 where
  pub size_is : length t ≡ n
  pub each : (q : ℕ) → q < n → SoundRow n q (row t q)

module _ {n : ℕ} {t : Table} (s : SoundTable n t) where
  pub sound-set : (p : ℕ) (r : Row) → p < n → SoundRow n p r → SoundTable n (set t p r)
  sound-set p r l h =
      record {
        size_is = length-set t p r ∙ s.size_is;
        each =
            row_cases (λ q x. q < n → SoundRow n q x) t p r (omega arith) (λ k. h) (λ q ne k. s.each q k);
      }

  pub sound-turned : (k v : ℕ) → k < n → 0 < k → v < n → SoundTable n (turn_assigned t k v)
  sound-turned k v l pos lv = sound-set k (with_turn v (row t k)) l (sound_turn (s.each k l) v lv (omega arith))

  pub sound_mapped : (f : Row → Row)
      → ((q : ℕ) (r : Row) → SoundRow n q r → SoundRow n q (f r))
      → SoundTable n (map f t)
  sound_mapped f h =
      record {
        size_is = length-map t f ∙ s.size_is;
        each = λ q l. subst (SoundRow n q) (sym (row-map f t q (omega arith))) (h q (row t q) (s.each q l));
      }
