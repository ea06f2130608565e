-- Every step keeps a table steady, so that it is steady after every list of words from a fresh table.
--
--   step_keeps_steady    one step of a process, to a sound table
--   fresh_steady         a fresh table
--   steady_after         a list of words from it
--
-- Assumes nothing.
use Prim.Native.Nat.{ℕ, ◌<◌}
use mathlib.Core.Path.{◌≡◌, refl, sym, ap, ◌∙◌}
use mathlib.Core.Bool.{Bool, true, false, ◌&&◌, not, false≢true}
use mathlib.Core.List.{List}
use native.Mathlib.Nat.{lt_of_lt_of_le}
use native.Mathlib.Omega.{arith}
use lib.Dec.{eqb}
use lib.ListN.{length}
use Rattle.counting.specs.Sets.{has, without}
use Rattle.counting.proofs.SetLaws.{has-without, others_same}
use Rattle.machine.specs.Tables.{Table, row, table_refusal, fresh, competes}
use Rattle.machine.specs.Steps.{after_words}
use Rattle.machine.specs.System.{Step}
use Rattle.machine.specs.System.Step.{rests, comes, flickers_20, enters, starts_scan, wins, discards, keeps, ends_scan}
use Rattle.machine.specs.System.Step.{lowers, to_push, waits, skips, flickers_24, pushes, exits, flickers_40, leaves}
use Rattle.machine.specs.System.Step.{cancels}
use Rattle.machine.specs.declared.Row.{Row}
use Rattle.machine.proofs.SoundRows.{sound-row, sound_few, sound-accepted}
use Rattle.machine.proofs.Soundness.{always}
use Rattle.machine.proofs.Assignments.{competes_at}
use Rattle.machine.proofs.StepRows.{step_row, step_keeps-rows}
use Rattle.machine.proofs.BbInside.{step_keeps_bb_inside}
use Rattle.machine.proofs.FreshRows.{fresh-sound, fresh_rests}
use Rattle.silence.proofs.Steady.{SteadyRow, Steady}

-- who rests shows no act
abbrev Unseen : Row → Type 0
Unseen r = r.location ≡ 10 → r.act ≡ 0

-- who competes is not in its own est
abbrev Others : ℕ → Row → Type 0
Others q r = competes r ≡ true → has r.est q ≡ false

module _ (t : Table) (p : ℕ) (z : table_refusal t ≡ 0) (l : p < length t) (s : Steady t) where
  -- ---- who rests: only `leaves` arrives at 10

  unseen : {u : Table} (x : Step t p u) → Unseen (step_row t p x)
  unseen (rests e) i = (s.rows p).rest_unseen i
  unseen (comes e) i = omega arith
  unseen (flickers_20 a e h) i = omega arith
  unseen (enters e) i = omega arith
  unseen (starts_scan e h) i = omega arith
  unseen (wins e h) i = omega arith
  unseen (discards q e h a) i = omega arith
  unseen (keeps q e h a) i = omega arith
  unseen (ends_scan e h) i = omega arith
  unseen (lowers e h) i = omega arith
  unseen (to_push e h b) i = omega arith
  unseen (waits e h b v) i = omega arith
  unseen (skips e h b v) i = omega arith
  unseen (flickers_24 a e h) i = omega arith
  unseen (pushes e) i = omega arith
  unseen (exits e) i = omega arith
  unseen (flickers_40 a e h) i = omega arith
  unseen (leaves e) i = refl
  unseen (cancels e) i = omega arith

  -- ---- who competes: est is made of the others, and only loses members

  own-est : competes (row t p) ≡ true → has (row t p).est p ≡ false
  own-est = (s.rows p).est_others

  -- a look removes from it
  fewer : (x : ℕ) → has (row t p).est p ≡ false → has (without (row t p).est x) p ≡ false
  fewer x h =
      has-without (row t p).est x p (lt_of_lt_of_le l (sound_few t z))
      ∙ ap (λ (b : Bool). b && not (eqb p x)) h

  others_only : {u : Table} (x : Step t p u) → Others p (step_row t p x)
  others_only (rests e) c = own-est c
  others_only (comes e) c = absurd (false≢true c)
  others_only (flickers_20 a e h) c = own-est c
  others_only (enters e) c = others_same (length t) p
  others_only (starts_scan e h) c = own-est (competes_at (row t p) 21 e)
  others_only (wins e h) c = own-est (competes_at (row t p) 21 e)
  others_only (discards q e h a) c = fewer q (own-est c)
  others_only (keeps q e h a) c = own-est c
  others_only (ends_scan e h) c = own-est (competes_at (row t p) 22 e)
  others_only (lowers e h) c = own-est (competes_at (row t p) 23 e)
  others_only (to_push e h b) c = own-est (competes_at (row t p) 23 e)
  others_only (waits e h b v) c = own-est (competes_at (row t p) 23 e)
  others_only (skips e h b v) c = own-est (competes_at (row t p) 23 e)
  others_only (flickers_24 a e h) c = own-est c
  others_only (pushes e) c = others_same (length t) p
  others_only (exits e) c = absurd (false≢true c)
  others_only (flickers_40 a e h) c = own-est c
  others_only (leaves e) c = absurd (false≢true c)
  others_only (cancels e) c = absurd (false≢true c)

  -- ---- all rows

  rows_after : {u : Table} → Step t p u → (q : ℕ) → SteadyRow q (row u q)
  rows_after x q =
      let i = (sound-row t z p l).level_low in
      record {
        bb_inside = step_keeps_bb_inside t p z l (λ q. (s.rows q).bb_inside) x q;
        rest_unseen = step_keeps-rows t p l i (λ q r. Unseen r) x (unseen x) (λ q ne. (s.rows q).rest_unseen) q;
        est_others = step_keeps-rows t p l i Others x (others_only x) (λ q ne. (s.rows q).est_others) q;
      }

pub step_keeps_steady : (t u : Table) (p : ℕ)
    → table_refusal t ≡ 0
    → table_refusal u ≡ 0
    → p < length t
    → Step t p u
    → Steady t
    → Steady u
step_keeps_steady t u p z y l x s = record { sound = y; rows = rows_after t p z l s x }

pub fresh_steady : (t : Table) → fresh t ≡ true → Steady t
fresh_steady t h =
    record {
      sound = sound-accepted t (fresh-sound t h);
      rows = λ q.
          let r = fresh_rests t h q in
          record {
            bb_inside = λ n. absurd (n r.no_bb);
            rest_unseen = λ e. r.no_act;
            est_others = λ c. absurd (false≢true (sym r.idle_now ∙ c));
          };
    }

pub steady_after : (t : Table) (ws : List ℕ) → fresh t ≡ true → Steady (after_words t ws)
steady_after t ws h = always Steady step_keeps_steady t ws (fresh_steady t h)
