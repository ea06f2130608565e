-- The system QmxC of section 3.2 of the paper, with the history sets lwb of section 3.4 and the history counts a of
-- section 4.1, and one move that the paper does not have, as a relation on tables (MANUAL, "Steps", "Ahead sets" and
-- "Passes").
--
--   Step t p u    <=>  process p, by one alternative of the numbered statement at which it is, goes from t to u; or it
--                      gives up at 20 (`cancels`).
--   step_word p x  ==   the event word that stands for the step x of process p, with its choice.
--   step_cell p x  ==   the shared cell that this step reads or writes.
--   StepAllowed s p x  <=>  the settings s leave this step.
--
-- A second reading of the paper: one constructor for each alternative, and then `cancels`; the guards are premises, the
-- assignments stand in the paper's order, by the cell setters, the set operations and, for counts, a list by its places
-- alone. The step of Steps.antt is not used; of counts both have the same formula. pc is `location`, lwb is `ahead`,
-- a[q, r] is place r of the `passes` of row q and has no largest value here, Process is the set of numbers below N, and
-- a flickering write is the choice (4) of section 3.1: any value of the cell's type and the same location again, or the
-- value with the rest of the statement. Assumes nothing.
use Rattle.std.specs.Prelude.{ℕ, ◌+◌, ◌-◌, ◌≤◌, ◌<◌, ◌≡◌, true, ◌&&◌, List, map, leb, length, get_or, set}
use Rattle.counting.specs.Sums.{bit}
use Rattle.counting.specs.Sets.{has, set_of, size, without, others}
use Rattle.counting.specs.Ranges.{up_to}
use Rattle.machine.specs.Rows.{with_location, with_act, with_bb, with_level, with_est, with_lis, with_ahead, with_turn}
use Rattle.machine.specs.Rows.{with_passes}
use Rattle.machine.specs.Tables.{Table, row}
use Rattle.machine.specs.Words.{STAY, COME, FLICKER, GO, LOOK, CANCEL, word_of}
use Rattle.machine.specs.Shared.{no_cell, act_read, act_written, turn_read, turn_written}
use Rattle.machine.specs.declared.Row.{Row}
use Rattle.machine.specs.declared.Settings.{Settings}
use Rattle.machine.specs.declared.SharedCell.{SharedCell}

-- the assignment of private variables of p, and of act[p]
abbrev pub assigned : Table → ℕ → (Row → Row) → Table
assigned t p f = set t p (f (row t p))

-- the assignment turn[k] := v
abbrev pub turn_assigned : Table → ℕ → ℕ → Table
turn_assigned t k v = set t k (with_turn v (row t k))

-- the set of competitors, those with pc from 21 to 30
abbrev pub Cp : Table → ℕ
Cp t = set_of (λ q. leb 21 (row t q).location && leb (row t q).location 30) (length t)

-- a[p, q]++ for all q in a set, over the counts a of a process p
abbrev pub incremented : ℕ → List ℕ → List ℕ
incremented s a = up_to (λ q. get_or a q 0 + bit (has s q)) 16

-- the assignments of exit to the history of a process q, p itself included: p leaves lwb[q]; a[q, p] := 0
abbrev pub exited : ℕ → Row → Row
exited p r = with_ahead (without r.ahead p) (with_passes (set r.passes p 0) r)

pub data Step (t : Table) (p : ℕ) : Table → Type 0 where
  -- 10: NCS; goto 10 or 20
  rests : (row t p).location ≡ 10 → Step t p t
  comes : (row t p).location ≡ 10 → Step t p (assigned t p (with_location 20))
  -- 20: (flickering) act[p] := true; level := N - 1; est := Process \ {p}; goto 21. With entry: lwb[p] := Cp; a[p, q]++
  -- for all q in Cp
  flickers_20 : (a : ℕ) → (row t p).location ≡ 20 → a < 2 → Step t p (assigned t p (with_act a))
  enters :
      (row t p).location ≡ 20
      → Step t p
      (assigned t p
      (λ r.
      with_location 21
      (with_est (others (length t) p)
      (with_level (length t - 1) (with_act 1 (with_ahead (Cp t) (with_passes (incremented (Cp t) r.passes) r)))))))
  -- 21: if level > 0 then lis := est; goto 22 else goto 30
  starts_scan :
      (row t p).location ≡ 21 → 0 < (row t p).level
      → Step t p (assigned t p (λ r. with_location 22 (with_lis r.est r)))
  wins : (row t p).location ≡ 21 → (row t p).level ≡ 0 → Step t p (assigned t p (with_location 30))
  -- 22: if nonempty(lis) then extract some q from lis; if not act[q] then remove q from est; goto 22 else goto 23
  discards :
      (q : ℕ) → (row t p).location ≡ 22 → has (row t p).lis q ≡ true → (row t q).act ≡ 0
      → Step t p (assigned t p (λ r. with_est (without r.est q) (with_lis (without r.lis q) r)))
  keeps :
      (q : ℕ) → (row t p).location ≡ 22 → has (row t p).lis q ≡ true → ((row t q).act ≡ 0 → ⊥)
      → Step t p (assigned t p (λ r. with_lis (without r.lis q) r))
  ends_scan : (row t p).location ≡ 22 → (row t p).lis ≡ 0 → Step t p (assigned t p (with_location 23))
  -- 23: if #est < level then level := #est; bb := false
  lowers :
      (row t p).location ≡ 23 → size (row t p).est < (row t p).level
      → Step t p (assigned t p (λ r. with_location 21 (with_bb 0 (with_level (size r.est) r))))
  --     elsif not bb then goto 24
  to_push :
      (row t p).location ≡ 23 → (row t p).level ≤ size (row t p).est → (row t p).bb ≡ 0
      → Step t p (assigned t p (with_location 24))
  --     elsif turn[level] /= p then level--; bb := false
  waits :
      (row t p).location ≡ 23 → (row t p).level ≤ size (row t p).est → ((row t p).bb ≡ 0 → ⊥)
      → ((row t (row t p).level).turn ≡ p → ⊥)
      → Step t p (assigned t p (λ r. with_location 21 (with_bb 0 (with_level (r.level - 1) r))))
  --     else skip; goto 21
  skips :
      (row t p).location ≡ 23 → (row t p).level ≤ size (row t p).est → ((row t p).bb ≡ 0 → ⊥)
      → (row t (row t p).level).turn ≡ p
      → Step t p (assigned t p (with_location 21))
  -- 24: (flickering) turn[level] := p; bb := true; est := Process \ {p}; goto 21. With push: lwb[p] := Cp \ {p}
  flickers_24 : (a : ℕ) → (row t p).location ≡ 24 → a < length t → Step t p (turn_assigned t (row t p).level a)
  pushes :
      (row t p).location ≡ 24
      → Step t p
      (assigned (turn_assigned t (row t p).level p) p
      (λ r. with_location 21 (with_ahead (without (Cp t) p) (with_est (others (length t) p) (with_bb 1 r)))))
  -- 30: CS; goto 40. With exit: for all q remove p from lwb[q]; a[q, p] := 0
  exits :
      (row t p).location ≡ 30
      → Step t p
      (assigned (map (exited p) t) p (with_location 40))
  -- 40: (flickering) act[p] := false; goto 10
  flickers_40 : (a : ℕ) → (row t p).location ≡ 40 → a < 2 → Step t p (assigned t p (with_act a))
  leaves : (row t p).location ≡ 40 → Step t p (assigned t p (λ r. with_location 10 (with_act 0 r)))
  -- ---- not in section 3.2 of the paper: the one move that is added to it
  -- 20, while act[p] is still being written: goto 40; act[p] keeps what the flickering write left there. No lwb
  -- and no count changes, since p does not compete
  cancels : (row t p).location ≡ 20 → Step t p (assigned t p (with_location 40))

-- the word of a step: a FLICKER has the value that the cell gets, a LOOK the process that is looked at
abbrev pub step_word : {t u : Table} (p : ℕ) → Step t p u → ℕ
step_word p (rests e) = word_of STAY p 0
step_word p (comes e) = word_of COME p 0
step_word p (flickers_20 a e h) = word_of FLICKER p a
step_word p (enters e) = word_of GO p 0
step_word p (starts_scan e h) = word_of GO p 0
step_word p (wins e h) = word_of GO p 0
step_word p (discards q e h a) = word_of LOOK p q
step_word p (keeps q e h a) = word_of LOOK p q
step_word p (ends_scan e h) = word_of GO p 0
step_word p (lowers e h) = word_of GO p 0
step_word p (to_push e h b) = word_of GO p 0
step_word p (waits e h b v) = word_of GO p 0
step_word p (skips e h b v) = word_of GO p 0
step_word p (flickers_24 a e h) = word_of FLICKER p a
step_word p (pushes e) = word_of GO p 0
step_word p (exits e) = word_of GO p 0
step_word p (flickers_40 a e h) = word_of FLICKER p a
step_word p (leaves e) = word_of GO p 0
step_word p (cancels e) = word_of CANCEL p 0

-- the shared variable in the alternative that is taken: act[p], which p writes at 20 and 40; act[q], which it reads at
-- 22; turn[level], which it writes at 24 and reads at 23 in the last two alternatives, before level changes
abbrev pub step_cell : {t u : Table} (p : ℕ) → Step t p u → SharedCell
step_cell p (rests e) = no_cell
step_cell p (comes e) = no_cell
step_cell p (flickers_20 a e h) = act_written p
step_cell p (enters e) = act_written p
step_cell p (starts_scan e h) = no_cell
step_cell p (wins e h) = no_cell
step_cell p (discards q e h a) = act_read q
step_cell p (keeps q e h a) = act_read q
step_cell p (ends_scan e h) = no_cell
step_cell p (lowers e h) = no_cell
step_cell p (to_push e h b) = no_cell
step_cell {t} p (waits e h b v) = turn_read (row t p).level
step_cell {t} p (skips e h b v) = turn_read (row t p).level
step_cell {t} p (flickers_24 a e h) = turn_written (row t p).level
step_cell {t} p (pushes e) = turn_written (row t p).level
step_cell p (exits e) = no_cell
step_cell p (flickers_40 a e h) = act_written p
step_cell p (leaves e) = act_written p
step_cell p (cancels e) = no_cell

-- the steps that settings leave, a second reading beside Settings.antt: act[p] flickers unless act is plain, 1; turn
-- flickers unless it is plain, 2; where turn is to have one writer, 1, a process comes to 24 only while no other is at
-- 24 with its level; of all other alternatives settings say nothing
abbrev pub StepAllowed : Settings → {t u : Table} (p : ℕ) → Step t p u → Type 0
StepAllowed s p (rests e) = Unit {0}
StepAllowed s p (comes e) = Unit {0}
StepAllowed s p (flickers_20 a e h) = s.act ≡ 1 → ⊥
StepAllowed s p (enters e) = Unit {0}
StepAllowed s p (starts_scan e h) = Unit {0}
StepAllowed s p (wins e h) = Unit {0}
StepAllowed s p (discards q e h a) = Unit {0}
StepAllowed s p (keeps q e h a) = Unit {0}
StepAllowed s p (ends_scan e h) = Unit {0}
StepAllowed s p (lowers e h) = Unit {0}
StepAllowed s {t} p (to_push e h b) =
    s.turn ≡ 1 → (q : ℕ) → (q ≡ p → ⊥) → (row t q).location ≡ 24 → (row t q).level ≡ (row t p).level → ⊥
StepAllowed s p (waits e h b v) = Unit {0}
StepAllowed s p (skips e h b v) = Unit {0}
StepAllowed s p (flickers_24 a e h) = s.turn ≡ 2 → ⊥
StepAllowed s p (pushes e) = Unit {0}
StepAllowed s p (exits e) = Unit {0}
StepAllowed s p (flickers_40 a e h) = s.act ≡ 1 → ⊥
StepAllowed s p (leaves e) = Unit {0}
StepAllowed s p (cancels e) = Unit {0}
