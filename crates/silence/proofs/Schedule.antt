-- A move in a quiet table keeps as many processes on time: the one that moves has one round less afterwards.
--
--   paced, dropped       a row one move nearer to its decision, and one with a lower level
--   alone_on_time        a move that does not write turn[k]
--   pushed_on_time       GO at 24, which may write it: then another process is no longer held back there, but p is
--   moved_on_time        every move
--
-- Assumes nothing.
use Prim.Native.Nat.{ℕ, suc, ◌+◌, ◌≤◌, ◌<◌}
use mathlib.Core.Path.{◌≡◌, refl, sym, ap, ◌∙◌, subst}
use mathlib.Core.Bool.{true, false≢true}
use mathlib.Core.Logic.{inl, inr}
use native.Mathlib.Decide.{ℕ_discrete, dec_lt}
use native.Mathlib.Omega.{arith}
use lib.ListN.{length, set}
use Rattle.counting.proofs.TestLaws.{fails}
use Rattle.counting.proofs.LessLaws.{count_swap}
use Rattle.machine.specs.Rows.{with_location}
use Rattle.machine.specs.Tables.{Table, row, competes}
use Rattle.machine.specs.declared.Row.{Row}
use Rattle.machine.proofs.TableLaws.{row_same}
use Rattle.machine.proofs.Assignments.{Becomes, TurnsKeptBut, other_rows_keep, set_becomes, set_keeps_turns}
use Rattle.machine.proofs.Assignments.{turn_set_becomes, turn_set_is, turn_set_others, competes_at}
use Rattle.machine.proofs.StepRows.{pushed_row}
use Rattle.machine.proofs.RoundLaws.{Move}
use Rattle.machine.proofs.RoundLaws.Move.{rests, enters, starts_scan, wins, discards, keeps, ends_scan, lowers, to_push}
use Rattle.machine.proofs.RoundLaws.Move.{waits, skips, pushes, exits, leaves}
use Rattle.silence.proofs.Steady.{Quiet}
use Rattle.silence.proofs.Due.{left, due}
use Rattle.silence.proofs.DueLaws.{left_21, left_22, left_23, due_set, due_unset, due_falls}
use Rattle.silence.proofs.QuietLaws.{quiet_in, quiet_level, quiet-sound, quiet_never, left_most, look_left}
use Rattle.silence.proofs.QuietLaws.{push_left}
use Rattle.silence.proofs.Pace.{Spends}
use Rattle.silence.proofs.OnTime.{Leaving, OnTime, is_on_time, on_time, on_time_of_test, test_of_on_time}
use Rattle.silence.proofs.OnTime.{on_time_mono}

-- ---- two rows

-- row r of process p becomes s
module _ (n v k j p : ℕ) (r s : Row) where
  -- its decision is one move nearer, with the same bb
  paced : competes s ≡ true
      → s.level ≡ r.level
      → s.bb ≡ r.bb
      → left s + 1 ≤ left r
      → OnTime n v k (suc j) p r
      → OnTime n v k j p s
  paced c e b h (_, inl i) = (c, inl (omega arith))
  paced c e b h (_, inr (i, inl d)) = (c, inr (e ∙ i, inl (omega (arith, due_falls n r s b h))))
  paced c e b h (_, inr (i, inr (m, z))) = (c, inr (e ∙ i, inr ((λ y. m (sym b ∙ y)), z)))

  -- it has left its level
  dropped : competes s ≡ true → s.level < r.level → OnTime n v k (suc j) p r → OnTime n v k j p s
  dropped c h (_, inl i) = (c, inl (omega arith))
  dropped c h (_, inr (i, _)) = (c, inl (omega arith))

-- ---- one move of process p

module _ (n : ℕ) (t : Table) (p : ℕ) (l : p < n) (h : Quiet n t) (k j : ℕ) (f g : ℕ → ℕ) (spends : Spends p j f g)
  where
    abbrev v : ℕ
    v = (row t k).turn

    in_t : p < length t
    in_t = quiet_in n t h p l

    -- another process is on time, where turn[k] holds x, unless it was held back and is no longer
    other_on_time : (x q : ℕ)
        → (q ≡ p → ⊥)
        → (competes (row t q) ≡ true → ((row t q).bb ≡ 0 → ⊥) → v ≡ q → Leaving n x (g q) q (row t q))
        → OnTime n v k (f q) q (row t q)
        → OnTime n x k (g q) q (row t q)
    other_on_time x q ne held (c, inl i) = (c, inl i)
    other_on_time x q ne held (c, inr (i, inl d)) = (c, inr (i, inl (omega (arith, spends.same q ne))))
    other_on_time x q ne held (c, inr (i, inr (b, z))) = (c, inr (i, held c b z))

    -- the row of p becomes s, and everybody is on time still
    rows_on_time : (u : Table) (s : Row)
        → Becomes t p (λ r. r) s u
        → (OnTime n v k (suc j) p (row t p) → OnTime n (row u k).turn k j p s)
        → ((q : ℕ)
        → (q ≡ p → ⊥)
        → competes (row t q) ≡ true
        → ((row t q).bb ≡ 0 → ⊥)
        → v ≡ q
        → Leaving n (row u k).turn (g q) q (row t q))
        → on_time n t k f ≤ on_time n u k g
    rows_on_time u s b own held =
        on_time_mono n t u k f g
        (λ q i.
        other_rows_keep (λ q r. OnTime n v k (f q) q (row t q) → OnTime n (row u k).turn k (g q) q r) b
        (λ o.
        subst (λ (x : ℕ). OnTime n (row u k).turn k x p s) (sym spends.after)
        (own (subst (λ (x : ℕ). OnTime n v k x p (row t p)) spends.before o)))
        (λ q ne. other_on_time (row u k).turn q ne (held q ne))
        q)

    -- turn[k] is kept
    alone_on_time : (u : Table) (s : Row)
        → Becomes t p (λ r. r) s u
        → (row u k).turn ≡ v
        → (OnTime n v k (suc j) p (row t p) → OnTime n v k j p s)
        → on_time n t k f ≤ on_time n u k g
    alone_on_time u s b e own =
        rows_on_time u s b (λ o. subst (λ (x : ℕ). OnTime n x k j p s) (sym e) (own o)) (λ q ne c m z. inr (m, e ∙ z))

    set_on_time : (s : Row)
        → s.turn ≡ (row t p).turn
        → (OnTime n v k (suc j) p (row t p) → OnTime n v k j p s)
        → on_time n t k f ≤ on_time n (set t p s) k g
    set_on_time s e = alone_on_time (set t p s) s (set_becomes t p in_t s) (set_keeps_turns t p in_t s e k)

    set_paced : (s : Row)
        → s.turn ≡ (row t p).turn
        → competes s ≡ true
        → s.level ≡ (row t p).level
        → s.bb ≡ (row t p).bb
        → left s + 1 ≤ left (row t p)
        → on_time n t k f ≤ on_time n (set t p s) k g
    set_paced s e c i b m = set_on_time s e (paced n v k j p (row t p) s c i b m)

    set_dropped : (s : Row)
        → s.turn ≡ (row t p).turn
        → competes s ≡ true
        → s.level < (row t p).level
        → on_time n t k f ≤ on_time n (set t p s) k g
    set_dropped s e c i = set_on_time s e (dropped n v k j p (row t p) s c i)

    -- ---- GO at 24

    module _ {u : Table} (e : (row t p).location ≡ 24)
        (b : Becomes t p (λ r. r) (pushed_row t p (row t p)) u)
        (kept : TurnsKeptBut (row t p).level t u) (own : (row u (row t p).level).turn ≡ p)
      where
        -- another scan, with bb set
        scan_due : due n (pushed_row t p (row t p)) ≤ n + 2
        scan_due = omega (arith, push_left n t h p l)

        -- at another level turn[k] is kept
        pushed_elsewhere : (k ≡ (row t p).level → ⊥) → on_time n t k f ≤ on_time n u k g
        pushed_elsewhere ne = alone_on_time u _ b (kept k ne) go
          where
            go : OnTime n v k (suc j) p (row t p) → OnTime n v k j p (pushed_row t p (row t p))
            go (c, inl i) = (refl, inl i)
            go (c, inr (i, _)) = absurd (ne (sym i))

        -- with so many rounds left nobody needs turn[k] to be counted
        pushed_early : n + 3 ≤ suc j → k ≡ (row t p).level → on_time n t k f ≤ on_time n u k g
        pushed_early many i =
            rows_on_time u _ b (λ o. (refl, inr (sym i, inl (omega (arith, scan_due)))))
            (λ q ne c m z.
            let last = left_most n t h q c in
            inl (omega (arith, due_set (row t q) n m, spends.same q ne, spends.least q)))

        -- p is counted for turn[k] from now on, and in its place one other no longer is
        pushed_late : suc j < n + 3 → k ≡ (row t p).level → on_time n t k f ≤ on_time n u k g
        pushed_late few i =
            count_swap (λ q. is_on_time n v k (f q) q (row t q)) (λ q. is_on_time n x k (g q) q (row u q)) n p v
            (λ q in-n nv o.
            test_of_on_time n x k (g q) q (row u q)
            (other_rows_keep (λ q r. (q ≡ v → ⊥) → OnTime n v k (f q) q (row t q) → OnTime n x k (g q) q r) b
            (λ nv o. held) (λ q ne nv. other_on_time x q ne (λ c m z. absurd (nv (sym z))))
            q nv (on_time_of_test n v k (f q) q (row t q) o)))
            l
            (test_of_on_time n x k (g p) p (row u p) (subst (OnTime n x k (g p) p) (sym b.own) held))
            (fails _ (λ o. out (on_time_of_test n v k (f p) p (row t p) o)))
          where
            x : ℕ
            x = (row u k).turn

            held : OnTime n x k (g p) p (pushed_row t p (row t p))
            held = (refl, inr (sym i, inr ((λ z. omega arith), ap (λ (y : ℕ). (row u y).turn) i ∙ own)))

            -- bb is 0 at 24, and a whole scan is to come
            bb_none : ((row t p).bb ≡ 0 → ⊥) → ⊥
            bb_none m = omega (arith, ((h.steady.rows p).bb_inside m).1)

            out : OnTime n v k (f p) p (row t p) → ⊥
            out (c, inl m) = omega arith
            out (c, inr (_, inr (m, z))) = bb_none m
            out (c, inr (_, inl d)) = bb_none (λ z. omega (arith, due_unset (row t p) n z, spends.before))

        pushed_on_time : on_time n t k f ≤ on_time n u k g
        pushed_on_time = go (ℕ_discrete k (row t p).level) (dec_lt (suc j) (n + 3))
          where
            go : Dec (k ≡ (row t p).level) → Dec (suc j < n + 3) → on_time n t k f ≤ on_time n u k g
            go (no ne) d = pushed_elsewhere ne
            go (yes i) (yes few) = pushed_late few i
            go (yes i) (no many) = pushed_early (omega (arith, many)) i

    -- ---- every move

    pub moved_on_time : {u : Table}
        → ((row u p).location ≡ 30 → ⊥)
        → Move t p u
        → on_time n t k f ≤ on_time n u k g
    moved_on_time on (rests e) =
        alone_on_time t (row t p) (record { same_size = refl; own = refl; other = λ q ne. refl }) refl
        (λ o. absurd (false≢true (sym (competes_at (row t p) 10 e) ∙ o.0)))
    moved_on_time on (enters e) = absurd (quiet_never n t h p 20 l e refl)
    moved_on_time on (starts_scan e i) =
        set_paced _ refl refl refl refl (omega (arith, left_21 (row t p) e))
    moved_on_time on (wins e i) = absurd (on (ap (λ (r : Row). r.location) (row_same t p _ in_t)))
    moved_on_time on (discards e m a) =
        set_paced _ refl (competes_at (row t p) 22 e) refl refl (look_left n t h p l e m _)
    moved_on_time on (keeps e m a) =
        set_paced _ refl (competes_at (row t p) 22 e) refl refl (look_left n t h p l e m (row t p).est)
    moved_on_time on (ends_scan e i) =
        set_paced _ refl refl refl refl (omega (arith, left_22 (row t p) e))
    moved_on_time on (lowers e i) = set_dropped _ refl refl i
    moved_on_time on (to_push e i b) =
        set_paced _ refl refl refl refl (omega (arith, left_23 (row t p) e))
    moved_on_time on (waits e i b o) =
        set_dropped _ refl refl (omega (arith, (quiet-sound n t h p l).level_some (omega arith) (omega arith)))
    moved_on_time on (skips e i b o) = set_on_time _ refl go
      where
        go : OnTime n v k (suc j) p (row t p) → OnTime n v k j p (with_location 21 (row t p))
        go (c, inl m) = (refl, inl m)
        go (c, inr (m, _)) = (refl, inr (m, inr (b, ap (λ (x : ℕ). (row t x).turn) (sym m) ∙ o)))
    moved_on_time on (pushes e) =
        let i = quiet_level n t h p l in
        pushed_on_time e
        (turn_set_becomes t (row t p).level p i p in_t (pushed_row t p) (λ r. refl) (λ r. refl))
        (turn_set_others t (row t p).level p i p in_t (pushed_row t p) (λ r. refl) (λ r. refl))
        (turn_set_is t (row t p).level p i p in_t (pushed_row t p) (λ r. refl) (λ r. refl))
    moved_on_time on (exits e) = absurd (quiet_never n t h p 30 l e refl)
    moved_on_time on (leaves e) = absurd (quiet_never n t h p 40 l e refl)
