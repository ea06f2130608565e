-- Every effect of a step keeps the table bounded at every k (the clause J1 of section 3.5 of the paper).
--
-- The bound at k comes from the bound at k, but for a step to 24 from level k and for an exit: these use the bound at
-- k + 1, which is at hand since the clause speaks of every k.
-- Assumes nothing.
use Prim.Native.Nat.{ℕ, ◌+◌, ◌-◌, ◌≤◌, ◌<◌}
use mathlib.Core.Path.{◌≡◌, refl, sym, ap, ◌∙◌, subst}
use mathlib.Core.Bool.{true, false, false≢true}
use mathlib.Core.Logic.{inl, inr}
use native.Mathlib.Decide.{ℕ_discrete, dec_lt}
use native.Mathlib.Omega.{arith}
use lib.ListN.{length}
use Rattle.counting.specs.Sums.{count}
use Rattle.counting.specs.Sets.{size, without}
use Rattle.counting.proofs.CountLaws.{count_all, count_one, count_strict}
use Rattle.counting.proofs.SizeLaws.{size-set_of, size_mono, size_le_without}
use Rattle.machine.specs.Rows.{with_location}
use Rattle.machine.specs.Tables.{Table, row, competes}
use Rattle.machine.specs.Census.{count_rows}
use Rattle.machine.specs.System as system
use Rattle.machine.specs.System.{Cp}
use Rattle.machine.specs.declared.Row.{Row}
use Rattle.machine.proofs.SoundRows.{sound-row, sound_few}
use Rattle.machine.proofs.Assignments.{Becomes, other_rows_keep, TurnsKept, TurnsKeptBut, competes_at}
use Rattle.machine.proofs.StepRows.{entered_row, lowered_row, pushed_row}
use Rattle.exclusion.proofs.Reaching.{Held, Reaches, Stops, reaches_competes, reaches_held}
use Rattle.exclusion.proofs.Bounded.{Bounded, Stopper, count_rows_mono, bounded_few, bounded_stop, bounded_leave}
use Rattle.exclusion.proofs.Bounded.{stopper_kept, stopper_own, bounded_row}
use Rattle.exclusion.proofs.Effects.{Stays, Alone, Effect}
use Rattle.exclusion.proofs.Effects.Effect.{idled, stayed, entered, lowered, went_to_push, passed, flickered}
use Rattle.exclusion.proofs.Effects.Effect.{pushed, exited}
use Rattle.exclusion.proofs.Invariant.{Invariant}

module _ (t u : Table) (p : ℕ) (l : p < length t) (i : Invariant t) (k : ℕ) where
  -- ---- the row of p alone changes, and no turn cell

  alone_bounded : (s : Row)
      → Alone t p s u
      → TurnsKept t u
      → (Reaches k s → Reaches k (row t p))
      → (Stops (row t k).turn k p (row t p) → Stops (row t k).turn k p s)
      → Bounded u k
  alone_bounded s b v f g = bounded_row t u p s k b f (stopper_kept t u p s k b (v k) g) (i.bounded k)

  stayed_bounded : (s : Row) → Stays t (row t p) s → Alone t p s u → TurnsKept t u → Bounded u k
  stayed_bounded s h b v = alone_bounded s b v reach stop
    where
      reach : Reaches k s → Reaches k (row t p)
      reach (inl (c, inl m)) = inl (h.before, inl (omega (arith, h.same_level)))
      reach (inl (c, inr (n, m))) = inl (h.before, inr (h.not_at_24, subst (λ (a : ℕ). size a < k) h.same_ahead m))
      reach (inr (c, e, inl z)) = absurd (h.not_to_24 z)
      reach (inr (c, e, inr n)) = inr (h.before, sym h.same_level ∙ e, inr (λ z. n (h.same_bb ∙ z)))

      stop : Stops (row t k).turn k p (row t p) → Stops (row t k).turn k p s
      stop (c, e, inl z) = absurd (h.not_at_24 z)
      stop (c, e, inr (a, n, m)) =
          let still = subst (λ (a : ℕ). k ≤ size a) (sym h.same_ahead) m in
          (h.after, h.same_level ∙ e, inr (a, (λ z. n (sym h.same_bb ∙ z)), still))

  -- the level drops to the size of est, under which that of ahead lies already
  lowered_bounded : (row t p).location ≡ 23
      → size (row t p).est < (row t p).level
      → Alone t p (lowered_row (size (row t p).est) (row t p)) u
      → TurnsKept t u
      → Bounded u k
  lowered_bounded e h b v = alone_bounded _ b v reach stop
    where
      few : size (row t p).ahead ≤ size (row t p).est
      few = size_mono (row t p).ahead (row t p).est (λ x j. i.ahead_in_est p x)

      reach : Reaches k (lowered_row (size (row t p).est) (row t p)) → Reaches k (row t p)
      reach (inl (c, inl m)) = inl (competes_at (row t p) 23 e, inr ((λ z. omega arith), omega (arith, few)))
      reach (inl (c, inr (n, m))) = inl (competes_at (row t p) 23 e, inr ((λ z. omega arith), m))
      reach (inr (c, d, inl z)) = absurd (omega arith)
      reach (inr (c, d, inr n)) = absurd (n refl)

      stop : Stops (row t k).turn k p (row t p)
          → Stops (row t k).turn k p (lowered_row (size (row t p).est) (row t p))
      stop (c, d, inl z) = absurd (omega arith)
      stop (c, d, inr (a, n, m)) = absurd (omega (arith, few))

  -- the level drops by one, with which p was counted already
  passed_bounded : (row t p).location ≡ 23
      → ((row t p).bb ≡ 0 → ⊥)
      → ((row t (row t p).level).turn ≡ p → ⊥)
      → Alone t p (lowered_row ((row t p).level - 1) (row t p)) u
      → TurnsKept t u
      → Bounded u k
  passed_bounded e n o b v = alone_bounded _ b v (reach (ℕ_discrete (row t p).level k)) stop
    where
      reach : Dec ((row t p).level ≡ k) → Reaches k (lowered_row ((row t p).level - 1) (row t p)) → Reaches k (row t p)
      reach (yes d) m = inr (competes_at (row t p) 23 e, d, inr n)
      reach (no nd) (inl (c, inl m)) = inl (competes_at (row t p) 23 e, inl (omega (arith, nd)))
      reach (no nd) (inl (c, inr (z, m))) = inl (competes_at (row t p) 23 e, inr ((λ z. omega arith), m))
      reach (no nd) (inr (c, d, inl z)) = absurd (omega arith)
      reach (no nd) (inr (c, d, inr z)) = absurd (z refl)

      stop : Stops (row t k).turn k p (row t p) → Stops (row t k).turn k p (lowered_row ((row t p).level - 1) (row t p))
      stop (c, d, inl z) = absurd (omega arith)
      stop (c, d, inr (a, z, m)) = absurd (o (ap (λ (x : ℕ). (row t x).turn) d ∙ a))

  -- to 24: at level k p becomes the stopper
  push_bounded : (row t p).location ≡ 23 → Alone t p (with_location 24 (row t p)) u → TurnsKept t u → Bounded u k
  push_bounded e b v = go (ℕ_discrete (row t p).level k)
    where
      reach : ((row t p).level ≡ k → ⊥) → Reaches k (with_location 24 (row t p)) → Reaches k (row t p)
      reach nd (inl (c, inl m)) = inl (competes_at (row t p) 23 e, inl m)
      reach nd (inl (c, inr (n, m))) = absurd (n refl)
      reach nd (inr (c, d, z)) = absurd (nd d)

      go : Dec ((row t p).level ≡ k) → Bounded u k
      go (no nd) = alone_bounded _ b v (reach nd) (λ w. absurd (nd w.1))
      go (yes d) =
          bounded_stop t u k b.same_size
          (other_rows_keep (λ q r. Reaches k r → Held (k + 1) (row t q)) b
          (λ m. (competes_at (row t p) 23 e, inl (omega arith))) (λ q ne. reaches_held k (row t q)))
          (stopper_own t u p _ k b (refl, d, inl refl))
          (i.bounded (k + 1))

  -- ---- a turn cell changes

  flickered_bounded : (row t p).location ≡ 24 → Alone t p (row t p) u → TurnsKeptBut (row t p).level t u → Bounded u k
  flickered_bounded e b v = bounded_row t u p _ k b (λ m. m) (go (ℕ_discrete k (row t p).level)) (i.bounded k)
    where
      go : Dec (k ≡ (row t p).level) → Stopper t k → Stopper u k
      go (yes d) w = stopper_own t u p _ k b (competes_at (row t p) 24 e, sym d, inl e)
      go (no nd) w = stopper_kept t u p _ k b (v k nd) (λ m. m) w

  -- ---- those that compete are counted

  abbrev rivals : ℕ
  rivals = count_rows competes t

  rivals_size : size (Cp t) ≡ rivals
  rivals_size = size-set_of (λ q. competes (row t q)) (length t) (sound_few t i.sound)

  pushed_bounded : (row t p).location ≡ 24
      → Alone t p (pushed_row t p (row t p)) u
      → TurnsKeptBut (row t p).level t u
      → (row u (row t p).level).turn ≡ p
      → Bounded u k
  pushed_bounded e b v w = go (dec_lt k rivals)
    where
      -- all that compete but p are ahead of it
      many : k < rivals → k ≤ size (without (Cp t) p)
      many h = omega (arith, rivals_size, size_le_without (Cp t) p)

      reach : k < rivals → Reaches k (pushed_row t p (row t p)) → Reaches k (row t p)
      reach h (inl (c, inl m)) = inl (competes_at (row t p) 24 e, inl m)
      reach h (inl (c, inr (n, m))) = absurd (omega (arith, many h))
      reach h (inr (c, d, z)) = inr (competes_at (row t p) 24 e, d, inl e)

      stop : k < rivals → Dec (k ≡ (row t p).level) → Stopper t k → Stopper u k
      stop h (yes d) s =
          stopper_own t u p _ k b
          (refl, sym d, inr (ap (λ (x : ℕ). (row u x).turn) d ∙ w, (λ z. omega arith), many h))
      stop h (no nd) s = stopper_kept t u p _ k b (v k nd) (λ m. absurd (nd (sym m.1))) s

      go : Dec (k < rivals) → Bounded u k
      go (yes h) = bounded_row t u p _ k b (reach h) (stop h (ℕ_discrete k (row t p).level)) (i.bounded k)
      go (no nh) =
          let few : count_rows competes u ≤ rivals =
          count_rows_mono competes competes t u b.same_size
          (other_rows_keep (λ q r. competes r ≡ true → competes (row t q) ≡ true) b
          (λ c. competes_at (row t p) 24 e) (λ q ne c. c)) in
          bounded_few u k (omega (arith, nh))

  entered_bounded : (row t p).location ≡ 20 → Alone t p (entered_row t p) u → TurnsKept t u → Bounded u k
  entered_bounded e b v = go (dec_lt rivals k)
    where
      out : competes (row t p) ≡ false
      out = competes_at (row t p) 20 e

      -- p is not yet one of them
      room : rivals + 1 ≤ length t
      room =
          let all = count_all (λ q. true) (length t) (λ q j. refl) in
          let less = count_strict (λ q. competes (row t q)) (λ q. true) (length t) p (λ q j h. refl) l out refl in
          omega arith

      -- with level n - 1 and all competitors ahead
      reach : k ≤ rivals → Reaches k (entered_row t p) → Reaches k (row t p)
      reach h (inl (c, inl m)) = absurd (omega (arith, room))
      reach h (inl (c, inr (n, m))) = absurd (omega (arith, rivals_size))
      reach h (inr (c, d, inl z)) = absurd (omega arith)
      reach h (inr (c, d, inr n)) = absurd (false≢true (sym out ∙ (i.bb_inside p n).0))

      go : Dec (rivals < k) → Bounded u k
      go (yes h) =
          let more : count_rows competes u ≤ rivals + 1 =
          subst (λ (n : ℕ). count (λ q. competes (row u q)) n ≤ rivals + 1) (sym b.same_size)
          (count_one (λ q. competes (row u q)) (λ q. competes (row t q)) (length t) p
          (λ q j ne c. subst (λ (r : Row). competes r ≡ true) (b.other q ne) c)) in
          bounded_few u k (omega arith)
      go (no nh) =
          alone_bounded _ b v (reach (omega (arith, nh))) (λ w. absurd (false≢true (sym out ∙ w.0)))

  -- ---- p leaves

  exited_bounded : (row t p).location ≡ 30
      → Becomes t p (system.exited p) (with_location 40 (system.exited p (row t p))) u
      → Bounded u k
  exited_bounded e b =
      bounded_leave t u k b.same_size p
      (other_rows_keep (λ q r. Reaches k r → (q ≡ p → ⊥) × Held (k + 1) (row t q)) b
      (λ m. absurd (false≢true (reaches_competes k (with_location 40 (system.exited p (row t p))) m)))
      (λ q ne m. (ne, before (row t q) m)))
      (competes_at (row t p) 30 e, inl (omega (arith, (sound-row t i.sound p l).level_none e)))
      (i.bounded (k + 1))
    where
      before : (r : Row) → Reaches k (system.exited p r) → Held (k + 1) r
      before r (inl (c, inl m)) = (c, inl (omega arith))
      before r (inl (c, inr (n, m))) = (c, inr (n, omega (arith, size_le_without r.ahead p)))
      before r (inr (c, d, z)) = (c, inl (omega arith))

  -- ---- each effect

  pub effect_keeps_bounded : Effect t p u → Bounded u k
  effect_keeps_bounded (idled s h b v) =
      alone_bounded s b v (λ m. absurd (false≢true (sym h.idle_after ∙ reaches_competes k s m)))
      (λ w. absurd (false≢true (sym h.idle_before ∙ w.0)))
  effect_keeps_bounded (stayed s h b v) = stayed_bounded s h b v
  effect_keeps_bounded (entered e b v) = entered_bounded e b v
  effect_keeps_bounded (lowered e h b v) = lowered_bounded e h b v
  effect_keeps_bounded (went_to_push e z b v) = push_bounded e b v
  effect_keeps_bounded (passed e n o b v) = passed_bounded e n o b v
  effect_keeps_bounded (flickered e b v) = flickered_bounded e b v
  effect_keeps_bounded (pushed e b v w) = pushed_bounded e b v w
  effect_keeps_bounded (exited e b) = exited_bounded e b
