-- The table after an accepted word shows the choice that its process made: the kind and the argument.
--
--   kind_shows         the locations of p before and after tell the kind
--   argument_shows     and a cell of the kind's own tells the argument
--
-- Assumes nothing.
use Prim.Native.Nat.{ℕ, ◌≤◌, ◌<◌}
use mathlib.Core.Path.{◌≡◌, refl, sym, ap, ap₂, ◌∙◌}
use mathlib.Core.Bool.{true, cond, ◌&&◌, not, and-eq-true_iff}
use mathlib.Core.Logic.{◌≢◌, ⊎_elim}
use mathlib.Core.List.{[], ◌∷◌, map}
use native.Mathlib.Decide.{ℕ_discrete}
use native.Mathlib.Nat.{lt_of_lt_of_le}
use native.Mathlib.Omega.{arith}
use lib.Dec.{eqb}
use lib.ListN.{length, set, length-set, length-map}
use lib.Pow.{pow_mono}
use borrow.Author.Tests.{eqb-true}
use Rattle.counting.specs.Sets.{without}
use Rattle.counting.proofs.SetLaws.{without_injective}
use Rattle.machine.specs.Rows.{with_act}
use Rattle.machine.specs.Tables.{Table, row, one_of}
use Rattle.machine.specs.Words.{STAY, COME, FLICKER, GO, LOOK, CANCEL, is_kind}
use Rattle.machine.specs.Steps.{entered, looked, flickered, gone, moved, allowed, argument_fits}
use Rattle.machine.specs.System.{turn_assigned, exited}
use Rattle.machine.specs.declared.Row.{Row}
use Rattle.counting.proofs.TestLaws.{or_cases}
use Rattle.machine.proofs.KindLaws.{by_kind}
use Rattle.machine.proofs.OneOfLaws.{by_one}
use Rattle.machine.proofs.TableLaws.{row_same, turn_same, turn_free}
use Rattle.machine.proofs.SoundRows.{SoundRow}
use Rattle.machine.proofs.Forms.{started_cases, reconsidered_cases, gone_20, gone_21, gone_22, gone_23, gone_40}
use Rattle.machine.proofs.Forms.{flickered_act, flickered_turn, gone_push, gone_exit}

-- ---- the kind

-- the kind of the word that leads from location b to location a
abbrev pub kind_by : ℕ → ℕ → ℕ
kind_by b a =
    cond (eqb b 10) (cond (eqb a 10) STAY COME)
    (cond (eqb a b) (cond (eqb b 22) LOOK FLICKER)
    (cond (eqb b 20 && eqb a 40) CANCEL GO))

module _ (t : Table) (p : ℕ) (l : p < length t) where
  -- the locations of p before and after tell the kind k
  abbrev Tells : ℕ → Table → Type 0
  Tells k u = kind_by (row t p).location (row u p).location ≡ k

  tells : (u : Table) (b a : ℕ) → (row t p).location ≡ b → (row u p).location ≡ a → Tells (kind_by b a) u
  tells u b a e f = ap₂ (λ (x y : ℕ). kind_by x y) e f

  -- where the row of p is set, its new location tells
  tells_set : (r : Row) (b a : ℕ) → (row t p).location ≡ b → r.location ≡ a → Tells (kind_by b a) (set t p r)
  tells_set r b a e f = tells (set t p r) b a e (ap (λ (s : Row). s.location) (row_same t p r l) ∙ f)

  go_20_tells : (row t p).location ≡ 20 → Tells GO (gone t p)
  unfolding entered
  go_20_tells e = rw (gone_20 t p e) (tells_set _ 20 21 e refl)

  go_21_tells : (row t p).location ≡ 21 → Tells GO (gone t p)
  go_21_tells e =
      rw (gone_21 t p e)
      (started_cases (λ r. Tells GO (set t p r)) (row t p)
      (λ h. tells_set _ 21 22 e refl)
      (λ h. tells_set _ 21 30 e refl))

  go_22_tells : (row t p).location ≡ 22 → Tells GO (gone t p)
  go_22_tells e = rw (gone_22 t p e) (tells_set _ 22 23 e refl)

  go_23_tells : (row t p).location ≡ 23 → Tells GO (gone t p)
  go_23_tells e =
      rw (gone_23 t p e)
      (reconsidered_cases (λ r. Tells GO (set t p r)) p (row t (row t p).level).turn (row t p)
      (λ h. tells_set _ 23 21 e refl)
      (λ h b. tells_set _ 23 24 e refl)
      (λ h b v. tells_set _ 23 21 e refl)
      (λ h b v. tells_set _ 23 21 e refl))

  -- at 24 and at 30 the row of p is set last, in a table as long
  tells_last : (v : Table) (r : Row) (b a : ℕ)
      → length v ≡ length t
      → (row t p).location ≡ b
      → r.location ≡ a
      → Tells (kind_by b a) (set v p r)
  tells_last v r b a i e f =
      tells (set v p r) b a e (ap (λ (s : Row). s.location) (row_same v p r (omega arith)) ∙ f)

  go_24_tells : (row t p).location ≡ 24 → Tells GO (gone t p)
  go_24_tells e =
      rw (gone_push t p l e)
      (tells_last (turn_assigned t (row t p).level p) _ 24 21 (simp length-set) e refl)

  go_30_tells : (row t p).location ≡ 30 → Tells GO (gone t p)
  go_30_tells e =
      rw (gone_exit t p l e)
      (tells_last (map (exited p) t) _ 30 40 (simp length-map) e refl)

  go_40_tells : (row t p).location ≡ 40 → Tells GO (gone t p)
  go_40_tells e = rw (gone_40 t p e) (tells_set _ 40 10 e refl)

  go_tells : allowed GO (row t p) ≡ true → Tells GO (gone t p)
  unfolding allowed
  go_tells h =
      let r = row t p in
      ⊎_elim
      (by_one r.location (20 ∷ 21 ∷ 23 ∷ 24 ∷ 30 ∷ 40 ∷ [])
      (go_20_tells, (go_21_tells, (go_23_tells, (go_24_tells, (go_30_tells, (go_40_tells, tt)))))))
      (λ k. go_22_tells (eqb-true _ _ ((and-eq-true_iff (eqb r.location 22) (eqb r.lis 0)).0 k).0))
      (or_cases (one_of r.location (20 ∷ 21 ∷ 23 ∷ 24 ∷ 30 ∷ 40 ∷ [])) _ h)

  tells_turn : (a : ℕ) → (row t p).location ≡ 24 → Tells FLICKER (turn_assigned t (row t p).level a)
  tells_turn a e =
      tells (turn_assigned t (row t p).level a) 24 24 e
      (turn_free (λ r. r.location ≡ 24) t (row t p).level a p (λ r i. i) e)

  flicker_tells : (a : ℕ) → allowed FLICKER (row t p) ≡ true → Tells FLICKER (flickered t p a)
  unfolding allowed
  flicker_tells a h =
      by_one (row t p).location (20 ∷ 40 ∷ 24 ∷ []) (
        (λ e. rw (flickered_act t p a (omega arith)) (tells_set _ 20 20 e e)),
        (
          (λ e. rw (flickered_act t p a (omega arith)) (tells_set _ 40 40 e e)),
          (
            (λ e. rw (flickered_turn t p a e) (tells_turn a e)),
            tt,
          ),
        ),
      )
      h

  pub kind_shows : (k a : ℕ) → is_kind k ≡ true → allowed k (row t p) ≡ true → Tells k (moved t k p a)
  unfolding moved allowed looked
  kind_shows k a =
      by_kind (λ k. allowed k (row t p) ≡ true → Tells k (moved t k p a))
      (λ h. tells t 10 10 (eqb-true _ _ h) (eqb-true _ _ h))
      (λ h. tells_set _ 10 20 (eqb-true _ _ h) refl)
      (flicker_tells a) go_tells
      (λ h.
      let f = ((and-eq-true_iff (eqb (row t p).location 22) (not (eqb (row t p).lis 0))).0 h).0 in
      let e = eqb-true (row t p).location 22 f in
      tells_set _ 22 22 e e)
      (λ h. tells_set _ 20 40 (eqb-true _ _ h) refl)
      k

  -- ---- the argument

  -- FLICKER away from 24 shows it in act, at 24 in the turn cell
  pub act_shows : (a : ℕ) → (row t p).location ≢ 24 → (row (flickered t p a) p).act ≡ a
  act_shows a ne =
      ap (λ (u : Table). (row u p).act) (flickered_act t p a ne)
      ∙ ap (λ (r : Row). r.act) (row_same t p (with_act a (row t p)) l)

  pub turn_shows : (a : ℕ)
      → (row t p).level < length t
      → (row t p).location ≡ 24
      → (row (flickered t p a) (row t p).level).turn ≡ a
  turn_shows a k e =
      ap (λ (u : Table). (row u (row t p).level).turn) (flickered_turn t p a e)
      ∙ ap (λ (r : Row). r.turn) (turn_same t (row t p).level a k)

  -- LOOK shows it by what is left of lis
  pub lis_shows : (a : ℕ) → (row (moved t LOOK p a) p).lis ≡ without (row t p).lis a
  unfolding moved looked
  lis_shows a = ap (λ (r : Row). r.lis) (row_same t p _ l)

  pub argument_shows : (k a b : ℕ)
      → is_kind k ≡ true
      → SoundRow (length t) p (row t p)
      → length t ≤ 16
      → allowed k (row t p) ≡ true
      → argument_fits (length t) k (row t p) a ≡ true
      → argument_fits (length t) k (row t p) b ≡ true
      → moved t k p a ≡ moved t k p b
      → a ≡ b
  unfolding moved argument_fits
  argument_shows k a b kind s few =
      by_kind
      (λ k.
      allowed k (row t p) ≡ true
      → argument_fits (length t) k (row t p) a ≡ true
      → argument_fits (length t) k (row t p) b ≡ true
      → moved t k p a ≡ moved t k p b
      → a ≡ b)
      none none
      (λ h f g e. flicker_shows e (ℕ_discrete (row t p).location 24))
      none
      (λ h f g e.
      without_injective (row t p).lis a b (lt_of_lt_of_le s.lis_low (pow_mono few)) f g
      (sym (lis_shows a) ∙ ap (λ (u : Table). (row u p).lis) e ∙ lis_shows b))
      none
      k kind
    where
      -- a kind whose argument is 0
      none : {A B : Type 0} → A → eqb a 0 ≡ true → eqb b 0 ≡ true → B → a ≡ b
      none h f g e = eqb-true a 0 f ∙ sym (eqb-true b 0 g)

      flicker_shows : flickered t p a ≡ flickered t p b → Dec ((row t p).location ≡ 24) → a ≡ b
      flicker_shows e (yes i) =
          sym (turn_shows a s.level_low i)
          ∙ ap (λ (u : Table). (row u (row t p).level).turn) e
          ∙ turn_shows b s.level_low i
      flicker_shows e (no ne) = sym (act_shows a ne) ∙ ap (λ (u : Table). (row u p).act) e ∙ act_shows b ne
