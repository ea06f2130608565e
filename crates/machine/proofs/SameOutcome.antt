-- How far one word for every step goes: when words of different processes have the same table after them.
--
--   same_outcome    then nothing changed, or both are FLICKERs of one turn cell to one value
--
-- Assumes nothing.
use Prim.Native.Nat.{ℕ, ◌<◌}
use mathlib.Core.Path.{◌≡◌, refl, sym, ap, ◌∙◌, subst}
use mathlib.Core.Bool.{true, cond, ◌&&◌, false≢true}
use mathlib.Core.Logic.{◌≢◌, ◌⊎◌, inl, inr, ⊎_elim, by_cases}
use native.Mathlib.Decide.{ℕ_discrete}
use native.Mathlib.Omega.{arith}
use lib.Dec.{eqb}
use lib.ListN.{length, set}
use lib.Seq.{set-get_or}
use borrow.Author.Tests.{eqb-true, eq-eqb}
use Rattle.counting.specs.Sets.{has}
use Rattle.counting.proofs.SetLaws.{without_same}
use Rattle.machine.specs.Rows.{blank, with_location, with_act, with_turn}
use Rattle.machine.specs.Tables.{Table, row}
use Rattle.machine.specs.Words.{STAY, COME, FLICKER, GO, LOOK, CANCEL, is_kind, kind_of, process_of, argument_of}
use Rattle.machine.specs.Steps.{moved, allowed, argument_fits, refusal_of, after_word}
use Rattle.machine.specs.System.{turn_assigned}
use Rattle.machine.specs.declared.Row.{Row}
use Rattle.counting.proofs.TestLaws.{split}
use Rattle.machine.proofs.KindLaws.{by_kind}
use Rattle.machine.proofs.TableLaws.{row_same, turn_same, turn_other}
use Rattle.machine.proofs.SoundRows.{sound-row}
use Rattle.machine.proofs.Forms.{flickered_act, flickered_turn}
use Rattle.machine.proofs.Accepted.{accepted_table, accepted_says, accepted-moved, accepted_step}
use Rattle.machine.proofs.Frames.{Untouched, step_others}
use Rattle.machine.proofs.Choices.{kind_by, kind_shows, act_shows, lis_shows}
use Rattle.machine.proofs.OneWord.{same_word}

-- ---- a choice of p after which the row of p is as it was

-- a GO moves
stays_put : (x : ℕ) → kind_by x x ≢ GO
stays_put x =
    split (λ b. cond b (cond b STAY COME) (cond (eqb x x) (cond (eqb x 22) LOOK FLICKER) (moves x)) ≢ GO) (eqb x 10)
    (omega arith)
    (λ h. rw (eq-eqb x x refl) (split (λ b. cond b LOOK FLICKER ≢ GO) (eqb x 22) (λ i. omega arith) (λ i. omega arith)))
  where
    moves : ℕ → ℕ
    moves y = cond (eqb y 20 && eqb y 40) CANCEL GO

-- a cell that is assigned the value it has leaves the table
act_again : (t : Table) (p a : ℕ) → (row t p).act ≡ a → set t p (with_act a (row t p)) ≡ t
act_again t p a e = ap (λ (x : ℕ). set t p (with_act x (row t p))) (sym e) ∙ set-get_or t p blank

turn_again : (t : Table) (k a : ℕ) → (row t k).turn ≡ a → turn_assigned t k a ≡ t
turn_again t k a e = ap (λ (x : ℕ). set t k (with_turn x (row t k))) (sym e) ∙ set-get_or t k blank

module _ (t : Table) (p : ℕ) (l : p < length t) where
  -- COME and CANCEL move
  goes_elsewhere : {A : Type 0} (b a : ℕ)
      → b ≢ a
      → (row t p).location ≡ b
      → Untouched (row t p) (row (set t p (with_location a (row t p))) p)
      → A
  goes_elsewhere b a ne e s =
      absurd (ne (sym e ∙ sym s.location_same ∙ ap (λ (r : Row). r.location) (row_same t p _ l)))

  -- nothing changed, or it is a FLICKER at 24
  quiet_choice : (k a : ℕ)
      → is_kind k ≡ true
      → allowed k (row t p) ≡ true
      → argument_fits (length t) k (row t p) a ≡ true
      → Untouched (row t p) (row (moved t k p a) p)
      → (moved t k p a ≡ t) ⊎ ((k ≡ FLICKER) × ((row t p).location ≡ 24))
  unfolding moved allowed argument_fits
  quiet_choice k a =
      by_kind
      (λ k.
      allowed k (row t p) ≡ true
      → argument_fits (length t) k (row t p) a ≡ true
      → Untouched (row t p) (row (moved t k p a) p)
      → (moved t k p a ≡ t) ⊎ ((k ≡ FLICKER) × ((row t p).location ≡ 24)))
      (λ h g s. inl refl)
      (λ h g s. goes_elsewhere 10 20 (omega arith) (eqb-true _ _ h) s)
      (λ h g s. by_cases (ℕ_discrete (row t p).location 24)
      (λ e. inr (refl, e))
      (λ ne. inl (flickered_act t p a ne ∙ act_again t p a (sym s.act_same ∙ act_shows t p l a ne))))
      (λ h g s.
      absurd
      (stays_put (row t p).location
      (ap (λ (v : ℕ). kind_by (row t p).location v) (sym s.location_same) ∙ kind_shows t p l GO a refl h)))
      (λ h g s.
      absurd
      (false≢true
      (sym (without_same (row t p).lis a) ∙ ap (λ (i : ℕ). has i a) (sym (lis_shows t p l a) ∙ s.lis_same) ∙ g)))
      (λ h g s. goes_elsewhere 20 40 (omega arith) (eqb-true _ _ h) s)
      k

-- ---- words

moved_turn : (t : Table) (p a : ℕ) → (row t p).location ≡ 24 → moved t FLICKER p a ≡ turn_assigned t (row t p).level a
unfolding moved
moved_turn t p a e = flickered_turn t p a e

-- an accepted word after which the row of its process is as it was
quiet_word : (t : Table) (w : ℕ)
    → refusal_of t w ≡ 0
    → Untouched (row t (process_of w)) (row (after_word t w) (process_of w))
    → (after_word t w ≡ t)
    ⊎ ((kind_of w ≡ FLICKER)
    × ((row t (process_of w)).location ≡ 24)
    × (after_word t w ≡ turn_assigned t (row t (process_of w)).level (argument_of w)))
quiet_word t w y s =
    let p = process_of w in
    let m = accepted-moved t w y in
    let c = accepted_says t w y in
    ⊎_elim
    (λ e. inl (m ∙ e))
    (λ f.
    let i = ap (λ (k : ℕ). moved t k p (argument_of w)) f.0 in
    inr (f.0, f.1, m ∙ i ∙ moved_turn t p (argument_of w) f.1))
    (quiet_choice t p c.process_in (kind_of w) (argument_of w)
    c.kind_known c.allowed_there c.argument_fits_lem
    (subst (λ (u : Table). Untouched (row t p) (row u p)) m s))

-- FLICKERs of turn cells with the same table after them: one cell and one value, or nothing changed
same_cell_lem : (t : Table) (j k a b : ℕ)
    → j < length t
    → k < length t
    → turn_assigned t j a ≡ turn_assigned t k b
    → (turn_assigned t j a ≡ t) ⊎ ((j ≡ k) × (a ≡ b))
same_cell_lem t j k a b lj lk e = go (ℕ_discrete j k)
  where
    left : (row (turn_assigned t j a) j).turn ≡ a
    left = ap (λ (r : Row). r.turn) (turn_same t j a lj)

    go : Dec (j ≡ k) → (turn_assigned t j a ≡ t) ⊎ ((j ≡ k) × (a ≡ b))
    go (yes i) =
        inr (
          i,
          sym left
              ∙ ap (λ (u : Table). (row u j).turn) e
              ∙ ap (λ (x : ℕ). (row (turn_assigned t k b) x).turn) i
              ∙ ap (λ (r : Row). r.turn) (turn_same t k b lk),
        )
    go (no ne) =
        inl
        (turn_again t j a
        (sym (ap (λ (r : Row). r.turn) (turn_other t k b j ne)) ∙ ap (λ (u : Table). (row u j).turn) (sym e) ∙ left))

pub same_outcome : (t : Table) (v w : ℕ)
    → v ≢ w
    → refusal_of t v ≡ 0
    → refusal_of t w ≡ 0
    → after_word t v ≡ after_word t w
    → (process_of v ≢ process_of w)
    × ((after_word t v ≡ t)
    ⊎ ((kind_of v ≡ FLICKER)
    × (kind_of w ≡ FLICKER)
    × ((row t (process_of v)).location ≡ 24)
    × ((row t (process_of w)).location ≡ 24)
    × ((row t (process_of v)).level ≡ (row t (process_of w)).level)
    × (argument_of v ≡ argument_of w)))
same_outcome t v w ne x y e =
    let p = process_of v in
    let q = process_of w in
    let apart : p ≢ q = λ i. ne (same_word t v w x y i e) in
    let z = accepted_table t v x in
    let lp = (sound-row t z p (accepted_says t v x).process_in).level_low in
    let lq = (sound-row t z q (accepted_says t w y).process_in).level_low in
    let fp = step_others t (after_word t w) q p (accepted_step t w y) apart in
    let fq = step_others t (after_word t v) p q (accepted_step t v x) (λ i. apart (sym i)) in
    let sp = subst (λ (u : Table). Untouched (row t p) (row u p)) (sym e) fp in
    let sq = subst (λ (u : Table). Untouched (row t q) (row u q)) e fq in (
      apart,
      ⊎_elim inl
          (λ f.
          ⊎_elim
          (λ i. inl (e ∙ i))
          (λ g.
          ⊎_elim
          (λ i. inl (f.2 ∙ i))
          (λ i. inr (f.0, g.0, f.1, g.1, i.0, i.1))
          (same_cell_lem t (row t p).level (row t q).level (argument_of v) (argument_of w) lp lq (sym f.2 ∙ e ∙ g.2)))
          (quiet_word t w y sq))
          (quiet_word t v x sp),
    )
