-- Every step of a process has one word, and every accepted word is that of a step.
--
--   member_low   a process to be looked at fits in a word
--   same_word    accepted words of one process with the same table after them are the same
--   one_word     a step of a sound table is what its word does, and no other word of its process
--   word_step    an accepted word is the word of a step
--
-- Assumes nothing.
use Prim.Native.Nat.{ℕ, ◌<◌}
use mathlib.Core.Path.{◌≡◌, refl, sym, ap, ap₂, ◌∙◌, subst}
use mathlib.Core.Logic.Or
use mathlib.Core.Logic.{◌≢◌, ◌⊎◌, inl, inr, ⊎_elim}
use mathlib.Core.Bool.{Bool, true, false, cond, ◌&&◌, not, false≢true, and-eq-true_iff, or-eq-true_iff}
use mathlib.Core.List.{List, [], ◌∷◌}
use native.Mathlib.Omega.{arith}
use lib.Dec.{eqb, ltb}
use lib.ListN.{length, set}
use borrow.Author.Tests.{eq-eqb, ne_eqb, lt-ltb, le-ltb}
use Rattle.counting.specs.Sets.{has}
use Rattle.counting.proofs.SetLaws.{member_below, has_zero}
use Rattle.machine.specs.Rows.{with_location, with_act}
use Rattle.machine.specs.Tables.{Table, row, one_of, sound, table_refusal, competitors}
use Rattle.machine.specs.Words.{STAY, COME, FLICKER, GO, LOOK, CANCEL, is_kind, kind_of, process_of, argument_of}
use Rattle.machine.specs.Words.{spare_clear, formed, word_of}
use Rattle.machine.specs.Steps.{raised, entered, started, looked, reconsidered, gone, moved, allowed, argument_fits}
use Rattle.machine.specs.Steps.{raisable, overflows, word_refusal, refusal_of, after_word}
use Rattle.machine.specs.System.{assigned, Cp, Step, step_word}
use Rattle.machine.specs.System.Step.{rests, comes, flickers_20, enters, starts_scan, wins, discards, keeps}
use Rattle.machine.specs.System.Step.{ends_scan, lowers, to_push, waits, skips, flickers_24, pushes, exits}
use Rattle.machine.specs.System.Step.{flickers_40, leaves, cancels}
use Rattle.machine.specs.declared.Row.{Row}
use Rattle.machine.proofs.OneOfLaws.{one_of_at}
use Rattle.machine.proofs.TableLaws.{row_same}
use Rattle.machine.proofs.SoundRows.{sound-row, sound_few, sound-accepted}
use Rattle.machine.proofs.Forms.{gone_20, gone_21, gone_22, gone_23, gone_40, flickered_act, flickered_turn}
use Rattle.machine.proofs.Forms.{gone_push, gone_exit}
use Rattle.machine.proofs.Accepted.{Says, accepted_table, accepted_process, accepted_says, accepted-moved}
use Rattle.machine.proofs.Accepted.{accepted_step, says_accepted}
use Rattle.machine.proofs.Soundness.{Room, room_fits, word_room}
use Rattle.machine.proofs.WordLaws.{kind_word_of, process_word_of, argument_word_of, formed_word_of, parts_injective}
use Rattle.machine.proofs.Choices.{kind_by, kind_shows, argument_shows}

-- ---- at most one

-- choices of p, each allowed with its argument, that lead to the same table
same_choice : (t : Table) (p : ℕ)
    → table_refusal t ≡ 0
    → p < length t
    → (j k a b : ℕ)
    → is_kind j ≡ true
    → is_kind k ≡ true
    → allowed j (row t p) ≡ true
    → allowed k (row t p) ≡ true
    → argument_fits (length t) j (row t p) a ≡ true
    → argument_fits (length t) k (row t p) b ≡ true
    → moved t j p a ≡ moved t k p b
    → (j ≡ k) × (a ≡ b)
same_choice t p z l j k a b kj kk hj hk fa fb e =
    let i : j ≡ k =
    sym (kind_shows t p l j a kj hj)
    ∙ ap (λ (u : Table). kind_by (row t p).location (row u p).location) e
    ∙ kind_shows t p l k b kk hk in (
      i,
      argument_shows t p l k a b kk (sound-row t z p l) (sound_few t z) hk
          (subst (λ (x : ℕ). argument_fits (length t) x (row t p) a ≡ true) i fa) fb
          (subst (λ (x : ℕ). moved t x p a ≡ moved t k p b) i e),
    )

pub same_word : (t : Table) (v w : ℕ)
    → refusal_of t v ≡ 0
    → refusal_of t w ≡ 0
    → process_of v ≡ process_of w
    → after_word t v ≡ after_word t w
    → v ≡ w
same_word t v w x y i e =
    let sv = accepted_says t v x in
    let sw = accepted_says t w y in
    let p = process_of w in
    let m : moved t (kind_of v) p (argument_of v) ≡ moved t (kind_of w) p (argument_of w) =
    ap (λ (q : ℕ). moved t (kind_of v) q (argument_of v)) (sym i)
    ∙ sym (accepted-moved t v x)
    ∙ e
    ∙ accepted-moved t w y in
    let c =
    same_choice t p (accepted_table t w y) sw.process_in (kind_of v) (kind_of w) (argument_of v) (argument_of w)
    sv.kind_known sw.kind_known
    (subst (λ (q : ℕ). allowed (kind_of v) (row t q) ≡ true) i sv.allowed_there) sw.allowed_there
    (subst (λ (q : ℕ). argument_fits (length t) (kind_of v) (row t q) (argument_of v) ≡ true) i sv.argument_fits_lem)
    sw.argument_fits_lem
    m in
    parts_injective v w sv.formed_so sw.formed_so c.0 i c.1

-- ---- at least one

-- w is a word of p that is accepted and leads to u, and no other is
abbrev One : Table → ℕ → Table → ℕ → Type 0
One t p u w =
    (process_of w ≡ p)
    × (refusal_of t w ≡ 0)
    × (after_word t w ≡ u)
    × ((v : ℕ) → process_of v ≡ p → refusal_of t v ≡ 0 → after_word t v ≡ u → v ≡ w)

-- a word with the parts of a choice says that choice
says_choice : (t : Table) (w k p a : ℕ)
    → formed w ≡ true
    → kind_of w ≡ k
    → process_of w ≡ p
    → argument_of w ≡ a
    → p < length t
    → allowed k (row t p) ≡ true
    → argument_fits (length t) k (row t p) a ≡ true
    → overflows t k p ≡ false
    → Says t w
says_choice t w k p a f ik ip ia l h g o =
    record {
      formed_so = f;
      kind_known = ((and-eq-true_iff (is_kind (kind_of w)) (spare_clear w)).0 f).0;
      process_in = subst (λ (x : ℕ). x < length t) (sym ip) l;
      allowed_there = ap₂ (λ (x y : ℕ). allowed x (row t y)) ik ip ∙ h;
      argument_fits_lem =
          ap₂ (λ (x y : ℕ). argument_fits (length t) x (row t y) (argument_of w)) ik ip
          ∙ ap (argument_fits (length t) k (row t p)) ia
          ∙ g;
      passes_fit = ap₂ (λ (x y : ℕ). overflows t x y) ik ip ∙ o;
    }

module _ (t : Table) (p : ℕ) (z : table_refusal t ≡ 0) (l : p < length t) where
  -- the word of a kind and an argument that are allowed
  chosen : {u : Table} (k a : ℕ)
      → is_kind k ≡ true
      → allowed k (row t p) ≡ true
      → argument_fits (length t) k (row t p) a ≡ true
      → a < 256
      → overflows t k p ≡ false
      → moved t k p a ≡ u
      → One t p u (word_of k p a)
  chosen {u} k a kind h f small o e =
      let few = sound_few t z in
      let hp : p < 256 = omega arith in
      let w = word_of k p a in
      let ik = kind_word_of k p a hp small in
      let ip = process_word_of k p a hp small in
      let ia = argument_word_of k p a hp small in
      let y = says_accepted t w z (says_choice t w k p a (formed_word_of k p a hp small kind) ik ip ia l h f o) in
      let m : after_word t w ≡ u =
      accepted-moved t w y
      ∙ ap₂ (λ (x q : ℕ). moved t x q (argument_of w)) ik ip
      ∙ ap (moved t k p) ia
      ∙ e in
      (ip, y, m, λ v j x i. same_word t v w x y (j ∙ sym ip) (i ∙ sym m))

  -- where each is allowed
  abbrev flickers : List ℕ
  flickers = 20 ∷ 40 ∷ 24 ∷ []

  abbrev goes : List ℕ
  goes = 20 ∷ 21 ∷ 23 ∷ 24 ∷ 30 ∷ 40 ∷ []

  -- GO adds to no count away from 20
  counts_none : (v : ℕ) → (row t p).location ≡ v → eqb v 20 ≡ false → overflows t GO p ≡ false
  unfolding overflows
  counts_none v e h =
      ap (λ (b : Bool). b && not (raisable (competitors t) (row t p).passes)) (ap (λ (x : ℕ). eqb x 20) e ∙ h)

  -- GO at a location where it is always allowed
  chosen_go : {u : Table} (v : ℕ)
      → (row t p).location ≡ v
      → one_of v goes ≡ true
      → overflows t GO p ≡ false
      → gone t p ≡ u
      → One t p u (word_of GO p 0)
  unfolding allowed argument_fits moved
  chosen_go v e o c m =
      let h = one_of_at (row t p).location v goes e o in
      chosen GO 0 refl ((or-eq-true_iff (one_of (row t p).location goes) _).1 (Or.inl h)) refl (omega arith) c m

  -- away from 20
  chosen_on : {u : Table} (v : ℕ)
      → (row t p).location ≡ v
      → one_of v goes ≡ true
      → eqb v 20 ≡ false
      → gone t p ≡ u
      → One t p u (word_of GO p 0)
  chosen_on v e o away m = chosen_go v e o (counts_none v e away) m

  -- FLICKER away from 24
  chosen_act : (v a : ℕ)
      → (row t p).location ≡ v
      → one_of v flickers ≡ true
      → v ≢ 24
      → a < 2
      → One t p (assigned t p (with_act a)) (word_of FLICKER p a)
  unfolding allowed argument_fits moved overflows
  chosen_act v a e o ne h =
      let away : (row t p).location ≢ 24 = λ i. ne (sym e ∙ i) in
      chosen FLICKER a refl (one_of_at (row t p).location v flickers e o)
      (ap (λ (b : Bool). cond b (ltb a (length t)) (ltb a 2)) (ne_eqb _ _ away) ∙ lt-ltb a 2 h)
      (omega arith) refl (flickered_act t p a away)

  -- a member of lis fits in a word
  pub member_low : (q : ℕ) → has (row t p).lis q ≡ true → q < 256
  member_low q h =
      let few = sound_few t z in
      let low = member_below (row t p).lis (length t) q (sound-row t z p l).lis_low h in
      omega arith

  -- LOOK at a member of lis
  chosen_look : {u : Table} (q : ℕ)
      → (row t p).location ≡ 22
      → has (row t p).lis q ≡ true
      → set t p (looked q (row t q).act (row t p)) ≡ u
      → One t p u (word_of LOOK p q)
  unfolding allowed argument_fits moved overflows
  chosen_look q e h m =
      let some : (row t p).lis ≢ 0 = λ i. false≢true (sym (has_zero q) ∙ ap (λ (s : ℕ). has s q) (sym i) ∙ h) in
      chosen LOOK q refl
      ((and-eq-true_iff (eqb (row t p).location 22) (not (eqb (row t p).lis 0))).1
      (eq-eqb _ _ e, ap not (ne_eqb _ _ some)))
      h (member_low q h) refl m

  -- a step whose counts have room, where it adds to any
  one : {u : Table} (x : Step t p u)
      → ((row t p).location ≡ 20 → (row u p).location ≡ 21 → Room t p)
      → One t p u (step_word p x)
  unfolding allowed argument_fits moved entered raised competitors started looked reconsidered overflows
  one (rests e) room = chosen STAY 0 refl (eq-eqb _ _ e) refl (omega arith) refl refl
  one (comes e) room = chosen COME 0 refl (eq-eqb _ _ e) refl (omega arith) refl refl
  one (flickers_20 a e h) room = chosen_act 20 a e refl (omega arith) h
  one (enters e) room =
      let fit = room e (ap (λ (r : Row). r.location) (row_same t p _ l)) in
      chosen_go 20 e refl (room_fits t p fit) (gone_20 t p e)
  one (starts_scan e h) room = chosen_on 21 e refl refl (gone_21 t p e ∙ rw (lt-ltb _ _ h))
  one (wins e h) room = chosen_on 21 e refl refl (gone_21 t p e ∙ rw (le-ltb 0 (row t p).level (omega arith)))
  one (discards q e h a) room = chosen_look q e h (rw (eq-eqb _ _ a))
  one (keeps q e h a) room = chosen_look q e h (rw (ne_eqb _ _ a))
  one (ends_scan e h) room =
      chosen GO 0 refl
      ((or-eq-true_iff (one_of (row t p).location goes) _).1
      (Or.inr ((and-eq-true_iff (eqb (row t p).location 22) (eqb (row t p).lis 0)).1 (eq-eqb _ _ e, eq-eqb _ _ h))))
      refl (omega arith) (counts_none 22 e refl) (gone_22 t p e)
  one (lowers e h) room = chosen_on 23 e refl refl (gone_23 t p e ∙ rw (lt-ltb _ _ h))
  one (to_push e h b) room = chosen_on 23 e refl refl (gone_23 t p e ∙ rw (le-ltb _ _ h, eq-eqb _ _ b))
  one (waits e h b v) room =
      chosen_on 23 e refl refl (gone_23 t p e ∙ rw (le-ltb _ _ h, ne_eqb _ _ b, ne_eqb _ _ v))
  one (skips e h b v) room =
      chosen_on 23 e refl refl (gone_23 t p e ∙ rw (le-ltb _ _ h, ne_eqb _ _ b, eq-eqb _ _ v))
  one (flickers_24 a e h) room =
      let few = sound_few t z in
      chosen FLICKER a refl (one_of_at (row t p).location 24 flickers e refl)
      (ap (λ (b : Bool). cond b (ltb a (length t)) (ltb a 2)) (eq-eqb _ _ e) ∙ lt-ltb a (length t) h)
      (omega arith) refl (flickered_turn t p a e)
  one (pushes e) room = chosen_on 24 e refl refl (gone_push t p l e)
  one (exits e) room = chosen_on 30 e refl refl (gone_exit t p l e)
  one (flickers_40 a e h) room = chosen_act 40 a e refl (omega arith) h
  one (leaves e) room = chosen_on 40 e refl refl (gone_40 t p e)
  one (cancels e) room = chosen CANCEL 0 refl (eq-eqb _ _ e) refl (omega arith) refl refl

  -- an entry whose counts have no room
  pub full_refused : (row t p).location ≡ 20 → raisable (Cp t) (row t p).passes ≡ false
      → (process_of (word_of GO p 0) ≡ p) × (refusal_of t (word_of GO p 0) ≡ 15)
  unfolding refusal_of word_refusal allowed argument_fits overflows competitors
  full_refused e full =
      let few = sound_few t z in
      let hp : p < 256 = omega arith in
      let ik = kind_word_of GO p 0 hp (omega arith) in
      let ip = process_word_of GO p 0 hp (omega arith) in
      let ia = argument_word_of GO p 0 hp (omega arith) in (
        ip,
        rw (eq-eqb _ _ z, formed_word_of GO p 0 hp (omega arith) refl, ik, ip, ia, lt-ltb _ _ l, e, full),
      )

-- A step has its word, if its counts have room.
pub one_room : (t u : Table) (p : ℕ)
    → table_refusal t ≡ 0
    → p < length t
    → (x : Step t p u)
    → ((row t p).location ≡ 20 → (row u p).location ≡ 21 → Room t p)
    → One t p u (step_word p x)
one_room t u p z l x room = one t p z l x room

-- it has its word, or that is refused with 15
abbrev pub Worded : {u : Table} (t : Table) (p : ℕ) → Step t p u → Type 0
Worded {u} t p x =
    One t p u (step_word p x) ⊎ ((process_of (step_word p x) ≡ p) × (refusal_of t (step_word p x) ≡ 15))

-- its word, where it is not refused with 15
pub unless_full : {t u : Table} {p : ℕ} (x : Step t p u)
    → Worded t p x
    → (refusal_of t (step_word p x) ≡ 15 → ⊥)
    → One t p u (step_word p x)
unless_full x h ne = ⊎_elim (λ o. o) (λ o. absurd (ne o.1)) h

pub one_word : (t u : Table) (p : ℕ) → sound t ≡ true → p < length t → (x : Step t p u) → Worded t p x
one_word t u p h l x = go x
  where
    z : table_refusal t ≡ 0
    z = sound-accepted t h

    -- a step that does not go from 20 to 21
    plain : {u : Table} (x : Step t p u) → ((row t p).location ≡ 20 → (row u p).location ≡ 21 → ⊥)
        → Worded t p x
    plain x away = inl (one t p z l x (λ e f. absurd (away e f)))

    -- from a location that is not 20
    from : {u : Table} (x : Step t p u) (v : ℕ) → (row t p).location ≡ v → (v ≡ 20 → ⊥)
        → Worded t p x
    from x v e ne = plain x (λ i f. ne (sym e ∙ i))

    enter : (e : (row t p).location ≡ 20) (b : Bool) → raisable (Cp t) (row t p).passes ≡ b → Worded t p (enters e)
    enter e true r = inl (one t p z l (enters e) (λ i f. r))
    enter e false r = inr (full_refused t p z l e r)

    go : {u : Table} (x : Step t p u)
        → Worded t p x
    go (rests e) = from (rests e) 10 e (omega arith)
    go (comes e) = from (comes e) 10 e (omega arith)
    go (flickers_20 a e k) =
        plain (flickers_20 a e k)
        (λ i f. absurd (omega (arith, ap (λ (r : Row). r.location) (row_same t p (with_act a (row t p)) l))))
    go (enters e) = enter e (raisable (Cp t) (row t p).passes) refl
    go (starts_scan e k) = from (starts_scan e k) 21 e (omega arith)
    go (wins e k) = from (wins e k) 21 e (omega arith)
    go (discards q e k a) = from (discards q e k a) 22 e (omega arith)
    go (keeps q e k a) = from (keeps q e k a) 22 e (omega arith)
    go (ends_scan e k) = from (ends_scan e k) 22 e (omega arith)
    go (lowers e k) = from (lowers e k) 23 e (omega arith)
    go (to_push e k b) = from (to_push e k b) 23 e (omega arith)
    go (waits e k b v) = from (waits e k b v) 23 e (omega arith)
    go (skips e k b v) = from (skips e k b v) 23 e (omega arith)
    go (flickers_24 a e k) = from (flickers_24 a e k) 24 e (omega arith)
    go (pushes e) = from (pushes e) 24 e (omega arith)
    go (exits e) = from (exits e) 30 e (omega arith)
    go (flickers_40 a e k) = from (flickers_40 a e k) 40 e (omega arith)
    go (leaves e) = from (leaves e) 40 e (omega arith)
    go (cancels e) =
        plain (cancels e)
        (λ i f. absurd (omega (arith, ap (λ (r : Row). r.location) (row_same t p (with_location 40 (row t p)) l))))

pub word_step : (t : Table) (w : ℕ)
    → refusal_of t w ≡ 0
    → (x : Step t (process_of w) (after_word t w)) × (step_word (process_of w) x ≡ w)
word_step t w z =
    let x = accepted_step t w z in
    let s = one t (process_of w) (accepted_table t w z) (accepted_process t w z) x (word_room t w z) in
    (x, sym (s.3 w refl z refl))
