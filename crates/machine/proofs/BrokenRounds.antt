-- Where a round is broken: at a GO at 20 that meets 15, so in a first round alone, for an unbroken round leaves nobody
-- at 20.
--
--   Roomy t         <=>  nobody at 20 has a count of 65,535.
--   move_leaves          a process is not at 20 after its own move
--   roomy_unbroken, entered_unbroken    then a round is unbroken, so also where nobody is at 20
--   round_enters         nobody is at 20 after an unbroken round
--   next_unbroken, rounds_unbroken    so every round after an unbroken one is unbroken
--   Stops t         <=>  a round from t stops before the word of some process, the first that is refused: it meets 15.
--   unbroken_or_stops    a round is unbroken or stops
--   on_whole, on_stops   how far its words go then
--   round_on_sound       what they leave is sound
--
-- Assumes nothing.
use Prim.Native.Nat.{ℕ, zero, suc, ◌+◌, ◌-◌, ◌≤◌, ◌<◌}
use mathlib.Core.Path.{◌≡◌, refl, sym, ap, ◌∙◌, subst}
use mathlib.Core.Bool.{Bool, true, false}
use mathlib.Core.Logic.{◌≢◌, ◌⊎◌, inl, inr, ⊎_elim}
use native.Mathlib.Decide.{ℕ_discrete}
use native.Mathlib.Omega.{arith}
use lib.Dec.{eqb}
use lib.ListN.{length, get_or, set}
use borrow.Author.Tests.{eq-eqb, ne_eqb}
use Rattle.machine.specs.Refusals.{accepted, passes_full}
use Rattle.machine.specs.Tables.{Table, row, table_refusal}
use Rattle.machine.specs.Steps.{refusal_of, after_word}
use Rattle.machine.specs.Rounds.{round_word, round_to, round, rounds, Went, round_on, Unbroken}
use Rattle.machine.specs.System.{exited}
use Rattle.machine.specs.declared.Row.{Row}
use Rattle.machine.proofs.PassLaws.{cleared_at, cleared_own}
use Rattle.machine.proofs.SoundRows.{sound-row, sound_few}
use Rattle.machine.proofs.Soundness.{word_keeps_sound, step_keeps_length}
use Rattle.machine.proofs.Frames.{other_row, step_others}
use Rattle.machine.proofs.Assignments.{competes_within}
use Rattle.machine.proofs.StepRows.{step_row, step_becomes}
use Rattle.machine.proofs.RoundLaws.{Move, move_step, process_moves_on, round_word_answered, round_word_process}
use Rattle.machine.proofs.RoundLaws.{round_to-length, round_to-sound, round-length, round-sound, by_moves}
use Rattle.machine.proofs.RoundLaws.{rounds_zero, rounds_suc}
use Rattle.machine.proofs.FullLaws.{full_word}
use Rattle.machine.proofs.RoundLaws.Move.{rests, enters, starts_scan, wins, discards, keeps, ends_scan, lowers}
use Rattle.machine.proofs.RoundLaws.Move.{to_push, waits, skips, pushes, exits, leaves}

abbrev pub RoomyRow : Row → Type 0
RoomyRow r = r.location ≡ 20 → (i : ℕ) → i < 16 → get_or r.passes i 0 < 65535

abbrev pub Roomy : Table → Type 0
Roomy t = (q : ℕ) → q < length t → RoomyRow (row t q)

-- ---- one move

module _ (t : Table) (p : ℕ) where
  -- no move of a round leads to 20
  own-leaves : {u : Table} (m : Move t p u) → (step_row t p (move_step m)).location ≢ 20
  unfolding move_step
  own-leaves (rests e) i = omega arith
  own-leaves (enters e) i = omega arith
  own-leaves (starts_scan e h) i = omega arith
  own-leaves (wins e h) i = omega arith
  own-leaves (discards e h a) i = omega arith
  own-leaves (keeps e h a) i = omega arith
  own-leaves (ends_scan e h) i = omega arith
  own-leaves (lowers e h) i = omega arith
  own-leaves (to_push e h b) i = omega arith
  own-leaves (waits e h b v) i = omega arith
  own-leaves (skips e h b v) i = omega arith
  own-leaves (pushes e) i = omega arith
  own-leaves (exits e) i = omega arith
  own-leaves (leaves e) i = omega arith

module _ (t u : Table) (p : ℕ) (z : table_refusal t ≡ 0) (l : p < length t) (m : Move t p u) where
  pub move_leaves : (row u p).location ≢ 20
  move_leaves e =
      let b = step_becomes t p l (sound-row t z p l).level_low (move_step m) in
      own-leaves t p m (sym (ap (λ (r : Row). r.location) b.own) ∙ e)

  -- nor is another process, where it was not
  rest_leaves : (q : ℕ) → (q ≢ p → (row t q).location ≢ 20) → (row u q).location ≢ 20
  rest_leaves q h = go (ℕ_discrete q p)
    where
      go : Dec (q ≡ p) → (row u q).location ≢ 20
      go (yes e) = subst (λ (x : ℕ). (row u x).location ≢ 20) (sym e) move_leaves
      go (no ne) = λ e. h ne (sym (step_others t u p q (move_step m) ne).location_same ∙ e)

  -- no move raises a count of another process
  move_roomy : Roomy t → Roomy u
  move_roomy h q k = go (ℕ_discrete q p)
    where
      cleared : (r : Row) → RoomyRow r → RoomyRow (exited p r)
      cleared r room e i k = count (ℕ_discrete i p)
        where
          count : Dec (i ≡ p) → get_or (set r.passes p 0) i 0 < 65535
          count (yes y) = subst (λ (x : ℕ). get_or (set r.passes p 0) x 0 < 65535) (sym y)
              (omega (arith, cleared_own r.passes p))
          count (no ne) = omega (arith, cleared_at r.passes p i ne, room e i k)

      go : Dec (q ≡ p) → RoomyRow (row u q)
      go (yes e) = λ f. absurd (rest_leaves q (λ ne. absurd (ne e)) f)
      go (no ne) =
          other_row RoomyRow t p q ne (λ e v r room. room) (λ e. cleared) (move_step m)
          (h q (omega (arith, step_keeps_length t u p (move_step m))))

-- ---- one round

-- the word of process p of a round from t is accepted
abbrev pub Given : Table → ℕ → Type 0
Given t p = refusal_of (round_to t p) (round_word (round_to t p) p) ≡ accepted

-- 15 is met by a count of 65,535 alone
roomy_accepted : (t : Table) (p : ℕ)
    → table_refusal t ≡ 0
    → p < length t
    → Roomy t
    → refusal_of t (round_word t p) ≡ 0
roomy_accepted t p z l h =
    ⊎_elim (λ ok. ok)
    (λ full.
    let same = round_word_process t p z l in
    let (_, _, _, i, c, most) = full_word t (round_word t p) full.1 in
    let few : i < 16 = omega (arith, competes_within t i c, sound_few t z) in
    absurd (omega (arith, h p l full.0 i few, ap (λ (x : ℕ). get_or (row t x).passes i 0) same, most)))
    (round_word_answered t p z l)

module _ (t : Table) (z : table_refusal t ≡ 0) where
  roomy_to : Roomy t → (p : ℕ) → p ≤ length t → Roomy (round_to t p)
  unfolding round_to
  roomy_to h zero l = λ q k. h q k
  roomy_to h (suc p) l =
      let v = round_to t p in
      let y = round_to-sound t z p in
      let in-v : p < length v = omega (arith, round_to-length t p) in
      let before = roomy_to h p (omega arith) in
      move_roomy v _ p y in-v (process_moves_on v p y in-v (roomy_accepted v p y in-v before)) before

  pub roomy_unbroken : Roomy t → Unbroken t
  roomy_unbroken h p l =
      roomy_accepted (round_to t p) p (round_to-sound t z p) (omega (arith, round_to-length t p))
      (roomy_to h p (omega arith))

  pub entered_unbroken : ((q : ℕ) → q < length t → (row t q).location ≢ 20) → Unbroken t
  entered_unbroken h = roomy_unbroken (λ q l e. absurd (h q l e))

  pub round_enters : Unbroken t → (q : ℕ) → q < length t → (row (round t) q).location ≢ 20
  round_enters whole q l =
      by_moves t (λ p v. (q : ℕ) → q < p → (row v q).location ≢ 20) z whole
      (λ p v u i n y after ok m h q k.
      rest_leaves v u p y (subst (λ (x : ℕ). p < x) (sym n) i) m q (λ ne. h q (omega (arith, ne))))
      (λ q k. absurd (omega arith)) q l

-- ---- the rounds after it

pub next_unbroken : (t : Table) → table_refusal t ≡ 0 → Unbroken t → Unbroken (round t)
next_unbroken t z whole =
    entered_unbroken (round t) (round-sound t z)
    (λ q l. round_enters t z whole q (subst (λ (n : ℕ). q < n) (round-length t) l))

pub rounds_unbroken : (r : ℕ) (t : Table) → table_refusal t ≡ 0 → Unbroken t → Unbroken (rounds r t)
rounds_unbroken zero t z whole = subst Unbroken (sym (rounds_zero t)) whole
rounds_unbroken (suc r) t z whole =
    subst Unbroken (sym (rounds_suc r t))
    (rounds_unbroken r (round t) (round-sound t z) (next_unbroken t z whole))

-- ---- a round that stops

pub record Stops (t : Table) : Type 0 where
  pub process : ℕ
  pub process_in : process < length t
  pub before_accepted : (q : ℕ) → q < process → Given t q
  pub refused_then : refusal_of (round_to t process) (round_word (round_to t process) process) ≡ passes_full

module _ (t : Table) (z : table_refusal t ≡ 0) where
  -- so far no word is refused, or one is
  abbrev SoFar : ℕ → Type 0
  SoFar p = ((q : ℕ) → q < p → Given t q) ⊎ Stops t

  one_more : (p : ℕ) → p < length t → SoFar p → SoFar (suc p)
  one_more p l (inr s) = inr s
  one_more p l (inl h) =
      go (round_word_answered (round_to t p) p (round_to-sound t z p) (omega (arith, round_to-length t p)))
    where
      go : Given t p
          ⊎ (((row (round_to t p) p).location ≡ 20) × (refusal_of (round_to t p) (round_word (round_to t p) p) ≡ 15))
          → SoFar (suc p)
      go (inl ok) = inl (λ q k. given q k (ℕ_discrete q p))
        where
          given : (q : ℕ) → q < suc p → Dec (q ≡ p) → Given t q
          given q k (yes e) = subst (Given t) (sym e) ok
          given q k (no ne) = h q (omega (arith, ne))
      go (inr full) = inr (record { process = p; process_in = l; before_accepted = h; refused_then = full.1 })

  so_far : (p : ℕ) → p ≤ length t → SoFar p
  so_far zero l = inl (λ q k. absurd (omega arith))
  so_far (suc p) l = one_more p (omega arith) (so_far p (omega arith))

  pub unbroken_or_stops : Unbroken t ⊎ Stops t
  unbroken_or_stops = so_far (length t) (omega arith)

-- ---- how far the words go

module _ (t : Table) (p m : ℕ) where
  unfoldable given : Bool → Went
  given b =
      elim b [
        | true ↦ round_on (after_word t (round_word t p)) (suc p) m
        | false ↦ record { refusal = refusal_of t (round_word t p); table = t }
      ]

  given_is : round_on t p (suc m) ≡ given (eqb (refusal_of t (round_word t p)) 0)
  unfolding round_on given
  given_is = refl

  pub on_word : refusal_of t (round_word t p) ≡ 0
      → round_on t p (suc m) ≡ round_on (after_word t (round_word t p)) (suc p) m
  unfolding given
  on_word e = given_is ∙ ap given (eq-eqb _ _ e)

  pub on_refused : (refusal_of t (round_word t p) ≡ 0 → ⊥)
      → round_on t p (suc m) ≡ record { refusal = refusal_of t (round_word t p); table = t }
  unfolding given
  on_refused ne = given_is ∙ ap given (ne_eqb _ _ ne)

pub on_none : (t : Table) (p : ℕ) → round_on t p 0 ≡ record { refusal = 0; table = t }
unfolding round_on
on_none t p = refl

module _ (t : Table) where
  -- the first p words, where they are accepted
  on_to : (p m : ℕ) → ((q : ℕ) → q < p → Given t q) → round_on t 0 (p + m) ≡ round_on (round_to t p) p m
  unfolding round_to
  on_to zero m h = ap (round_on t 0) (omega arith)
  on_to (suc p) m h =
      ap (round_on t 0) (omega arith)
      ∙ on_to p (suc m) (λ q k. h q (omega arith))
      ∙ on_word (round_to t p) p m (h p (omega arith))

  pub on_whole : Unbroken t → round_on t 0 (length t) ≡ record { refusal = 0; table = round t }
  unfolding round
  on_whole whole = ap (round_on t 0) (omega arith) ∙ on_to (length t) 0 whole ∙ on_none (round t) (length t)

  pub on_stops : (s : Stops t) → round_on t 0 (length t) ≡ record { refusal = 15; table = round_to t s.process }
  on_stops s =
      let p = s.process in
      let v = round_to t p in
      ap (round_on t 0) (omega (arith, s.process_in))
      ∙ on_to p (suc (length t - (p + 1))) s.before_accepted
      ∙ on_refused v p _ (λ e. omega (arith, e, s.refused_then))
      ∙ ap (λ (x : ℕ). record { refusal = x; table = v }) s.refused_then

-- what is left is sound
pub round_on_sound : (t : Table) (p m : ℕ) → table_refusal t ≡ 0 → table_refusal (round_on t p m).table ≡ 0
round_on_sound t p zero z = ap (λ (w : Went). table_refusal w.table) (on_none t p) ∙ z
round_on_sound t p (suc m) z =
    go (ℕ_discrete (refusal_of t (round_word t p)) 0)
    (round_on_sound (after_word t (round_word t p)) (suc p) m (word_keeps_sound t (round_word t p) z))
  where
    go : Dec (refusal_of t (round_word t p) ≡ 0)
        → table_refusal (round_on (after_word t (round_word t p)) (suc p) m).table ≡ 0
        → table_refusal (round_on t p (suc m)).table ≡ 0
    go (yes e) h = ap (λ (w : Went). table_refusal w.table) (on_word t p m e) ∙ h
    go (no ne) h = ap (λ (w : Went). table_refusal w.table) (on_refused t p m ne) ∙ z
