-- Laws of rounds: the word that a round gives is accepted, or meets 15, and what it does to the table.
--
--   Move t p u          <=>  the word that a round gives process p makes u of t: a step of System.antt that neither
--                            comes, flickers nor cancels, and of the looks the one at the lowest member of lis.
--   move_step                a move is a step
--   round_word_answered      the word is accepted, or is a GO at 20 that meets 15
--   has_step, process_moves_on   every process of a sound table has a move, and the word of the round makes it where
--                            it is accepted
--   one_move                 and it has no other move
--   by_moves                 what each move makes of what held before it, an unbroken round makes
--   round-sound, round-length    a round keeps a table sound and its number of processes
--   rounds_zero, rounds_suc      no round, and one round before the others
--
-- Assumes nothing.
use Prim.Native.Nat.{ℕ, zero, suc, ◌-◌, ◌^◌, ◌≤◌, ◌<◌}
use mathlib.Core.Path.{◌≡◌, refl, sym, ap, ap₂, ◌∙◌, subst}
use mathlib.Core.Bool.{Bool, true, cond, ◌&&◌, not, false≢true}
use mathlib.Core.List.{map}
use mathlib.Core.Logic.{◌≢◌, ◌⊎◌, inl, inr, ⊎_elim, by_cases}
use native.Mathlib.Decide.{ℕ_discrete, dec_lt}
use native.Mathlib.Nat.{lt_of_lt_of_le}
use native.Mathlib.Omega.{arith}
use lib.Dec.{eqb}
use lib.ListN.{length}
use lib.Pow.{pow_mono}
use borrow.Author.Tests.{ne_eqb}
use Rattle.counting.specs.Sets.{has, size, without, others, lowest}
use Rattle.counting.proofs.SetLaws.{has_zero}
use Rattle.counting.proofs.LowestLaws.{lowest_member}
use Rattle.machine.specs.Rows.{with_location, with_act, with_bb, with_level, with_est, with_lis, with_ahead}
use Rattle.machine.specs.Rows.{with_passes}
use Rattle.machine.specs.Tables.{Table, row, locations, table_refusal}
use Rattle.machine.specs.Words.{STAY, GO, LOOK, process_of, word_of}
use Rattle.machine.specs.Steps.{overflows, refusal_of, after_word}
use Rattle.machine.specs.Rounds.{round_word, round_to, round, rounds, Unbroken}
use Rattle.machine.specs.System.{assigned, turn_assigned, Cp, incremented, exited, Step, step_word}
use Rattle.machine.proofs.OneOfLaws.{by_one}
use Rattle.machine.proofs.WordLaws.{kind_word_of, process_word_of}
use Rattle.machine.proofs.Accepted.{accepted_says}
use Rattle.machine.proofs.OneWord.{one_room, one_word}
use Rattle.machine.proofs.SoundRows.{sound-row, sound_few, accepted-sound}
use Rattle.machine.proofs.Soundness.{Room, fits_room, word_keeps_sound, word_keeps_length}

pub data Move (t : Table) (p : ℕ) : Table → Type 0 where
  rests : (row t p).location ≡ 10 → Move t p t
  enters :
      (row t p).location ≡ 20
      → Move t p
      (assigned t p
      (λ r.
      with_location 21
      (with_est (others (length t) p)
      (with_level (length t - 1) (with_act 1 (with_ahead (Cp t) (with_passes (incremented (Cp t) r.passes) r)))))))
  starts_scan :
      (row t p).location ≡ 21 → 0 < (row t p).level
      → Move t p (assigned t p (λ r. with_location 22 (with_lis r.est r)))
  wins : (row t p).location ≡ 21 → (row t p).level ≡ 0 → Move t p (assigned t p (with_location 30))
  discards :
      (row t p).location ≡ 22 → has (row t p).lis (lowest (row t p).lis) ≡ true
      → (row t (lowest (row t p).lis)).act ≡ 0
      → Move t p
      (assigned t p
      (λ r. with_est (without r.est (lowest r.lis)) (with_lis (without r.lis (lowest r.lis)) r)))
  keeps :
      (row t p).location ≡ 22 → has (row t p).lis (lowest (row t p).lis) ≡ true
      → ((row t (lowest (row t p).lis)).act ≡ 0 → ⊥)
      → Move t p (assigned t p (λ r. with_lis (without r.lis (lowest r.lis)) r))
  ends_scan : (row t p).location ≡ 22 → (row t p).lis ≡ 0 → Move t p (assigned t p (with_location 23))
  lowers :
      (row t p).location ≡ 23 → size (row t p).est < (row t p).level
      → Move t p (assigned t p (λ r. with_location 21 (with_bb 0 (with_level (size r.est) r))))
  to_push :
      (row t p).location ≡ 23 → (row t p).level ≤ size (row t p).est → (row t p).bb ≡ 0
      → Move t p (assigned t p (with_location 24))
  waits :
      (row t p).location ≡ 23 → (row t p).level ≤ size (row t p).est → ((row t p).bb ≡ 0 → ⊥)
      → ((row t (row t p).level).turn ≡ p → ⊥)
      → Move t p (assigned t p (λ r. with_location 21 (with_bb 0 (with_level (r.level - 1) r))))
  skips :
      (row t p).location ≡ 23 → (row t p).level ≤ size (row t p).est → ((row t p).bb ≡ 0 → ⊥)
      → (row t (row t p).level).turn ≡ p
      → Move t p (assigned t p (with_location 21))
  pushes :
      (row t p).location ≡ 24
      → Move t p
      (assigned (turn_assigned t (row t p).level p) p
      (λ r. with_location 21 (with_ahead (without (Cp t) p) (with_est (others (length t) p) (with_bb 1 r)))))
  exits :
      (row t p).location ≡ 30
      → Move t p (assigned (map (exited p) t) p (with_location 40))
  leaves : (row t p).location ≡ 40 → Move t p (assigned t p (λ r. with_location 10 (with_act 0 r)))

-- ---- a move is a step, and its word is that of the round

unfoldable pub move_step : {t u : Table} {p : ℕ} → Move t p u → Step t p u
move_step (rests e) = Step.rests e
move_step (enters e) = Step.enters e
move_step (starts_scan e h) = Step.starts_scan e h
move_step (wins e h) = Step.wins e h
move_step {t} {p = p} (discards e h a) = Step.discards (lowest (row t p).lis) e h a
move_step {t} {p = p} (keeps e h a) = Step.keeps (lowest (row t p).lis) e h a
move_step (ends_scan e h) = Step.ends_scan e h
move_step (lowers e h) = Step.lowers e h
move_step (to_push e h b) = Step.to_push e h b
move_step (waits e h b v) = Step.waits e h b v
move_step (skips e h b v) = Step.skips e h b v
move_step (pushes e) = Step.pushes e
move_step (exits e) = Step.exits e
move_step (leaves e) = Step.leaves e

module _ (t : Table) (p : ℕ) where
  -- the word of the round where the location of p is known
  word_at : (l : ℕ)
      → (row t p).location ≡ l
      → round_word t p
      ≡ cond (eqb l 10) (word_of STAY p 0)
      (cond (eqb l 22 && not (eqb (row t p).lis 0)) (word_of LOOK p (lowest (row t p).lis)) (word_of GO p 0))
  unfolding round_word
  word_at l e = rw e

  word_look : (row t p).location ≡ 22
      → has (row t p).lis (lowest (row t p).lis) ≡ true
      → round_word t p ≡ word_of LOOK p (lowest (row t p).lis)
  word_look e h =
      let some : (row t p).lis ≢ 0 =
      λ i. false≢true (sym (has_zero _) ∙ ap (λ (s : ℕ). has s (lowest (row t p).lis)) (sym i) ∙ h) in
      word_at 22 e
      ∙ ap (λ (b : Bool). cond (not b) (word_of LOOK p (lowest (row t p).lis)) (word_of GO p 0)) (ne_eqb _ _ some)

  move_word : {u : Table} (m : Move t p u) → round_word t p ≡ step_word p (move_step m)
  unfolding move_step
  move_word (rests e) = word_at 10 e
  move_word (enters e) = word_at 20 e
  move_word (starts_scan e h) = word_at 21 e
  move_word (wins e h) = word_at 21 e
  move_word (discards e h a) = word_look e h
  move_word (keeps e h a) = word_look e h
  move_word (ends_scan e h) =
      word_at 22 e
      ∙ ap (λ (s : ℕ). cond (not (eqb s 0)) (word_of LOOK p (lowest (row t p).lis)) (word_of GO p 0)) h
  move_word (lowers e h) = word_at 23 e
  move_word (to_push e h b) = word_at 23 e
  move_word (waits e h b v) = word_at 23 e
  move_word (skips e h b v) = word_at 23 e
  move_word (pushes e) = word_at 24 e
  move_word (exits e) = word_at 30 e
  move_word (leaves e) = word_at 40 e

-- ---- every process has a move

module _ (t : Table) (p : ℕ) where
  at_21 : (row t p).location ≡ 21 → Dec (0 < (row t p).level) → (u : Table) × Move t p u
  at_21 e (yes h) = (_, starts_scan e h)
  at_21 e (no nh) = (_, wins e (omega (arith, nh)))

  at_22 : (row t p).location ≡ 22 → (row t p).lis < 2 ^ 16 → Dec ((row t p).lis ≡ 0) → (u : Table) × Move t p u
  at_22 e l (yes z) = (_, ends_scan e z)
  at_22 e l (no nz) = look (ℕ_discrete (row t (lowest (row t p).lis)).act 0)
    where
      member : has (row t p).lis (lowest (row t p).lis) ≡ true
      member = lowest_member (row t p).lis l nz

      look : Dec ((row t (lowest (row t p).lis)).act ≡ 0) → (u : Table) × Move t p u
      look (yes a) = (_, discards e member a)
      look (no a) = (_, keeps e member a)

  at_23 : (row t p).location ≡ 23
      → Dec (size (row t p).est < (row t p).level)
      → Dec ((row t p).bb ≡ 0)
      → Dec ((row t (row t p).level).turn ≡ p)
      → (u : Table) × Move t p u
  at_23 e (yes h) b v = (_, lowers e h)
  at_23 e (no nh) (yes b) v = (_, to_push e (omega (arith, nh)) b)
  at_23 e (no nh) (no b) (yes v) = (_, skips e (omega (arith, nh)) b v)
  at_23 e (no nh) (no b) (no v) = (_, waits e (omega (arith, nh)) b v)

  some_move : table_refusal t ≡ 0 → p < length t → (u : Table) × Move t p u
  some_move z l =
      let s = sound-row t z p l in
      let r = row t p in
      by_one r.location locations (
        (λ e. (_, rests e)),
        (
          (λ e. (_, enters e)),
          (
            (λ e. at_21 e (dec_lt 0 r.level)),
            (
              (λ e. at_22 e (lt_of_lt_of_le s.lis_low (pow_mono (sound_few t z))) (ℕ_discrete r.lis 0)),
              (
                (λ e.
                    at_23 e (dec_lt (size r.est) r.level) (ℕ_discrete r.bb 0)
                    (ℕ_discrete (row t r.level).turn p)),
                ((λ e. (_, pushes e)), ((λ e. (_, exits e)), ((λ e. (_, leaves e)), tt))),
              ),
            ),
          ),
        ),
      )
      s.location_known

  -- at 20 the word is GO
  enters_by_go : (row t p).location ≡ 20 → round_word t p ≡ word_of GO p 0
  enters_by_go e = word_at t p 20 e

  -- the room of a word of the round that is accepted
  round_room : table_refusal t ≡ 0 → p < length t → refusal_of t (round_word t p) ≡ 0 → (row t p).location ≡ 20 → Room t p
  round_room z l ok e =
      let few = sound_few t z in
      let s = accepted_says t (word_of GO p 0) (sym (ap (refusal_of t) (enters_by_go e)) ∙ ok) in
      let ik = kind_word_of GO p 0 (omega arith) (omega arith) in
      let ip = process_word_of GO p 0 (omega arith) (omega arith) in
      fits_room t p (sym (ap₂ (λ (k q : ℕ). overflows t k q) ik ip) ∙ s.passes_fit) e

  pub process_moves_on : table_refusal t ≡ 0
      → p < length t
      → refusal_of t (round_word t p) ≡ 0
      → Move t p (after_word t (round_word t p))
  process_moves_on z l ok =
      let m = some_move z l in
      let o = one_room t m.0 p z l (move_step m.1) (λ e f. round_room z l ok e) in
      let w = move_word t p m.1 in
      subst (Move t p) (sym (ap (after_word t) w ∙ o.2)) m.1

  -- every process of a sound table has a step
  pub has_step : table_refusal t ≡ 0 → p < length t → (u : Table) × Step t p u
  has_step z l = let m = some_move z l in (m.0, move_step m.1)

-- The word that a round gives is accepted, from every sound table, or it is GO at 20 and meets 15.
pub round_word_answered : (t : Table) (p : ℕ)
    → table_refusal t ≡ 0
    → p < length t
    → (refusal_of t (round_word t p) ≡ 0) ⊎ (((row t p).location ≡ 20) × (refusal_of t (round_word t p) ≡ 15))
round_word_answered t p z l =
    let m = some_move t p z l in
    let w = move_word t p m.1 in
    by_cases (ℕ_discrete (row t p).location 20)
    (λ e.
    ⊎_elim (λ o. inl (ap (refusal_of t) w ∙ o.1)) (λ o. inr (e, ap (refusal_of t) w ∙ o.1))
    (one_word t m.0 p (accepted-sound t z) l (move_step m.1)))
    (λ ne.
    inl (ap (refusal_of t) w ∙ (one_room t m.0 p z l (move_step m.1) (λ e f. absurd (ne e))).1))

-- it is a word of that process
pub round_word_process : (t : Table) (p : ℕ) → table_refusal t ≡ 0 → p < length t → process_of (round_word t p) ≡ p
round_word_process t p z l =
    let m = some_move t p z l in
    ap process_of (move_word t p m.1)
    ∙ ⊎_elim (λ o. o.0) (λ o. o.0) (one_word t m.0 p (accepted-sound t z) l (move_step m.1))

-- so away from 20 it is accepted
pub round_word_accepted : (t : Table) (p : ℕ)
    → table_refusal t ≡ 0
    → p < length t
    → (row t p).location ≢ 20
    → refusal_of t (round_word t p) ≡ 0
round_word_accepted t p z l ne = ⊎_elim (λ o. o) (λ o. absurd (ne o.0)) (round_word_answered t p z l)

-- A process whose word is accepted has one move: each is what the word of the round makes.
pub one_move : {t u w : Table} {p : ℕ}
    → table_refusal t ≡ 0
    → p < length t
    → refusal_of t (round_word t p) ≡ 0
    → Move t p u
    → Move t p w
    → u ≡ w
one_move {t} {u} {w} {p} z l ok m o = sym (made u m) ∙ made w o
  where
    made : (u : Table) → Move t p u → after_word t (round_word t p) ≡ u
    made u m =
        ap (after_word t) (move_word t p m)
        ∙ (one_room t u p z l (move_step m) (λ e f. round_room t p z l ok e)).2

-- ---- one round

module _ (t : Table) where
  pub round_to-length : (p : ℕ) → length (round_to t p) ≡ length t
  unfolding round_to
  round_to-length zero = refl
  round_to-length (suc p) = word_keeps_length (round_to t p) (round_word (round_to t p) p) ∙ round_to-length p

  pub round_to-sound : table_refusal t ≡ 0 → (p : ℕ) → table_refusal (round_to t p) ≡ 0
  unfolding round_to
  round_to-sound z zero = z
  round_to-sound z (suc p) = word_keeps_sound (round_to t p) (round_word (round_to t p) p) (round_to-sound z p)

  pub round-length : length (round t) ≡ length t
  unfolding round
  round-length = round_to-length (length t)

  pub round-sound : table_refusal t ≡ 0 → table_refusal (round t) ≡ 0
  unfolding round
  round-sound z = round_to-sound z (length t)

  -- P p v says what holds after the words of the processes below p, none of which is refused
  module _ (P : ℕ → Table → Type 0) (z : table_refusal t ≡ 0) (unbroken : Unbroken t)
      (each : (p : ℕ) (v u : Table)
      → p < length t
      → length v ≡ length t
      → table_refusal v ≡ 0
      → table_refusal u ≡ 0
      → refusal_of v (round_word v p) ≡ 0
      → Move v p u
      → P p v
      → P (suc p) u)
    where
      to_moves : P 0 t → (p : ℕ) → p ≤ length t → P p (round_to t p)
      unfolding round_to
      to_moves h zero l = h
      to_moves h (suc p) l =
          let v = round_to t p in
          let in-v : p < length v = omega (arith, round_to-length p) in
          let ok = unbroken p (omega arith) in
          let m = process_moves_on v p (round_to-sound z p) in-v ok in
          each p v _ (omega arith) (round_to-length p) (round_to-sound z p) (round_to-sound z (suc p)) ok m
          (to_moves h p (omega arith))

      pub by_moves : P 0 t → P (length t) (round t)
      unfolding round
      by_moves h = to_moves h (length t) (omega arith)

-- ---- rounds

pub rounds_zero : (t : Table) → rounds 0 t ≡ t
unfolding rounds
rounds_zero t = refl

pub rounds_suc : (r : ℕ) (t : Table) → rounds (suc r) t ≡ rounds r (round t)
unfolding rounds
rounds_suc r t = refl
