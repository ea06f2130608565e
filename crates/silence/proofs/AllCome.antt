-- After COME of every process of a fresh table all are at 20 with bb 0 and no passes, and after one round more a front
-- begins on the highest level.
--
--   Came q r        <=>  r is at 20 with bb 0 and no passes.
--   all_come             every row is such a row after `all_coming`
--   came_unbroken        so no count is at its limit, and a round is unbroken
--   front_begins         the first round from there leaves a front with everything due
--
-- Assumes nothing.
use Prim.Native.Nat.{ℕ, zero, suc, ◌≤◌, ◌<◌}
use mathlib.Core.Path.{◌≡◌, refl, sym, ◌∙◌, subst}
use mathlib.Core.Bool.{true}
use mathlib.Core.List.{List}
use native.Mathlib.Omega.{arith}
use lib.ListN.{length, get_or}
use Rattle.counting.proofs.SizeLaws.{size-others}
use Rattle.counting.specs.Ranges.{up_to}
use Rattle.machine.specs.Rows.{with_location}
use Rattle.machine.specs.Tables.{Table, row, table_refusal, fresh}
use Rattle.machine.specs.Words.{COME, word_of}
use Rattle.machine.specs.Steps.{refusal_of, after_word, after_words}
use Rattle.machine.specs.Rounds.{round_word, round, Unbroken, all_coming}
use Rattle.machine.specs.System.{assigned, Step}
use Rattle.machine.specs.declared.Row.{Row}
use Rattle.machine.proofs.SoundRows.{sound_few, sound-accepted}
use Rattle.machine.proofs.Accepted.{after_words_snoc}
use Rattle.machine.proofs.Soundness.{words_keep_sound, words_keep_length}
use Rattle.machine.proofs.OneWord.{one_room}
use Rattle.machine.proofs.FreshRows.{fresh-sound, fresh_at_10, fresh_rests}
use Rattle.machine.proofs.StepRows.{entered_row}
use Rattle.machine.proofs.RoundLaws.{Move, one_move, by_moves, round-sound, round-length}
use Rattle.machine.proofs.BrokenRounds.{roomy_unbroken}
use Rattle.silence.proofs.Due.{phase}
use Rattle.silence.proofs.DueLaws.{due_unset}
use Rattle.silence.proofs.Sweeps.{Swept, swept_none, swept_all, swept_set}
use Rattle.silence.proofs.Front.{FrontRow, Front}

abbrev NonePassed : Row → Type 0
NonePassed r = (i : ℕ) → i < 16 → get_or r.passes i 0 ≡ 0

abbrev Rested : ℕ → Row → Type 0
Rested q r = (r.location ≡ 10) × (r.bb ≡ 0) × NonePassed r

abbrev pub Came : ℕ → Row → Type 0
Came q r = (r.location ≡ 20) × (r.bb ≡ 0) × NonePassed r

-- ---- all come

-- COME of p, which rests
come_next : (t : Table) (p : ℕ)
    → table_refusal t ≡ 0
    → p < length t
    → (row t p).location ≡ 10
    → after_word t (word_of COME p 0) ≡ assigned t p (with_location 20)
come_next t p z l e = (one_room t _ p z l (Step.comes e) (λ i f. absurd (omega arith))).2

module _ (t : Table) (h : fresh t ≡ true) where
  abbrev come : ℕ → List ℕ
  come p = up_to (λ q. word_of COME q 0) p

  sound_after : (ws : List ℕ) → table_refusal (after_words t ws) ≡ 0
  sound_after ws = words_keep_sound t ws (sound-accepted t (fresh-sound t h))

  come_to : (p : ℕ) → p ≤ length t → Swept Rested Came (length t) p (after_words t (come p))
  unfolding up_to after_words
  come_to zero l = swept_none Rested Came (length t) t
      (λ q i. let r = fresh_rests t h q in (fresh_at_10 t h q i, r.no_bb, r.none_passed))
  come_to (suc p) l =
      let u = after_words t (come p) in
      let in-u : p < length u = omega (arith, words_keep_length t (come p)) in
      let before = come_to p (omega arith) in
      let own = (before p (omega arith)).1 (omega arith) in
      let after = after_words_snoc t (come p) (word_of COME p 0) ∙ come_next u p (sound_after (come p)) in-u own.0 in
      subst (Swept Rested Came (length t) (suc p)) (sym after)
      (swept_set Rested Came (length t) u p (with_location 20 (row u p)) in-u before (refl, own.1, own.2))

  pub all_come : (q : ℕ) → q < length t → Came q (row (after_words t (all_coming (length t))) q)
  unfolding up_to
  all_come =
      swept_all Rested Came (length t) (after_words t (all_coming (length t))) (come_to (length t) (omega arith))

-- ---- the first round

pub came_unbroken : (t : Table)
    → table_refusal t ≡ 0
    → ((q : ℕ) → q < length t → Came q (row t q))
    → Unbroken t
came_unbroken t z came = roomy_unbroken t z (λ q l e i k. omega (arith, (came q l).2 i k))

-- of k + 1 processes
module _ (k : ℕ) where
  abbrev Entered : ℕ → Row → Type 0
  Entered = FrontRow (suc k) k (phase (suc k))

  entered-row : (t : Table) (p : ℕ)
      → length t ≡ suc k
      → length t ≤ 16
      → p < suc k
      → (row t p).bb ≡ 0
      → Entered p (entered_row t p)
  entered-row t p e few l z =
      let all = size-others (length t) p few (omega arith) in
      record {
        act_shown = λ i. absurd (omega arith);
        est_full = omega arith;
        low =
            λ i.
            record {
              from_21 = omega arith;
              to_24 = omega arith;
              level_is = omega arith;
              due_is = omega (arith, due_unset (entered_row t p) (suc k) z);
            };
        high = λ i. absurd (omega arith);
      }

  entered_move : (p : ℕ) (t u : Table)
      → p < suc k
      → length t ≡ suc k
      → table_refusal t ≡ 0
      → refusal_of t (round_word t p) ≡ 0
      → Move t p u
      → Swept Came Entered (suc k) p t
      → Swept Came Entered (suc k) (suc p) u
  entered_move p t u l e z ok m h =
      let in_t : p < length t = omega arith in
      let own = (h p l).1 (omega arith) in
      subst (Swept Came Entered (suc k) (suc p)) (one_move z in_t ok (Move.enters own.0) m)
      (swept_set Came Entered (suc k) t p (entered_row t p) in_t h
      (entered-row t p e (sound_few t z) l own.1))

  pub front_begins : (t : Table)
      → table_refusal t ≡ 0
      → length t ≡ suc k
      → ((q : ℕ) → q < suc k → Came q (row t q))
      → Front (suc k) k (phase (suc k)) (round t)
  front_begins t z e came =
      let end =
      by_moves t (λ p v. Swept Came Entered (suc k) p v) z
      (came_unbroken t z (λ q l. came q (subst (λ (n : ℕ). q < n) e l)))
      (λ p v u l same sound after ok m h. entered_move p v u (omega arith) (same ∙ e) sound ok m h)
      (swept_none Came Entered (suc k) t came) in
      record {
        sound = round-sound t z;
        size_is = round-length t ∙ e;
        level_low = omega arith;
        rows = λ q l. (end q l).0 (omega arith);
        turns = λ q i l. absurd (omega arith);
        last_turn = λ i. absurd (omega arith);
      }
