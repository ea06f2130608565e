-- An accepted word is a step of the system, and a refused word changes nothing.
--
--   Says t w                                what an accepted word says of its kind, process and argument
--   accepted_table, accepted_word, word_says    an accepted word was given to a sound table, and says that
--   accepted_step, refused_same             the two halves of demand 2 for one word
--   word_cases                              it is one or the other
--   after_words_snoc                         a list with one word more
--
-- Assumes nothing.
use Prim.Native.Nat.{ℕ, suc, ◌<◌}
use mathlib.Core.Path.{◌≡◌, refl}
use mathlib.Core.Bool.{Bool, true, false, cond, not, and-eq-true_iff}
use mathlib.Core.Logic.{◌⊎◌, inl, inr, ⊎_elim, by_cases}
use mathlib.Core.List.{List, [], ◌∷◌, ◌++◌}
use native.Mathlib.Decide.{ℕ_discrete}
use native.Mathlib.Omega.{arith}
use lib.Dec.{eqb}
use lib.ListN.{length, set}
use borrow.Author.Tests.{eqb-true, eqb-false, ltb-true, eq-eqb, ne_eqb, lt-ltb}
use Rattle.counting.specs.Sets.{has}
use Rattle.machine.specs.Tables.{Table, row, one_of, table_refusal, competitors}
use Rattle.machine.specs.Words.{FLICKER, GO, is_kind, kind_of, process_of, argument_of, spare_clear, formed}
use Rattle.machine.specs.Steps.{raised, entered, looked, flickered, gone, moved, allowed, argument_fits}
use Rattle.machine.specs.Steps.{overflows, word_refusal, refusal_of, after_word, after_words}
use Rattle.machine.specs.System.{Step}
use Rattle.machine.specs.System.Step.{rests, comes, flickers_20, enters, starts_scan, wins, discards, keeps}
use Rattle.machine.specs.System.Step.{ends_scan, lowers, to_push, waits, skips, flickers_24, pushes, exits}
use Rattle.machine.specs.System.Step.{flickers_40, leaves, cancels}
use Rattle.counting.proofs.TestLaws.{or_cases, cond_zero}
use Rattle.machine.proofs.KindLaws.{by_kind}
use Rattle.machine.proofs.OneOfLaws.{by_one}
use Rattle.machine.proofs.Forms.{started_cases, looked_cases, reconsidered_cases, gone_20, gone_21, gone_22}
use Rattle.machine.proofs.Forms.{gone_23, gone_40, flickered_act, flickered_turn, gone_push, gone_exit}

-- ---- GO is a step at each location

module _ (t : Table) (p : ℕ) (l : p < length t) where
  go_20 : (row t p).location ≡ 20 → Step t p (gone t p)
  unfolding entered raised competitors
  go_20 e = rw (gone_20 t p e) (enters e)

  go_21 : (row t p).location ≡ 21 → Step t p (gone t p)
  go_21 e = rw (gone_21 t p e) (started_cases (λ r. Step t p (set t p r)) (row t p) (starts_scan e) (wins e))

  go_22 : (row t p).location ≡ 22 → (row t p).lis ≡ 0 → Step t p (gone t p)
  go_22 e z = rw (gone_22 t p e) (ends_scan e z)

  go_23 : (row t p).location ≡ 23 → Step t p (gone t p)
  go_23 e =
      rw (gone_23 t p e)
      (reconsidered_cases (λ r. Step t p (set t p r)) p (row t (row t p).level).turn (row t p)
      (lowers e) (to_push e) (waits e) (skips e))

  go_24 : (row t p).location ≡ 24 → Step t p (gone t p)
  unfolding competitors
  go_24 e = rw (gone_push t p l e) (pushes e)

  go_30 : (row t p).location ≡ 30 → Step t p (gone t p)
  go_30 e = rw (gone_exit t p l e) (exits e)

  go_40 : (row t p).location ≡ 40 → Step t p (gone t p)
  go_40 e = rw (gone_40 t p e) (leaves e)

  -- ---- each kind, where it is allowed with its argument

  go_step : allowed GO (row t p) ≡ true → Step t p (gone t p)
  unfolding allowed
  go_step h =
      let r = row t p in
      ⊎_elim
      (by_one r.location (20 ∷ 21 ∷ 23 ∷ 24 ∷ 30 ∷ 40 ∷ []) (go_20, (go_21, (go_23, (go_24, (go_30, (go_40, tt)))))))
      (λ k.
      go_22 (eqb-true _ _ ((and-eq-true_iff (eqb r.location 22) (eqb r.lis 0)).0 k).0)
      (eqb-true _ _ ((and-eq-true_iff (eqb r.location 22) (eqb r.lis 0)).0 k).1))
      (or_cases (one_of r.location (20 ∷ 21 ∷ 23 ∷ 24 ∷ 30 ∷ 40 ∷ [])) _ h)

  flicker_step : (a : ℕ)
      → allowed FLICKER (row t p) ≡ true
      → argument_fits (length t) FLICKER (row t p) a ≡ true
      → Step t p (flickered t p a)
  unfolding allowed argument_fits
  flicker_step a h g =
      by_one (row t p).location (20 ∷ 40 ∷ 24 ∷ []) (
        (λ e. rw (flickered_act t p a (omega arith)) (flickers_20 a e (ltb-true a 2 (rw e at g)))),
        (
          (λ e. rw (flickered_act t p a (omega arith)) (flickers_40 a e (ltb-true a 2 (rw e at g)))),
          ((λ e. rw (flickered_turn t p a e) (flickers_24 a e (ltb-true a (length t) (rw e at g)))), tt),
        ),
      )
      h

  look_step : (q : ℕ)
      → (row t p).location ≡ 22
      → has (row t p).lis q ≡ true
      → Step t p (set t p (looked q (row t q).act (row t p)))
  look_step q e h = looked_cases (λ r. Step t p (set t p r)) q (row t q).act (row t p) (discards q e h) (keeps q e h)

  pub moved_step : (k a : ℕ)
      → is_kind k ≡ true
      → allowed k (row t p) ≡ true
      → argument_fits (length t) k (row t p) a ≡ true
      → Step t p (moved t k p a)
  unfolding moved allowed argument_fits
  moved_step k a =
      by_kind
      (λ k. allowed k (row t p) ≡ true → argument_fits (length t) k (row t p) a ≡ true → Step t p (moved t k p a))
      (λ h g. rests (eqb-true _ _ h))
      (λ h g. comes (eqb-true _ _ h))
      (flicker_step a)
      (λ h g. go_step h)
      (λ h g.
      look_step a (eqb-true _ _ ((and-eq-true_iff (eqb (row t p).location 22) (not (eqb (row t p).lis 0))).0 h).0) g)
      (λ h g. cancels (eqb-true _ _ h))
      k

-- ---- what an accepted word says

pub record Says (t : Table) (w : ℕ) : Type 0 where
  pub formed_so : formed w ≡ true
  pub kind_known : is_kind (kind_of w) ≡ true
  pub process_in : process_of w < length t
  pub allowed_there : allowed (kind_of w) (row t (process_of w)) ≡ true
  pub argument_fits_lem : argument_fits (length t) (kind_of w) (row t (process_of w)) (argument_of w) ≡ true
  pub passes_fit : overflows t (kind_of w) (process_of w) ≡ false

-- a test that would have refused
cond_accepted : (b : Bool) (why : ℕ) → cond b (suc why) 0 ≡ 0 → b ≡ false
cond_accepted true why e = absurd (omega arith)
cond_accepted false why e = refl

pub word_says : (t : Table) (w : ℕ) → word_refusal t w ≡ 0 → Says t w
unfolding word_refusal
word_says t w z =
    let a = cond_zero (formed w) 7 _ z in
    let b = cond_zero _ 8 _ a.1 in
    let c = cond_zero _ 9 _ b.1 in
    let d = cond_zero _ 10 _ c.1 in
    record {
      formed_so = a.0;
      kind_known = ((and-eq-true_iff (is_kind (kind_of w)) (spare_clear w)).0 a.0).0;
      process_in = ltb-true _ _ b.0;
      allowed_there = c.0;
      argument_fits_lem = d.0;
      passes_fit = cond_accepted (overflows t (kind_of w) (process_of w)) 14 d.1;
    }

-- a word that says so is not refused
pub says_word : (t : Table) (w : ℕ) → Says t w → word_refusal t w ≡ 0
unfolding word_refusal
says_word t w s = rw (s.formed_so, lt-ltb _ _ s.process_in, s.allowed_there, s.argument_fits_lem, s.passes_fit)

-- ---- one word

module _ (t : Table) (w : ℕ) where
  both : refusal_of t w ≡ 0 → (table_refusal t ≡ 0) × (word_refusal t w ≡ 0)
  unfolding refusal_of
  both z = go (eqb (table_refusal t) 0) refl z
    where
      go : (b : Bool)
          → eqb (table_refusal t) 0 ≡ b
          → cond b (word_refusal t w) (table_refusal t) ≡ 0
          → (table_refusal t ≡ 0) × (word_refusal t w ≡ 0)
      go true i z = (eqb-true _ _ i, z)
      go false i z = absurd (eqb-false _ _ i z)

  pub accepted_table : refusal_of t w ≡ 0 → table_refusal t ≡ 0
  accepted_table z = (both z).0

  pub accepted_word : refusal_of t w ≡ 0 → word_refusal t w ≡ 0
  accepted_word z = (both z).1

  pub accepted_says : refusal_of t w ≡ 0 → Says t w
  accepted_says z = word_says t w (accepted_word z)

  pub accepted_process : refusal_of t w ≡ 0 → process_of w < length t
  accepted_process z = (accepted_says z).process_in

  -- what accepts a word
  pub says_accepted : table_refusal t ≡ 0 → Says t w → refusal_of t w ≡ 0
  unfolding refusal_of
  says_accepted z s = rw (eq-eqb _ _ z) (says_word t w s)

  pub accepted-moved : refusal_of t w ≡ 0 → after_word t w ≡ moved t (kind_of w) (process_of w) (argument_of w)
  unfolding after_word
  accepted-moved z = rw (eq-eqb _ _ z)

  -- an accepted word is a step
  pub accepted_step : refusal_of t w ≡ 0 → Step t (process_of w) (after_word t w)
  accepted_step z =
      let s = accepted_says z in
      rw (accepted-moved z)
      (moved_step t (process_of w) s.process_in (kind_of w) (argument_of w)
      s.kind_known s.allowed_there s.argument_fits_lem)

  -- a refused word changes nothing
  pub refused_same : (refusal_of t w ≡ 0 → ⊥) → after_word t w ≡ t
  unfolding after_word
  refused_same ne = rw (ne_eqb _ _ ne)

  -- it is one or the other
  pub word_cases : ((refusal_of t w ≡ 0)
      × (table_refusal t ≡ 0)
      × (process_of w < length t)
      × Step t (process_of w) (after_word t w))
      ⊎ (after_word t w ≡ t)
  word_cases =
      by_cases (ℕ_discrete (refusal_of t w) 0)
      (λ z. inl (z, accepted_table z, accepted_process z, accepted_step z))
      (λ ne. inr (refused_same ne))

-- ---- lists of words

-- one word more, at the end
pub after_words_snoc : (t : Table) (ws : List ℕ) (w : ℕ) → after_words t (ws ++ (w ∷ [])) ≡ after_word (after_words t ws) w
unfolding after_words
after_words_snoc t [] w = refl
after_words_snoc t (v ∷ ws) w = after_words_snoc (after_word t v) ws w
