-- The step of a table: words and tables that are refused, and what is taken of a word that names a process.
--
-- Assumes nothing.
use Prim.Native.Nat.{ℕ, ◌≤◌, ◌<◌}
use mathlib.Core.Path.{◌≡◌, refl, sym, ap, subst, ◌∙◌}
use mathlib.Core.Bool.{Bool, true, false, cond, ◌&&◌, and-eq-true_iff, true≢false}
use native.Mathlib.Decide.{ℕ_discrete}
use native.Mathlib.Omega.{arith}
use lib.Dec.{eqb}
use lib.ListN.{length}
use borrow.Author.Tests.{eq-eqb, ne_eqb, eqb-true, lt-ltb, le-ltb}
use Rattle.std.specs.Prelude.{Result, Ok, Err}
use Rattle.machine.specs.Refusals.{bad_settings, number}
use Rattle.machine.specs.Tables.{Table, row, table_refusal}
use Rattle.machine.specs.Words.{STAY, COME, FLICKER, GO, LOOK, CANCEL, is_kind, kind_of, spare_clear}
use Rattle.machine.specs.Words.{process_of, argument_of, formed}
use Rattle.machine.specs.Steps.{moved, word_refusal, refusal_of, after_word, told_of, refusal_at}
use Rattle.machine.specs.Settings.{settings_fit, settings_of, before15, refusal_under, after_under, answer_under}
use Rattle.machine.specs.declared.Settings.{Settings}
use Rattle.machine.specs.declared.Memory.{Memory}
use Rattle.machine.specs.declared.Told.{Told}
use Rattle.machine.specs.declared.Refusal.{Refusal}
use Rattle.counting.proofs.TestLaws.{split}
use Rattle.machine.proofs.KindLaws.{by_kind}
use Rattle.machine.proofs.SoundRows.{sound-row, sound_few}
use Rattle.machine.proofs.Accepted.{accepted_word, accepted-moved}
use Rattle.machine.proofs.SettingLaws.{before15_other, forbidden, under_table, under_unfit, under_fit, accepted_under}
use Rattle.machine.proofs.SettingTheorems.{refused_under}
use Rattle.steps.specs.Moves.{kind_told, refusal_by, Ready, TakesUnder}
use Rattle.steps.specs.Stepping.{checked, StepsUnder}
use Rattle.tables.proofs.RefusalLaws.{number_some}
use Rattle.steps.proofs.ToldLaws.{word_told}
use Rattle.steps.proofs.SettingLaws.{memory_fits}

-- ---- the refusal and the answer

module _ (t : Table) (w : ℕ) where
  -- an unsound table refuses every word
  pub refusal_table : (table_refusal t ≡ 0 → ⊥) → refusal_of t w ≡ table_refusal t
  unfolding refusal_of
  refusal_table ne = rw (ne_eqb (table_refusal t) 0 ne) refl

  -- a sound table leaves it to the word
  refusal_word : table_refusal t ≡ 0 → refusal_of t w ≡ word_refusal t w
  unfolding refusal_of
  refusal_word z = rw (eq-eqb (table_refusal t) 0 z) refl

  refused-kind : formed w ≡ false → word_refusal t w ≡ 8
  unfolding word_refusal
  refused-kind f = rw f refl

  module _ (f : formed w ≡ true) where
    refused-process : length t ≤ process_of w → word_refusal t w ≡ 9
    unfolding word_refusal
    refused-process k = rw (f, le-ltb (process_of w) (length t) k) refl

    refused-at : process_of w < length t → word_refusal t w ≡ refusal_at t (kind_of w) (process_of w) (argument_of w)
    unfolding word_refusal
    refused-at k = rw (f, lt-ltb (process_of w) (length t) k) refl

  refusal-of : table_refusal t ≡ 0 → formed w ≡ true → process_of w < length t
      → refusal_of t w ≡ refusal_at t (kind_of w) (process_of w) (argument_of w)
  refusal-of z f k = refusal_word z ∙ refused-at f k

-- ---- the kinds

-- what one comparison says of a word
pub kind_is : (w k : ℕ) → (formed w && eqb (kind_of w) k) ≡ true → (formed w ≡ true) × (kind_of w ≡ k)
kind_is w k h = let both = (and-eq-true_iff (formed w) (eqb (kind_of w) k)).0 h in (both.0, eqb-true _ _ both.1)

-- a kind that is none of the others
pub last_kind : (k : ℕ)
    → is_kind k ≡ true
    → eqb k LOOK ≡ false
    → eqb k GO ≡ false
    → eqb k STAY ≡ false
    → eqb k FLICKER ≡ false
    → eqb k COME ≡ false
    → k ≡ CANCEL
last_kind =
    by_kind
    (λ k. eqb k LOOK ≡ false
    → eqb k GO ≡ false
    → eqb k STAY ≡ false
    → eqb k FLICKER ≡ false
    → eqb k COME ≡ false
    → k ≡ CANCEL)
    (λ _ _ h _ _. absurd (true≢false h))
    (λ _ _ _ _ h. absurd (true≢false h))
    (λ _ _ _ h _. absurd (true≢false h))
    (λ _ h _ _ _. absurd (true≢false h))
    (λ h _ _ _ _. absurd (true≢false h))
    (λ _ _ _ _ _. refl)

pub kind_last : (w : ℕ)
    → formed w ≡ true
    → (formed w && eqb (kind_of w) LOOK) ≡ false
    → (formed w && eqb (kind_of w) GO) ≡ false
    → (formed w && eqb (kind_of w) STAY) ≡ false
    → (formed w && eqb (kind_of w) FLICKER) ≡ false
    → (formed w && eqb (kind_of w) COME) ≡ false
    → (formed w ≡ true) × (kind_of w ≡ CANCEL)
kind_last w f l g s k c =
    let known = ((and-eq-true_iff (is_kind (kind_of w)) (spare_clear w)).0 f).0 in
    (f, last_kind (kind_of w) known (rw f at l) (rw f at g) (rw f at s) (rw f at k) (rw f at c))

-- ---- under settings

module _ (m : Settings) (t : Table) (w : ℕ) where
  answer_refused : (refusal_under m t w ≡ 0 → ⊥) → answer_under m t w ≡ Err (refusal_under m t w)
  unfolding answer_under
  answer_refused ne = rw (ne_eqb (refusal_under m t w) 0 ne) refl

  -- 8 and 9 come before 16 and 17
  under_early : (v : ℕ) → v ≡ refusal_of t w → (v ≡ 0 → ⊥) → (v ≡ 15 → ⊥) → table_refusal t ≡ 0 → settings_fit m ≡ true
      → v ≡ refusal_under m t w
  under_early v e n f z fit =
      let other = before15_other (forbidden m t w) (refusal_of t w) (λ y. n (e ∙ y)) (λ y. f (e ∙ y)) in
      e ∙ sym (under_fit m t w z fit ∙ other)

-- ---- the step

-- what a sound table gives of each process
pub ready : (x : Table) → table_refusal x ≡ 0 → (p : ℕ) → p < length x → Ready x p
ready x z p k =
    let own = sound-row x z p k in
    record { one = k; few = sound_few x z; low = own.level_low; listed = own.lis_low }

pub refused_steps : (m : Settings) (x : Table) (w : ℕ) (e : Refusal)
    → number e ≡ refusal_under m x w
    → StepsUnder m x w x (Err e)
refused_steps m x w e why =
    let ne : refusal_under m x w ≡ 0 → ⊥ = λ z. number_some e (why ∙ z) in
    record {
      answer_is = ap (λ (i : ℕ). Err i) why ∙ sym (answer_refused m x w ne);
      becomes = sym (refused_under m x w ne).0;
    }

-- a table that is not sound, or settings that do not fit
pub checked-steps : (m : Settings) (x : Table) (w : ℕ) (e : Refusal)
    → Err (number e) ≡ checked m x
    → StepsUnder m x w x (Err e)
checked-steps m x w e why = table (ℕ_discrete (table_refusal x) 0)
  where
    table : Dec (table_refusal x ≡ 0) → StepsUnder m x w x (Err e)
    table (no ne) =
        let is : Err (number e) ≡ Err (table_refusal x) = why ∙ rw (ne_eqb (table_refusal x) 0 ne) refl in
        let refuses = under_table m x w ne ∙ refusal_table x w ne in
        refused_steps m x w e (cc)
    table (yes z) = settings (settings_fit m) refl
      where
        settings : (b : Bool) → settings_fit m ≡ b → StepsUnder m x w x (Err e)
        settings true h =
            let no : Err (number e) ≡ Ok m = why ∙ rw (eq-eqb (table_refusal x) 0 z, h) refl in absurd (cc)
        settings false h =
            let is : Err (number e) ≡ Err bad_settings = why ∙ rw (eq-eqb (table_refusal x) 0 z, h) refl in
            let unfit = under_unfit m x w z h in
            refused_steps m x w e (cc)

-- .. of a sound table under settings that fit
module _ (memory : Memory) (x : Table) (w : ℕ) (z : table_refusal x ≡ 0) where
  abbrev m : Settings
  m = settings_of memory

  fit : settings_fit m ≡ true
  fit = memory_fits memory

  -- a word of no kind
  pub kind-steps : formed w ≡ false → StepsUnder m x w x (Err Refusal.BadKind)
  kind-steps f =
      let why = refusal_word x w z ∙ refused-kind x w f in
      refused_steps m x w Refusal.BadKind (under_early m x w 8 (sym why) (omega arith) (omega arith) z fit)

  module _ (f : formed w ≡ true) where
    -- a process that is not there
    pub process-steps : length x ≤ process_of w → StepsUnder m x w x (Err Refusal.NoProcess)
    process-steps k =
        let why = refusal_word x w z ∙ refused-process x w f k in
        refused_steps m x w Refusal.NoProcess (under_early m x w 9 (sym why) (omega arith) (omega arith) z fit)

    module _ (k : process_of w < length x) where
      abbrev refusal : ℕ
      refusal = refusal_by m x (kind_of w) (process_of w) (argument_of w)

      refusal_is : refusal_under m x w ≡ refusal
      refusal_is = under_fit m x w z fit ∙ ap (before15 (forbidden m x w)) (refusal-of x w z f k)

      abbrev tells : Told
      tells = kind_told (kind_of w) (process_of w) (argument_of w) (row x (process_of w))

      accepted_so : refusal ≡ 0 → refusal_of x w ≡ 0
      accepted_so e = (accepted_under m x w (refusal_is ∙ e)).0.not_refused

      told : refusal ≡ 0 → told_of x w ≡ tells
      told e = word_told x w z (accepted_word x w (accepted_so e))

      answer_taken : answer_under m x w ≡ cond (eqb refusal 0) (Ok tells) (Err refusal)
      unfolding answer_under
      answer_taken =
          ap (λ (i : ℕ). cond (eqb i 0) (Ok (told_of x w)) (Err i)) refusal_is
          ∙ split (λ b. (eqb refusal 0 ≡ b)
          → cond b (Ok (told_of x w)) (Err refusal)
          ≡ cond b (Ok tells) (Err refusal))
          (eqb refusal 0)
          (λ _ h. ap (λ (g : Told). Ok g) (told (eqb-true refusal 0 h)))
          (λ _ h. refl)
          refl

      table_taken : after_under m x w
          ≡ cond (eqb refusal 0) (moved x (kind_of w) (process_of w) (argument_of w)) x
      unfolding after_under
      table_taken =
          ap (λ (i : ℕ). cond (eqb i 0) (after_word x w) x) refusal_is
          ∙ split (λ b. (eqb refusal 0 ≡ b)
          → cond b (after_word x w) x
          ≡ cond b (moved x (kind_of w) (process_of w) (argument_of w)) x)
          (eqb refusal 0)
          (λ _ h. accepted-moved x w (accepted_so (eqb-true refusal 0 h)))
          (λ _ h. refl)
          refl

      -- a word that names a process is its kind, taken
      pub taken_under : (kind p a : ℕ) {y : Table} {s : Result Told Refusal}
          → kind_of w ≡ kind
          → p ≡ process_of w
          → a ≡ argument_of w
          → TakesUnder m x kind p a y s
          → StepsUnder m x w y s
      taken_under kind p a {y} {s} i j l h =
          let same = subst (λ (v : ℕ). TakesUnder m x v (process_of w) (argument_of w) y s) (sym i)
          (subst (λ (v : ℕ). TakesUnder m x kind v (argument_of w) y s) j
          (subst (λ (v : ℕ). TakesUnder m x kind p v y s) l h)) in
          record { answer_is = same.answer_is ∙ sym answer_taken; becomes = same.becomes ∙ sym table_taken }

  -- by the words of the code: p and a are what it has read of the word
  pub taken_so : (k p a : ℕ) {y : Table} {s : Result Told Refusal}
      → (formed w ≡ true) × (kind_of w ≡ k)
      → p ≡ process_of w
      → a ≡ argument_of w
      → p < length x
      → TakesUnder m x k p a y s
      → StepsUnder m x w y s
  taken_so k p a is i j l h = taken_under is.0 (subst (λ (v : ℕ). v < length x) i l) k p a is.1 i j h
