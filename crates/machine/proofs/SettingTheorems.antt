-- Settings, as a reader opens them: what a step answers under settings, for all six of them together, and for numbers
-- that are none; lists and pairs of words are in SettingListTheorems.antt, runs in runs/proofs/OneByOne.antt.
-- `refusal_of`, `after_word` and `answer_of` are the step without settings, which is the one under 0 and 0
-- (`weakest_step`); `refusal_under s`, `after_under s` and `answer_under s` the step under the settings s (Settings.antt).
--
--   weakest_step                          0 and 0 is the step without settings
--   accepted_same, refused_same           settings refuse some words that 0 and 0 accept, and change nothing else
--   refused_under                         a word that they refuse changes nothing
--   under_keeps_sound                     a sound table stays sound
--   forbidden_flicker, flicker_forbidden_lem  which words meet 16
--   forbidden_go, go_forbidden_lem            which words meet 17
--   unfit_settings, settings_unfit        which words meet 18
--   word_is_allowed_step, one_allowed_word, left_out_word    words and the steps of the system that settings leave
--
-- Assumes nothing.
use Prim.Native.Nat.{ℕ, ◌≤◌, ◌<◌}
use mathlib.Core.Path.{◌≡◌, refl, sym, ap, ◌∙◌, subst}
use mathlib.Core.Bool.{true, false, not, false≢true, and-eq-true_iff}
use mathlib.Core.Logic.{◌≢◌, ◌⊎◌, inl, inr, ⊎_elim, by_cases}
use native.Mathlib.Decide.{ℕ_discrete, dec_lt}
use native.Mathlib.Omega.{arith}
use lib.Dec.{eqb, leb}
use lib.ListN.{length}
use borrow.Author.Tests.{eqb-true, eqb-false, leb-true, eq-eqb, ne_eqb, le-leb, not-true}
use Rattle.counting.proofs.TestLaws.{fails}
use Rattle.counting.proofs.RangeLaws.{some_one}
use Rattle.machine.specs.Tables.{Table, row, sound, table_refusal}
use Rattle.machine.specs.Words.{FLICKER, GO, kind_of, process_of}
use Rattle.machine.specs.Shared.{no_cell}
use Rattle.machine.specs.Steps.{gone, moved, refusal_of, after_word, answer_of, step_answer_of}
use Rattle.machine.specs.Settings.{weakest, settings_fit, flicker_forbidden, other_writer, goes_to24}
use Rattle.machine.specs.Settings.{forbidden_by, refusal_under, after_under}
use Rattle.machine.specs.Settings.{answer_under, step_answer_under, SameStep}
use Rattle.machine.specs.System.{Step, step_word, StepAllowed}
use Rattle.machine.specs.declared.Settings.{Settings}
use Rattle.machine.proofs.SoundRows.{sound-accepted, accepted-sound}
use Rattle.machine.proofs.Accepted as Accepted
use Rattle.machine.proofs.Soundness.{word_keeps_sound}
use Rattle.machine.proofs.CellLaws.{refused_cell}
use Rattle.machine.proofs.WordsAreSteps.{word_is_step, one_word}
use Rattle.machine.proofs.AllowedSteps.{allowed_free, free_allowed, beside_forbidden}
use Rattle.machine.proofs.SettingLaws as Laws
use Rattle.machine.proofs.SettingLaws.{weakest_free, forbidden_cases}
use Rattle.machine.proofs.SettingLaws.{Under, under_cases, accepted_under, under_accepted}
use Rattle.machine.proofs.SettingLaws.{under_forbidden, under_unfit, full_under, met_16, met_17, met_18}

-- ---- the step

-- where the refusal is the same, so is everything else
same_step : (s : Settings) (t : Table) (w : ℕ) → refusal_under s t w ≡ refusal_of t w → SameStep s t w
unfolding after_under answer_under answer_of
same_step s t w e =
    record {
      refusal_same = e;
      table_same = go (ℕ_discrete (refusal_of t w) 0);
      answer_same = rw e refl;
      to_c_same = cell (ℕ_discrete (refusal_of t w) 0);
    }
  where
    go : Dec (refusal_of t w ≡ 0) → after_under s t w ≡ after_word t w
    go (yes z) = rw (eq-eqb (refusal_under s t w) 0 (e ∙ z)) refl
    go (no ne) = rw (ne_eqb (refusal_under s t w) 0 (λ z. ne (sym e ∙ z))) (sym (Accepted.refused_same t w ne))

    cell : Dec (refusal_of t w ≡ 0) → step_answer_under s t w ≡ step_answer_of t w
    cell (yes z) = rw (eq-eqb (refusal_under s t w) 0 (e ∙ z), e) refl
    cell (no ne) = rw (ne_eqb (refusal_under s t w) 0 (λ z. ne (sym e ∙ z)), e, refused_cell t w ne) refl

-- Under 0 and 0 a step is the step without settings, of every table and with every word.
-- Excludes: settings 0 and 0 that forbid something, or that are refused with 18.
pub weakest_step : (t : Table) (w : ℕ) → SameStep weakest t w
weakest_step t w = same_step weakest t w (go (under_cases weakest t w))
  where
    go : Under weakest t w → refusal_under weakest t w ≡ refusal_of t w
    go (Under.same e) = e
    go (Under.forbids e ne a) = absurd (ne (weakest_free t (kind_of w) (process_of w)))
    go (Under.unfit e z h) = absurd (false≢true (sym h))

-- What is accepted under settings is accepted under 0 and 0, with the same table, event and shared cell.
-- Excludes: a setting that moves a table otherwise, that tells another cell, or that accepts what 0 and 0 refuse.
-- Not empty: `weakest_step`, and under each of the six the words of SettingExamples.antt.
pub accepted_same : (s : Settings) (t : Table) (w : ℕ) → refusal_under s t w ≡ 0 → (refusal_of t w ≡ 0) × SameStep s t w
accepted_same s t w z =
    let n = (accepted_under s t w z).0.not_refused in
    (n, same_step s t w (z ∙ sym n))

-- A refusal under settings other than 16, 17 and 18 is that under 0 and 0; so the results differ in nothing else.
-- Excludes: a setting that answers 10 where 11 is due, or that refuses with a number that has a meaning already.
pub refused_same : (s : Settings) (t : Table) (w : ℕ)
    → refusal_under s t w ≢ 16
    → refusal_under s t w ≢ 17
    → refusal_under s t w ≢ 18
    → SameStep s t w
refused_same s t w a b c = same_step s t w (go (under_cases s t w))
  where
    go : Under s t w → refusal_under s t w ≡ refusal_of t w
    go (Under.same e) = e
    go (Under.forbids e ne h) =
        absurd
        (⊎_elim (λ i. a (e ∙ i.0)) (⊎_elim (λ i. b (e ∙ i.0)) (λ i. ne i))
        (forbidden_cases s t (kind_of w) (process_of w)))
    go (Under.unfit e z h) = absurd (c e)

-- A word that is refused under settings changes nothing and uses no cell, whatever the table.
-- Excludes: a forbidden FLICKER that writes, or that tells the cell it did not write.
pub refused_under : (s : Settings) (t : Table) (w : ℕ)
    → refusal_under s t w ≢ 0
    → (after_under s t w ≡ t) × ((step_answer_under s t w).cell ≡ no_cell)
unfolding after_under
refused_under s t w ne = (rw (ne_eqb _ _ ne) refl, rw (ne_eqb _ _ ne) refl)

-- A word under settings keeps a sound table sound.
-- Excludes: a setting that leads to a table which the next step refuses.
pub under_keeps_sound : (s : Settings) (t : Table) (w : ℕ) → table_refusal t ≡ 0 → table_refusal (after_under s t w) ≡ 0
under_keeps_sound s t w z =
    by_cases (ℕ_discrete (refusal_under s t w) 0)
    (λ a. ap table_refusal (accepted_same s t w a).1.table_same ∙ word_keeps_sound t w z)
    (λ ne. ap table_refusal (refused_under s t w ne).0 ∙ z)

-- ---- settings that fit

-- act is 0 or 1, and turn 0, 1 or 2
abbrev pub Fits : Settings → Type 0
Fits s = (s.act ≤ 1) × (s.turn ≤ 2)

fit_says : (s : Settings) → settings_fit s ≡ true → Fits s
fit_says s h =
    let both = (and-eq-true_iff (leb s.act 1) (leb s.turn 2)).0 h in
    (leb-true _ _ both.0, leb-true _ _ both.1)

says_fit : (s : Settings) → Fits s → settings_fit s ≡ true
says_fit s (a, u) = (and-eq-true_iff _ _).1 (le-leb _ _ a, le-leb _ _ u)

-- ---- which words are forbidden

-- A word meets 16 just where the settings are two of those listed, the word is accepted under 0 and 0, it is FLICKER,
-- and the cell that it would show while it is written is plain: turn at 24, act at 20 and 40.
-- Excludes: act plain that forbids the FLICKER at 24, turn plain that forbids one at 20 or 40, one writer that forbids
-- any; 16 before 11; a setting that forbids nothing.
pub forbidden_flicker : (s : Settings) (t : Table) (w : ℕ)
    → refusal_under s t w ≡ 16
    → Fits s
    × (refusal_of t w ≡ 0)
    × (kind_of w ≡ FLICKER)
    × ((((row t (process_of w)).location ≡ 24) × (s.turn ≡ 2))
    ⊎ (((row t (process_of w)).location ≢ 24) × (s.act ≡ 1)))
forbidden_flicker s t w e =
    let m = met_16 s t w e in
    let there = go (ℕ_discrete (row t (process_of w)).location 24) m.1.1 in
    (fit_says s m.0.settings_fit_lem, m.0.not_refused, m.1.0, there)
  where
    go : Dec ((row t (process_of w)).location ≡ 24)
        → flicker_forbidden s (row t (process_of w)) ≡ true
        → (((row t (process_of w)).location ≡ 24) × (s.turn ≡ 2))
        ⊎ (((row t (process_of w)).location ≢ 24) × (s.act ≡ 1))
    go (yes l) h = inl (l, eqb-true _ _ (rw (eq-eqb _ _ l) at h))
    go (no l) h = inr (l, eqb-true _ _ (rw (ne_eqb _ _ l) at h))

pub flicker_forbidden_lem : (s : Settings) (t : Table) (w : ℕ)
    → Fits s
    → refusal_of t w ≡ 0
    → kind_of w ≡ FLICKER
    → (((row t (process_of w)).location ≡ 24) × (s.turn ≡ 2))
    ⊎ (((row t (process_of w)).location ≢ 24) × (s.act ≡ 1))
    → refusal_under s t w ≡ 16
flicker_forbidden_lem s t w fit n k h =
    let f = Laws.flicker_forbidden_lem s t (kind_of w) (process_of w) k (go h) in
    under_forbidden s t w (record { settings_fit_lem = says_fit s fit; not_refused = n }) (omega (arith, f)) ∙ f
  where
    go : (((row t (process_of w)).location ≡ 24) × (s.turn ≡ 2))
        ⊎ (((row t (process_of w)).location ≢ 24) × (s.act ≡ 1))
        → flicker_forbidden s (row t (process_of w)) ≡ true
    go (inl (l, e)) = rw (eq-eqb _ _ l) (eq-eqb _ _ e)
    go (inr (l, e)) = rw (ne_eqb _ _ l) (eq-eqb _ _ e)

-- an accepted GO is what `gone` makes
go_gone : (t : Table) (w : ℕ) → refusal_of t w ≡ 0 → kind_of w ≡ GO → after_word t w ≡ gone t (process_of w)
unfolding moved
go_gone t w n k = Accepted.accepted-moved t w n ∙ rw k refl

-- another process than p is at 24 with the level of p
abbrev pub Writer : Table → ℕ → ℕ → Type 0
Writer t p q = (q ≢ p) × ((row t q).location ≡ 24) × ((row t q).level ≡ (row t p).level)

-- A word meets 17 just where turn is to have one writer, the word is accepted under 0 and 0, it is GO that goes from 23
-- to 24, and another process at 24 has the level of its process.
-- Excludes: 17 where est is below level, or where bb is 1; 17 for the process itself; for a process at 24 of another
-- level, or at 23 of the same; 17 before 11; one writer that lets a second one in.
pub forbidden_go : (s : Settings) (t : Table) (w : ℕ)
    → refusal_under s t w ≡ 17
    → Fits s
    × (refusal_of t w ≡ 0)
    × (kind_of w ≡ GO)
    × (s.turn ≡ 1)
    × ((row t (process_of w)).location ≡ 23)
    × ((row (after_word t w) (process_of w)).location ≡ 24)
    × (q : ℕ) × Writer t (process_of w) q
unfolding other_writer goes_to24
forbidden_go s t w e =
    let m = met_17 s t w e in
    let p = process_of w in
    let n = m.0.not_refused in
    let k = m.1.0 in
    let one = (and-eq-true_iff (eqb s.turn 1) _).0 m.1.1 in
    let goes = (and-eq-true_iff (goes_to24 t p) (other_writer t p)).0 one.1 in
    let there = (and-eq-true_iff (eqb (row t p).location 23) _).0 goes.0 in
    let other = some_one _ (length t) goes.1 in
    let apart = (and-eq-true_iff (not (eqb other.0 p)) _).0 other.2 in
    let writes = (and-eq-true_iff (eqb (row t other.0).location 24) _).0 apart.1 in (
      fit_says s m.0.settings_fit_lem,
      n,
      k,
      eqb-true _ _ one.0,
      eqb-true _ _ there.0,
      ap (λ (u : Table). (row u p).location) (go_gone t w n k) ∙ eqb-true _ _ there.1,
      other.0,
      (eqb-false _ _ (not-true _ apart.0), eqb-true _ _ writes.0, eqb-true _ _ writes.1),
    )

pub go_forbidden_lem : (s : Settings) (t : Table) (w q : ℕ)
    → Fits s
    → refusal_of t w ≡ 0
    → kind_of w ≡ GO
    → s.turn ≡ 1
    → (row t (process_of w)).location ≡ 23
    → (row (after_word t w) (process_of w)).location ≡ 24
    → Writer t (process_of w) q
    → refusal_under s t w ≡ 17
unfolding goes_to24
go_forbidden_lem s t w q fit n k one l m (ne, there, level) =
    let p = process_of w in
    let goes = ap (λ (u : Table). (row u p).location) (sym (go_gone t w n k)) ∙ m in
    let to_24 = (and-eq-true_iff _ _).1 (eq-eqb _ _ l, eq-eqb _ _ goes) in
    let sound = Accepted.accepted_table t w n in
    let inside = Accepted.accepted_process t w n in
    let f = Laws.go_forbidden_lem s t (kind_of w) p k (beside_forbidden s t p sound inside q one to_24 ne there level) in
    under_forbidden s t w (record { settings_fit_lem = says_fit s fit; not_refused = n }) (omega (arith, f)) ∙ f

-- A word meets 18 just where the table is sound and one of the settings is none of those listed, whatever the word.
-- Excludes: 18 before 7, or after 8; act 2, turn 3, or a value of which only some bits are looked at.
pub unfit_settings : (s : Settings) (t : Table) (w : ℕ)
    → refusal_under s t w ≡ 18
    → (sound t ≡ true) × ((1 < s.act) ⊎ (2 < s.turn))
unfit_settings s t w e =
    let m = met_18 s t w e in (accepted-sound t m.0, go (dec_lt 1 s.act) (dec_lt 2 s.turn) m.1)
  where
    go : Dec (1 < s.act) → Dec (2 < s.turn) → settings_fit s ≡ false → (1 < s.act) ⊎ (2 < s.turn)
    go (yes a) u h = inl a
    go (no a) (yes u) h = inr u
    go (no a) (no u) h =
        absurd (false≢true (sym h ∙ says_fit s (omega (arith, a), omega (arith, u))))

pub settings_unfit : (s : Settings) (t : Table) (w : ℕ)
    → sound t ≡ true
    → (1 < s.act) ⊎ (2 < s.turn)
    → refusal_under s t w ≡ 18
settings_unfit s t w h o = under_unfit s t w (sound-accepted t h) (fails (settings_fit s) (λ f. go o (fit_says s f)))
  where
    go : (1 < s.act) ⊎ (2 < s.turn) → Fits s → ⊥
    go (inl a) f = omega (arith, a, f.0)
    go (inr u) f = omega (arith, u, f.1)

-- ---- demand 2 under settings

-- A word that is accepted under settings is the word of a step of the system that these leave, by the process that it
-- names, from a sound table to the table after the word.
-- Excludes: a setting that accepts a FLICKER of a plain cell, or a second writer where one is to be alone.
pub word_is_allowed_step : (s : Settings) (t : Table) (w : ℕ)
    → refusal_under s t w ≡ 0
    → (sound t ≡ true)
    × (process_of w < length t)
    × (x : Step t (process_of w) (after_under s t w))
    × (step_word (process_of w) x ≡ w)
    × StepAllowed s (process_of w) x
word_is_allowed_step s t w z =
    let n = accepted_same s t w z in
    let p = process_of w in
    let (h, l, x, e) = word_is_step t w n.0 in
    let free = subst (λ (v : ℕ). forbidden_by s t (kind_of v) (process_of v) ≡ 0) (sym e) (accepted_under s t w z).1 in
    let allowed = free_allowed s t p (sound-accepted t h) l x free in
    subst
    (λ (u : Table). (sound t ≡ true) × (p < length t) × (y : Step t p u) × (step_word p y ≡ w) × StepAllowed s p y)
    (sym n.1.table_same)
    (h, l, x, e, allowed)

-- Every step of a process of a sound table that settings leave is what its word does under them, and no other word of
-- that process; or its word is the one that meets 15.
-- Excludes: a setting that refuses more than it forbids, such as every GO at 23, or every FLICKER.
pub one_allowed_word : (s : Settings) (t u : Table) (p : ℕ)
    → sound t ≡ true
    → p < length t
    → Fits s
    → (x : Step t p u)
    → StepAllowed s p x
    → ((process_of (step_word p x) ≡ p)
    × (refusal_under s t (step_word p x) ≡ 0)
    × (after_under s t (step_word p x) ≡ u)
    × ((v : ℕ) → process_of v ≡ p → refusal_under s t v ≡ 0 → after_under s t v ≡ u → v ≡ step_word p x))
    ⊎ ((process_of (step_word p x) ≡ p) × (refusal_under s t (step_word p x) ≡ 15))
one_allowed_word s t u p h l fit x allowed =
    let w = step_word p x in
    let free = allowed_free s t p (sound-accepted t h) l x allowed in
    ⊎_elim
    (λ o.
    let z = under_accepted s t w (record { settings_fit_lem = says_fit s fit; not_refused = o.1 }) free in
    inl (
      o.0,
      z,
      (accepted_same s t w z).1.table_same ∙ o.2,
      λ v i y e. let n = accepted_same s t v y in o.3 v i n.0 (sym n.1.table_same ∙ e),
    ))
    (λ o. inr (o.0, full_under s t w (says_fit s fit) o.1))
    (one_word t u p h l x)

-- A step that they do not leave has a word that they refuse.
-- Excludes: a setting that leaves more than it says.
pub left_out_word : (s : Settings) (t u : Table) (p : ℕ)
    → sound t ≡ true
    → p < length t
    → (x : Step t p u)
    → (StepAllowed s p x → ⊥)
    → refusal_under s t (step_word p x) ≢ 0
left_out_word s t u p h l x out z =
    out (free_allowed s t p (sound-accepted t h) l x (accepted_under s t (step_word p x) z).1)
