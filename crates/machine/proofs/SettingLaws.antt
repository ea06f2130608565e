-- Laws of the step under settings: which check answers, and which words the settings forbid.
--
--   refusal_low                            no refusal of the step without settings is above 15
--   goes_by                                where GO goes from 23 to 24, by the row
--   flicker_forbidden_lem, flicker_free, go_forbidden_lem, go_free, others_free, weakest_free    what forbidden_by answers
--   Flickers, Goes, forbidden_cases        what 16, and what 17, says
--   before15_free, before15_first, before15_other    16 and 17 between 11 and 15
--   under_table, under_unfit, under_fit    6 and 7, then 18, then the word
--   accepted_under, under_accepted         what is accepted under settings
--   full_free, full_under                  a word that meets 15 is not forbidden, and meets it under settings
--   met_16, met_17, met_18                 what meets 16, 17 and 18
--   Under, under_cases                     the refusal without settings, one of these two, or 18
--
-- Assumes nothing.
use Prim.Native.Nat.{ℕ, ◌≤◌, ◌<◌}
use mathlib.Core.Path.{◌≡◌, refl, sym, ap, ◌∙◌}
use mathlib.Core.Bool.{Bool, true, false, cond, ◌&&◌, not, false≢true, and-eq-true_iff}
use mathlib.Core.Logic.{◌≢◌, ◌⊎◌, inl, inr, ⊎_elim, by_cases}
use mathlib.Core.List.{[], ◌∷◌}
use native.Mathlib.Decide.{ℕ_discrete}
use native.Mathlib.Omega.{arith}
use lib.Dec.{eqb, ltb}
use lib.ListN.{length}
use borrow.Author.Tests.{eqb-true, eq-eqb, ne_eqb, lt-ltb, le-ltb}
use Rattle.counting.specs.Sets.{size}
use Rattle.counting.proofs.TestLaws.{split, cond_le}
use Rattle.machine.specs.Refusals.{accepted, passes_full, plain_flicker, second_writer}
use Rattle.machine.specs.Tables.{Table, row, one_of, size_fits, sound_from, table_refusal}
use Rattle.machine.specs.Words.{FLICKER, GO, kind_of, process_of, argument_of, formed}
use Rattle.machine.specs.Steps.{reconsidered, gone, allowed, argument_fits, overflows, word_refusal, refusal_of}
use Rattle.machine.specs.Settings.{weakest, one_writer, settings_fit, flicker_forbidden, other_writer, goes_to24}
use Rattle.machine.specs.Settings.{go_forbidden, forbidden_by, before15, refusal_under}
use Rattle.machine.specs.declared.Row.{Row}
use Rattle.machine.specs.declared.Settings.{Settings}
use Rattle.machine.proofs.TableLaws.{row_same}
use Rattle.machine.proofs.Forms.{reconsidered_cases, gone_23}
use Rattle.machine.proofs.SoundRows.{sound-accepted}
use Rattle.machine.proofs.Accepted.{accepted_table}
use Rattle.machine.proofs.FullLaws.{full_go, full_word}

-- ---- no refusal without settings is above 15

pub refusal_low : (t : Table) (w : ℕ) → refusal_of t w ≤ 15
unfolding refusal_of word_refusal table_refusal
refusal_low t w =
    cond_le (eqb (table_refusal t) 0) (word_refusal t w) (table_refusal t) 15
    (cond_le (not (formed w)) 8 _ 15 (omega arith)
    (cond_le (not (ltb (process_of w) (length t))) 9 _ 15 (omega arith)
    (cond_le (not (allowed (kind_of w) (row t (process_of w)))) 10 _ 15 (omega arith)
    (cond_le (not (argument_fits (length t) (kind_of w) (row t (process_of w)) (argument_of w))) 11 _ 15 (omega arith)
    (cond_le (overflows t (kind_of w) (process_of w)) 15 0 15 (omega arith) (omega arith))))))
    (cond_le (not (size_fits (length t))) 6 _ 15 (omega arith)
    (cond_le (not (sound_from (length t) 0 t)) 7 0 15 (omega arith) (omega arith)))

-- ---- where GO goes from 23 to 24

-- at 23 by est, level and bb
to_24 : (p v : ℕ) (r : Row)
    → eqb (reconsidered p v r).location 24 ≡ (not (ltb (size r.est) r.level) && eqb r.bb 0)
to_24 p v r =
    let low = ltb (size r.est) r.level in
    reconsidered_cases (λ x. eqb x.location 24 ≡ (not low && eqb r.bb 0)) p v r
    (λ h. rw (lt-ltb _ _ h) refl)
    (λ h z. rw (le-ltb _ _ h, eq-eqb _ _ z) refl)
    (λ h z _. rw (le-ltb _ _ h, ne_eqb _ _ z) refl)
    (λ h z _. rw (le-ltb _ _ h, ne_eqb _ _ z) refl)

pub goes_by : (t : Table) (p : ℕ)
    → p < length t
    → goes_to24 t p
    ≡ (eqb (row t p).location 23 && (not (ltb (size (row t p).est) (row t p).level) && eqb (row t p).bb 0))
unfolding goes_to24
goes_by t p l =
    split (λ b. (b && eqb (row (gone t p) p).location 24)
    ≡ (b && (not (ltb (size (row t p).est) (row t p).level) && eqb (row t p).bb 0)))
    (eqb (row t p).location 23)
    (λ e.
    ap (λ (u : Table). eqb (row u p).location 24) (gone_23 t p (eqb-true _ _ e))
    ∙ ap (λ (r : Row). eqb r.location 24) (row_same t p _ l)
    ∙ to_24 p _ (row t p))
    (λ _. refl)

-- ---- what is forbidden

-- a choice between two numbers by what both tests say
chosen : (a b : Bool) (v : ℕ)
    → cond a plain_flicker (cond b second_writer accepted) ≡ v
    → ((a ≡ true) × (v ≡ 16)) ⊎ ((a ≡ false) × (b ≡ true) × (v ≡ 17)) ⊎ ((a ≡ false) × (b ≡ false) × (v ≡ 0))
chosen true b v e = inl (refl, sym e)
chosen false true v e = inr (inl (refl, refl, sym e))
chosen false false v e = inr (inr (refl, refl, sym e))

module _ (s : Settings) (t : Table) (k p : ℕ) where
  pub flicker_forbidden_lem : k ≡ FLICKER → flicker_forbidden s (row t p) ≡ true → forbidden_by s t k p ≡ 16
  unfolding forbidden_by
  flicker_forbidden_lem e h = rw (eq-eqb k FLICKER e, h) refl

  pub flicker_free : k ≡ FLICKER → flicker_forbidden s (row t p) ≡ false → forbidden_by s t k p ≡ 0
  unfolding forbidden_by
  flicker_free e h = rw (eq-eqb k FLICKER e, ne_eqb k GO (omega (arith, e)), h) refl

  pub go_forbidden_lem : k ≡ GO → go_forbidden s t p ≡ true → forbidden_by s t k p ≡ 17
  unfolding forbidden_by
  go_forbidden_lem e h = rw (ne_eqb k FLICKER (omega (arith, e)), eq-eqb k GO e, h) refl

  pub go_free : k ≡ GO → go_forbidden s t p ≡ false → forbidden_by s t k p ≡ 0
  unfolding forbidden_by
  go_free e h = rw (ne_eqb k FLICKER (omega (arith, e)), eq-eqb k GO e, h) refl

  -- FLICKER and GO alone
  pub others_free : k ≢ FLICKER → k ≢ GO → forbidden_by s t k p ≡ 0
  unfolding forbidden_by
  others_free f g = rw (ne_eqb k FLICKER f, ne_eqb k GO g) refl

  abbrev pub Flickers : Type 0
  Flickers = (k ≡ FLICKER) × (flicker_forbidden s (row t p) ≡ true)

  abbrev pub Goes : Type 0
  Goes = (k ≡ GO) × (go_forbidden s t p ≡ true)

  pub forbidden_cases : ((forbidden_by s t k p ≡ 16) × Flickers)
      ⊎ ((forbidden_by s t k p ≡ 17) × Goes)
      ⊎ (forbidden_by s t k p ≡ 0)
  unfolding forbidden_by
  forbidden_cases =
      let a = eqb k FLICKER && flicker_forbidden s (row t p) in
      let b = eqb k GO && go_forbidden s t p in
      let both : (x : ℕ) (y : Bool) → (eqb k x && y) ≡ true → (k ≡ x) × (y ≡ true) =
      λ x y h. let c = (and-eq-true_iff (eqb k x) y).0 h in (eqb-true k x c.0, c.1) in
      go (λ h. both FLICKER _ h) (λ h. both GO _ h) (chosen a b (forbidden_by s t k p) refl)
    where
      go : {a b : Bool} → (a ≡ true → Flickers) → (b ≡ true → Goes)
          → ((a ≡ true) × (forbidden_by s t k p ≡ 16))
          ⊎ ((a ≡ false) × (b ≡ true) × (forbidden_by s t k p ≡ 17))
          ⊎ ((a ≡ false) × (b ≡ false) × (forbidden_by s t k p ≡ 0))
          → ((forbidden_by s t k p ≡ 16) × Flickers)
          ⊎ ((forbidden_by s t k p ≡ 17) × Goes)
          ⊎ (forbidden_by s t k p ≡ 0)
      go f g (inl (x, e)) = inl (e, f x)
      go f g (inr (inl (x, y, e))) = inr (inl (e, g y))
      go f g (inr (inr (x, y, e))) = inr (inr e)

  pub forbidden_16 : forbidden_by s t k p ≡ 16 → Flickers
  forbidden_16 e =
      ⊎_elim (λ h. h.1)
      (⊎_elim (λ h. absurd (omega (arith, h.0, e))) (λ h. absurd (omega (arith, h, e)))) forbidden_cases

  pub forbidden_17 : forbidden_by s t k p ≡ 17 → Goes
  forbidden_17 e =
      ⊎_elim (λ h. absurd (omega (arith, h.0, e)))
      (⊎_elim (λ h. h.1) (λ h. absurd (omega (arith, h, e)))) forbidden_cases

  pub forbidden_low : forbidden_by s t k p ≤ 17
  forbidden_low =
      ⊎_elim (λ h. omega (arith, h.0)) (⊎_elim (λ h. omega (arith, h.0)) (λ h. omega (arith, h))) forbidden_cases

-- 0 and 0 forbid nothing
pub weakest_free : (t : Table) (k p : ℕ) → forbidden_by weakest t k p ≡ 0
weakest_free t k p =
    ⊎_elim (λ h. absurd (neither (eqb (row t p).location 24) h.1.1))
    (⊎_elim (λ h. absurd (false≢true h.1.1)) (λ h. h)) (forbidden_cases weakest t k p)
  where
    neither : (b : Bool) → cond b false false ≡ true → ⊥
    neither true e = false≢true e
    neither false e = false≢true e

-- ---- before 15

module _ (f n : ℕ) where
  -- nothing is forbidden
  pub before15_free : f ≡ 0 → before15 f n ≡ n
  before15_free e =
      split (λ b. cond (b && not (eqb f 0)) f n ≡ n) (one_of n (accepted ∷ passes_full ∷ []))
      (λ _. rw (eq-eqb f 0 e) refl)
      (λ _. refl)

  -- 16 or 17 where the word is accepted without settings
  pub before15_first : f ≢ 0 → n ≡ 0 → before15 f n ≡ f
  before15_first ne z = rw (ne_eqb f 0 ne, z) refl

  -- 10 and 11, and all other refusals but 15
  pub before15_other : n ≢ 0 → n ≢ 15 → before15 f n ≡ n
  before15_other x y = rw (ne_eqb n 0 x, ne_eqb n 15 y) refl

-- ---- which check answers

module _ (s : Settings) (t : Table) (w : ℕ) where
  pub under_table : table_refusal t ≢ 0 → refusal_under s t w ≡ refusal_of t w
  unfolding refusal_under
  under_table ne = rw (ne_eqb (table_refusal t) 0 ne) refl

  pub under_unfit : table_refusal t ≡ 0 → settings_fit s ≡ false → refusal_under s t w ≡ 18
  unfolding refusal_under
  under_unfit z h = rw (eq-eqb (table_refusal t) 0 z, h) refl

  abbrev pub forbidden : ℕ
  forbidden = forbidden_by s t (kind_of w) (process_of w)

  pub under_fit : table_refusal t ≡ 0 → settings_fit s ≡ true
      → refusal_under s t w ≡ before15 forbidden (refusal_of t w)
  unfolding refusal_under
  under_fit z h = rw (eq-eqb (table_refusal t) 0 z, h) refl

  -- a word that meets 15 is not forbidden: 16 and 17 never meet it
  pub full_free : refusal_of t w ≡ 15 → forbidden ≡ 0
  unfolding forbidden_by goes_to24
  full_free e =
      let full = full_go t w e in
      go_free s t (kind_of w) (process_of w) full.0
      (split (λ b. (b && (goes_to24 t (process_of w) && other_writer t (process_of w))) ≡ false) (eqb s.turn one_writer)
      (λ _. rw full.1 refl) (λ _. refl))

  -- and meets 15 under settings too
  pub full_under : settings_fit s ≡ true → refusal_of t w ≡ 15 → refusal_under s t w ≡ 15
  full_under fit e =
      under_fit (sound-accepted t (full_word t w e).0) fit ∙ before15_free forbidden (refusal_of t w) (full_free e) ∙ e

-- a word that is accepted without settings, given with settings that fit
pub record Allowed (s : Settings) (t : Table) (w : ℕ) : Type 0 where
  pub settings_fit_lem : settings_fit s ≡ true
  pub not_refused : refusal_of t w ≡ 0

-- the refusal without settings; 16 or 17; 18
pub data Under (s : Settings) (t : Table) (w : ℕ) : Type 0 where
  same : refusal_under s t w ≡ refusal_of t w → Under s t w
  forbids : refusal_under s t w ≡ forbidden s t w → forbidden s t w ≢ 0 → Allowed s t w → Under s t w
  unfit : refusal_under s t w ≡ 18 → table_refusal t ≡ 0 → settings_fit s ≡ false → Under s t w

module _ (s : Settings) (t : Table) (w : ℕ) where
  pub under_cases : Under s t w
  under_cases = go (ℕ_discrete (table_refusal t) 0)
    where
      fit : table_refusal t ≡ 0
          → settings_fit s ≡ true
          → Dec (forbidden s t w ≡ 0)
          → Dec (refusal_of t w ≡ 0)
          → Dec (refusal_of t w ≡ 15)
          → Under s t w
      fit z h (yes f) x y = Under.same (under_fit s t w z h ∙ before15_free (forbidden s t w) (refusal_of t w) f)
      fit z h (no f) (yes n) y =
          Under.forbids (under_fit s t w z h ∙ before15_first (forbidden s t w) (refusal_of t w) f n) f
          (record { settings_fit_lem = h; not_refused = n })
      fit z h (no f) (no x) (yes full) = absurd (f (full_free s t w full))
      fit z h (no f) (no x) (no y) =
          Under.same (under_fit s t w z h ∙ before15_other (forbidden s t w) (refusal_of t w) x y)

      go : Dec (table_refusal t ≡ 0) → Under s t w
      go (no ne) = Under.same (under_table s t w ne)
      go (yes z) =
          split (λ _. Under s t w) (settings_fit s)
          (λ h. fit z h (ℕ_discrete (forbidden s t w) 0) (ℕ_discrete (refusal_of t w) 0) (ℕ_discrete (refusal_of t w) 15))
          (λ h. Under.unfit (under_unfit s t w z h) z h)

  -- what is accepted under settings is accepted without them, and the settings do not forbid it
  pub accepted_under : refusal_under s t w ≡ 0 → Allowed s t w × (forbidden s t w ≡ 0)
  accepted_under z = go under_cases
    where
      -- of a word that is accepted without settings
      so : refusal_of t w ≡ 0 → Allowed s t w × (forbidden s t w ≡ 0)
      so n =
          let sound = accepted_table t w n in
          split (λ _. Allowed s t w × (forbidden s t w ≡ 0)) (settings_fit s)
          (λ h. (
            record { settings_fit_lem = h; not_refused = n },
            by_cases (ℕ_discrete (forbidden s t w) 0) (λ f. f)
                (λ f. absurd (f (sym (under_fit s t w sound h ∙ before15_first _ _ f n) ∙ z))),
          ))
          (λ h. absurd (omega (arith, under_unfit s t w sound h, z)))

      go : Under s t w → Allowed s t w × (forbidden s t w ≡ 0)
      go (Under.same e) = so (sym e ∙ z)
      go (Under.forbids e ne a) = absurd (ne (sym e ∙ z))
      go (Under.unfit e x y) = absurd (omega (arith, e, z))

  pub under_accepted : Allowed s t w → forbidden s t w ≡ 0 → refusal_under s t w ≡ 0
  under_accepted a f =
      let n = a.not_refused in
      under_fit s t w (accepted_table t w n) a.settings_fit_lem ∙ before15_free _ _ f ∙ n

  -- what the settings forbid, where nothing else refuses it
  pub under_forbidden : Allowed s t w → forbidden s t w ≢ 0 → refusal_under s t w ≡ forbidden s t w
  under_forbidden a f =
      under_fit s t w (accepted_table t w a.not_refused) a.settings_fit_lem ∙ before15_first _ _ f a.not_refused

  -- what is answered above 15
  over : (v : ℕ) → 15 < v → v < 18 → refusal_under s t w ≡ v → (forbidden s t w ≡ v) × Allowed s t w
  over v l k e = go under_cases
    where
      go : Under s t w → (forbidden s t w ≡ v) × Allowed s t w
      go (Under.same i) = absurd (omega (arith, i, e, l, refusal_low t w))
      go (Under.forbids i ne a) = (sym i ∙ e, a)
      go (Under.unfit i x y) = absurd (omega (arith, i, e, k))

  pub met_16 : refusal_under s t w ≡ 16 → Allowed s t w × Flickers s t (kind_of w) (process_of w)
  met_16 e = let o = over 16 (omega arith) (omega arith) e in (o.1, forbidden_16 s t (kind_of w) (process_of w) o.0)

  pub met_17 : refusal_under s t w ≡ 17 → Allowed s t w × Goes s t (kind_of w) (process_of w)
  met_17 e = let o = over 17 (omega arith) (omega arith) e in (o.1, forbidden_17 s t (kind_of w) (process_of w) o.0)

  pub met_18 : refusal_under s t w ≡ 18 → (table_refusal t ≡ 0) × (settings_fit s ≡ false)
  met_18 e = go under_cases
    where
      go : Under s t w → (table_refusal t ≡ 0) × (settings_fit s ≡ false)
      go (Under.same i) = absurd (omega (arith, i, e, refusal_low t w))
      go (Under.forbids i ne a) = absurd (omega (arith, i, e, forbidden_low s t (kind_of w) (process_of w)))
      go (Under.unfit i x y) = (x, y)
