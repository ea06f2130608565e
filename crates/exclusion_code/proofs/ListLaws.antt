-- Lists of words given to the step under settings: one word of them, a table or settings that refuse every word, and
-- demand 3. Assumes nothing.
use Prim.Native.Nat.{ℕ, suc, ◌+◌, ◌≤◌, ◌<◌}
use mathlib.Core.Path.{◌≡◌, refl, sym, ap, subst, ◌∙◌}
use mathlib.Core.List.{List, [], ◌∷◌}
use native.Mathlib.Numerals.{add-one}
use lib.ListN.{length, get_or, drop}
use lib.Seq.{drop-cons}
use Rattle.std.proofs.lemmas.List.{at_drop_all}
use Rattle.std.specs.Prelude.{Err}
use Rattle.machine.specs.Refusals.{number}
use Rattle.machine.specs.Tables.{Table}
use Rattle.machine.specs.Settings.{refusal_under, after_under, list_under}
use Rattle.machine.specs.Census.{held, critical}
use Rattle.machine.specs.declared.Settings.{Settings}
use Rattle.machine.specs.declared.Refusal.{Refusal}
use Rattle.machine.proofs.AnswerLaws.{under_refused}
use Rattle.machine.proofs.SettingTheorems.{refused_under}
use Rattle.exclusion.proofs.WholeTheorems.{exclusion_under}
use Rattle.steps.specs.Stepping.{checked}
use Rattle.steps.proofs.StepLaws.{checked-steps}
use Rattle.exclusion_code.specs.Lists.{Listed}

module _ (m : Settings) where
  pub after_none : (t : Table) → list_under m t [] ≡ t
  unfolding list_under
  after_none t = refl

  pub after_cons : (t : Table) (w : ℕ) (ws : List ℕ) → list_under m t (w ∷ ws) ≡ list_under m (after_under m t w) ws
  unfolding list_under
  after_cons t w ws = refl

  -- what is left of a list from place i on, and from the next place on
  pub after_one : (t : Table) (ws : List ℕ) (i : ℕ) → i < length ws
      → list_under m t (drop i ws) ≡ list_under m (after_under m t (get_or ws i 0)) (drop (i + 1) ws)
  after_one t ws i l =
      rw (add-one i) (ap (list_under m t) (drop-cons ws i 0 l) ∙ after_cons t (get_or ws i 0) (drop (suc i) ws))

  -- where every word is refused
  pub refused_all : (t : Table) (ws : List ℕ) → ((w : ℕ) → refusal_under m t w ≡ 0 → ⊥) → list_under m t ws ≡ t
  refused_all t [] ne = after_none t
  refused_all t (w ∷ ws) ne =
      let same = (refused_under m t w (ne w)).0 in
      after_cons t w ws ∙ ap (λ (u : Table). list_under m u ws) same ∙ refused_all t ws ne

  -- demand 3: the theorem, read at the table that the words name
  pub listed : (x : Table) (ws : List ℕ) (y : Table) → y ≡ list_under m x ws → Listed m x ws y
  listed x ws y e =
      record {
        becomes = e;
        held_most = λ h k. subst (λ (u : Table). held k u ≤ k) (sym e) ((exclusion_under m x ws h).2 k);
        critical_most = λ h. subst (λ (u : Table). critical u ≤ 1) (sym e) (exclusion_under m x ws h).3;
      }

  -- after the last place
  pub listed_all : (x : Table) (ws : List ℕ) (i : ℕ) (y z : Table) → length ws ≤ i → y ≡ z
      → list_under m x ws ≡ list_under m z (drop i ws)
      → Listed m x ws y
  listed_all x ws i y z l same e =
      listed x ws y (same ∙ sym (e ∙ at_drop_all (list_under m z) ws i l ∙ after_none z))

  -- where every word is refused, for the table or for the settings
  pub listed_none : (x : Table) (ws : List ℕ) (e : Refusal) → Err (number e) ≡ checked m x → Listed m x ws x
  listed_none x ws e why =
      listed x ws x
      (sym (refused_all x ws (λ w. (under_refused m x w (number e) (sym (checked-steps m x w e why).answer_is)).0)))
