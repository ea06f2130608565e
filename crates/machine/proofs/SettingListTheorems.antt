-- Lists and pairs of words under settings, as a reader opens them. `list_under s` is a list of words under the settings s,
-- `accepted_of s` its words that are accepted (Settings.antt); `exchange` is that of CellTheorems.antt.
--
--   accepted_list, each_accepted    a list under settings is its accepted words under 0 and 0
--   exchange_under                  two words in either order, where turn is not to have one writer
--
-- Assumes nothing.
use Prim.Native.Nat.{ℕ, zero, suc, ◌<◌}
use mathlib.Core.Path.{◌≡◌, refl, sym, ap, ◌∙◌, subst}
use mathlib.Core.Bool.{Bool, false, cond}
use mathlib.Core.Logic.{◌≢◌, by_cases}
use mathlib.Core.List.{List, [], ◌∷◌}
use native.Mathlib.Decide.{ℕ_discrete}
use native.Mathlib.Omega.{arith}
use lib.ListN.{length, get_or, take}
use borrow.Author.Tests.{eq-eqb, ne_eqb}
use Rattle.machine.specs.Tables.{Table, row}
use Rattle.machine.specs.Words.{kind_of, process_of}
use Rattle.machine.specs.Shared.{clash, but_history}
use Rattle.machine.specs.Steps.{refusal_of, after_word, after_words, cell_of}
use Rattle.machine.specs.Settings.{forbidden_by, refusal_under, after_under, list_under, accepted_of}
use Rattle.machine.specs.declared.Row.{Row}
use Rattle.machine.specs.declared.Settings.{Settings}
use Rattle.machine.proofs.CellTheorems.{others_kept, exchange}
use Rattle.machine.proofs.SettingLaws.{accepted_under, under_accepted}
use Rattle.machine.proofs.SettingLaws.{full_under}
use Rattle.machine.proofs.SettingTheorems.{accepted_same, refused_under}

-- ---- lists

-- The table after a list under settings is the table after its accepted words under 0 and 0.
-- Excludes: a setting under which a list leads anywhere else; so whatever holds of every list holds under settings.
pub accepted_list : (s : Settings) (t : Table) (ws : List ℕ) → list_under s t ws ≡ after_words t (accepted_of s t ws)
unfolding list_under accepted_of after_words after_under
accepted_list s t [] = refl
accepted_list s t (w ∷ ws) = go (ℕ_discrete (refusal_under s t w) 0) (accepted_list s (after_under s t w) ws)
  where
    go : Dec (refusal_under s t w ≡ 0)
        → list_under s (after_under s t w) ws ≡ after_words (after_under s t w) (accepted_of s (after_under s t w) ws)
        → list_under s (after_under s t w) ws ≡ after_words t (accepted_of s t (w ∷ ws))
    go (yes z) h = h ∙ rw (eq-eqb _ _ z) refl
    go (no ne) h = h ∙ rw (ne_eqb _ _ ne) refl

-- every word of a list is accepted under 0 and 0, after the ones before it
abbrev pub AllAccepted : Table → List ℕ → Type 0
AllAccepted t vs = (i : ℕ) → i < length vs → refusal_of (after_words t (take i vs)) (get_or vs i 0) ≡ 0

one_more : (t : Table) (w : ℕ) (vs : List ℕ)
    → refusal_of t w ≡ 0
    → AllAccepted (after_word t w) vs
    → AllAccepted t (w ∷ vs)
unfolding after_words
one_more t w vs z h zero l = z
one_more t w vs z h (suc i) l = h i (omega arith)

-- And these words are accepted under 0 and 0, every one.
-- Excludes: words that are only passed over.
pub each_accepted : (s : Settings) (t : Table) (ws : List ℕ) → AllAccepted t (accepted_of s t ws)
unfolding accepted_of
each_accepted s t [] = λ i l. absurd (omega arith)
each_accepted s t (w ∷ ws) =
    let u = after_under s t w in
    let rest = accepted_of s u ws in
    let h = each_accepted s u ws in
    let pick : Bool → List ℕ = λ b. cond b (w ∷ rest) rest in
    by_cases (ℕ_discrete (refusal_under s t w) 0)
    (λ z.
    let a = accepted_same s t w z in
    subst (AllAccepted t) (sym (ap pick (eq-eqb _ _ z)))
    (one_more t w rest a.0 (subst (λ (v : Table). AllAccepted v rest) a.1.table_same h)))
    (λ ne.
    subst (AllAccepted t) (sym (ap pick (ne_eqb _ _ ne)))
    (subst (λ (v : Table). AllAccepted v rest) (refused_under s t w ne).0 h))

-- ---- two words

-- forbidding looks at the location of the process alone, where turn is not to have one writer
same_forbidden : (s : Settings) (t u : Table) (k p : ℕ)
    → s.turn ≢ 1
    → (row u p).location ≡ (row t p).location
    → forbidden_by s u k p ≡ forbidden_by s t k p
unfolding forbidden_by
same_forbidden s t u k p ne e = rw (ne_eqb _ _ ne, e) refl

-- w after v, by what the exchange of the two says of 0 and 0
accepted_after : (s : Settings) (t : Table) (v w : ℕ)
    → s.turn ≢ 1
    → refusal_under s t w ≡ 0
    → process_of v ≢ process_of w
    → refusal_of (after_word t v) w ≡ 0
    → refusal_under s (after_word t v) w ≡ 0
accepted_after s t v w one z ne n =
    let a = accepted_under s t w z in
    under_accepted s (after_word t v) w (record { settings_fit_lem = a.0.settings_fit_lem; not_refused = n })
    (same_forbidden s t (after_word t v) (kind_of w) (process_of w) one
    (ap (λ (r : Row). r.location) (others_kept t v (process_of w) (λ e. ne (sym e))))
    ∙ a.1)

-- Two words as for `exchange` of CellTheorems.antt, under settings of which turn is 0 or 2, and act either: each is
-- accepted after the other under the same settings, and both orders lead to the same table, history apart.
-- Excludes: act plain, or turn plain, that look at a process of which the word tells nothing.
-- Under one writer it is false: `one_writer_exchange` of SettingExamples.antt, where each of two may go to 24, and
-- after either the other may not.
pub exchange_under : (s : Settings) (t : Table) (v w : ℕ)
    → s.turn ≢ 1
    → refusal_under s t v ≡ 0
    → refusal_under s t w ≡ 0
    → process_of v ≢ process_of w
    → clash (cell_of t v) (cell_of t w) ≡ false
    → refusal_under s (after_under s t v) w ≢ 15
    → refusal_under s (after_under s t w) v ≢ 15
    → (refusal_under s (after_under s t v) w ≡ 0)
    × (refusal_under s (after_under s t w) v ≡ 0)
    × (but_history (after_under s (after_under s t v) w) ≡ but_history (after_under s (after_under s t w) v))
exchange_under s t v w one x y ne free fw fv =
    let a = accepted_same s t v x in
    let b = accepted_same s t w y in
    let fit = (accepted_under s t v x).0.settings_fit_lem in
    let tv = a.1.table_same in
    let tw = b.1.table_same in
    let e =
    exchange t v w a.0 b.0 ne free
    (λ f. fw (ap (λ (u : Table). refusal_under s u w) tv ∙ full_under s (after_word t v) w fit f))
    (λ f. fv (ap (λ (u : Table). refusal_under s u v) tw ∙ full_under s (after_word t w) v fit f)) in
    let p = accepted_after s t v w one y ne e.0 in
    let q = accepted_after s t w v one x (λ i. ne (sym i)) e.1 in (
      ap (λ (u : Table). refusal_under s u w) tv ∙ p,
      ap (λ (u : Table). refusal_under s u v) tw ∙ q,
      ap (λ (u : Table). but_history (after_under s u w)) tv
          ∙ ap but_history (accepted_same s (after_word t v) w p).1.table_same ∙ e.2
          ∙ sym (ap but_history (accepted_same s (after_word t w) v q).1.table_same)
          ∙ sym (ap (λ (u : Table). but_history (after_under s u v)) tw),
    )
