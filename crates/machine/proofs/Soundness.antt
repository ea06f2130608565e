-- Every step keeps a table sound, and its number of processes.
--
--   Room t p                               a GO of process p at 20 would carry no count past 65,535
--   step_keeps_length, step_keeps_sound    for a step of the system, from any sound table, where an entry has room
--   word_room                              an accepted word has it
--   word_keeps_length, word_keeps_sound    for a word, accepted or refused
--   always                                 what every step to a sound table keeps, every list of words keeps
--   words_keep_length, words_keep_sound    for a list of words
--
-- Assumes nothing.
use Prim.Native.Nat.{ℕ, ◌-◌, ◌^◌, ◌≤◌, ◌<◌}
use mathlib.Core.Path.{◌≡◌, refl, sym, ap, ◌∙◌, subst}
use mathlib.Core.Bool.{Bool, true, false, ◌&&◌, not, and-eq-true_iff}
use mathlib.Core.Logic.{⊎_elim}
use mathlib.Core.List.{List, [], ◌∷◌, map}
use native.Mathlib.Omega.{arith}
use lib.Dec.{eqb, leb}
use lib.ListN.{length, set, length-set, length-map}
use borrow.Author.Tests.{eqb-true, leb-true, not-false}
use Rattle.counting.specs.Sets.{has, size, without, others}
use Rattle.counting.proofs.SetLaws.{set_of_lt, has-set_of, others_lt}
use Rattle.machine.specs.Rows.{with_location, with_act, with_bb, with_level, with_lis}
use Rattle.machine.specs.Tables.{Table, row, one_of, locations, table_refusal, competitors}
use Rattle.machine.specs.Words.{GO, is_kind, kind_of, process_of, argument_of}
use Rattle.machine.specs.Steps.{moved, allowed, raisable, overflows, refusal_of, after_word, after_words}
use Rattle.machine.specs.System.{assigned, turn_assigned, Cp, incremented, exited, Step}
use Rattle.machine.specs.System.Step.{rests, comes, flickers_20, enters, starts_scan, wins, discards, keeps}
use Rattle.machine.specs.System.Step.{ends_scan, lowers, to_push, waits, skips, flickers_24, pushes, exits}
use Rattle.machine.specs.System.Step.{flickers_40, leaves, cancels}
use Rattle.machine.specs.declared.Row.{Row}
use Rattle.machine.proofs.KindLaws.{by_kind}
use Rattle.machine.proofs.TableLaws.{row_same}
use Rattle.machine.proofs.Forms.{flickered_act}
use Rattle.machine.proofs.PassLaws.{incremented-sound, cleared_sound}
use Rattle.machine.proofs.SoundRows.{SoundRow, sound_rows, rows_sound}
use Rattle.machine.proofs.SoundCells.{without_fits, sound-moved, sound_act, sound_bb, sound_est, sound_lis}
use Rattle.machine.proofs.SoundCells.{sound_ahead, sound_passes_lem, SoundTable, sound-set, sound-turned}
use Rattle.machine.proofs.SoundCells.{sound_mapped}
use Rattle.machine.proofs.Accepted.{accepted_says, accepted-moved, word_cases}

-- ---- a step

-- a set of competitors, less p or not, fits
Cp-fits : (t : Table) → Cp t < 2 ^ length t
Cp-fits t = set_of_lt (λ q. leb 21 (row t q).location && leb (row t q).location 30) (length t)

module _ {t : Table} (s : SoundTable (length t) t) (p : ℕ) (l : p < length t) where
  own : SoundRow (length t) p (row t p)
  own = s.each p l

  -- at 22 to 24 the level is above 0
  high : (v : ℕ) → (row t p).location ≡ v → leb 22 v ≡ true → leb v 24 ≡ true → 0 < (row t p).level
  high v e x y = let i = leb-true 22 v x in let j = leb-true v 24 y in own.level_some (omega arith) (omega arith)

  -- the location of p alone is changed, to one that its level goes with
  sound-placed : (v : ℕ)
      → one_of v locations ≡ true
      → (22 ≤ v → v ≤ 24 → 0 < (row t p).level)
      → (v ≡ 30 → (row t p).level ≡ 0)
      → SoundTable (length t) (assigned t p (with_location v))
  sound-placed v o some none =
      sound-set s p (with_location v (row t p)) l (sound-moved own v (row t p).level o own.level_low some none)

  -- the level of p is lowered, at 21
  sound_lowered : (k : ℕ)
      → k < length t
      → SoundTable (length t) (assigned t p (λ r. with_location 21 (with_bb 0 (with_level k r))))
  sound_lowered k h =
      sound-set s p _ l (sound_bb (sound-moved own 21 k refl h (omega arith) (omega arith)) 0 (omega arith))

  -- q leaves lis
  sound-seen : length t ≤ 16 → (q : ℕ) → SoundRow (length t) p (with_lis (without (row t p).lis q) (row t p))
  sound-seen few q =
      sound_lis own (without (row t p).lis q) (without_fits (row t p).lis q (length t) few own.lis_low)

-- the counts of process p have room for one more over each competitor
abbrev pub Room : Table → ℕ → Type 0
Room t p = raisable (Cp t) (row t p).passes ≡ true

-- then no GO of p overflows, and the other way at 20
pub room_fits : (t : Table) (p : ℕ) → Room t p → overflows t GO p ≡ false
unfolding overflows competitors
room_fits t p room = ap (λ (b : Bool). eqb (row t p).location 20 && not b) room ∙ go (eqb (row t p).location 20)
  where
    go : (b : Bool) → (b && false) ≡ false
    go true = refl
    go false = refl

pub fits_room : (t : Table) (p : ℕ) → overflows t GO p ≡ false → (row t p).location ≡ 20 → Room t p
unfolding overflows competitors
fits_room t p h e = not-false (raisable (competitors t) (row t p).passes) (sym (rw e refl) ∙ h)

-- p does not compete at 20
not_among : (t : Table) (p : ℕ) → p < length t → (row t p).location ≡ 20 → has (Cp t) p ≡ false
not_among t p l e =
    has-set_of (λ q. leb 21 (row t q).location && leb (row t q).location 30) (length t) p l
    ∙ ap (λ (v : ℕ). leb 21 v && leb v 30) e

step_sound : {t u : Table} (p : ℕ)
    → length t ≤ 16
    → p < length t
    → SoundTable (length t) t
    → (x : Step t p u)
    → ((row t p).location ≡ 20 → (row u p).location ≡ 21 → Room t p)
    → SoundTable (length t) u
step_sound {t} p few l s (rests e) room = s
step_sound {t} p few l s (comes e) room = sound-placed s p l 20 refl (omega arith) (omega arith)
step_sound {t} p few l s (flickers_20 a e h) room = sound-set s p _ l (sound_act (own s p l) a h)
step_sound {t} p few l s (enters e) room =
    let placed = sound-moved (own s p l) 21 (length t - 1) refl (omega arith) (omega arith) (omega arith) in
    let known = sound_ahead (sound_act placed 1 (omega arith)) (Cp t) (Cp-fits t) in
    let fit = room e (ap (λ (r : Row). r.location) (row_same t p _ l)) in
    let counted = sound_passes_lem known (incremented (Cp t) (row t p).passes)
    (incremented-sound (length t) p (Cp t) (row t p).passes (own s p l).passes_fit (Cp-fits t)
    (not_among t p l e) fit) in
    sound-set s p _ l (sound_est counted (others (length t) p) (others_lt (length t) p))
step_sound {t} p few l s (starts_scan e h) room =
    let o = own s p l in
    let placed = sound-moved o 22 (row t p).level refl o.level_low (λ x y. h) (omega arith) in
    sound-set s p _ l (sound_lis placed (row t p).est o.est_low)
step_sound {t} p few l s (wins e h) room = sound-placed s p l 30 refl (omega arith) (λ i. h)
step_sound {t} p few l s (discards q e h a) room =
    let o = own s p l in
    let fits = without_fits (row t p).est q (length t) few o.est_low in
    sound-set s p _ l (sound_est (sound-seen s p l few q) (without (row t p).est q) fits)
step_sound {t} p few l s (keeps q e h a) room = sound-set s p _ l (sound-seen s p l few q)
step_sound {t} p few l s (ends_scan e h) room =
    sound-placed s p l 23 refl (λ x y. high s p l 22 e refl refl) (omega arith)
step_sound {t} p few l s (lowers e h) room =
    sound_lowered s p l (size (row t p).est) (let k = (own s p l).level_low in omega arith)
step_sound {t} p few l s (to_push e h b) room =
    sound-placed s p l 24 refl (λ x y. high s p l 23 e refl refl) (omega arith)
step_sound {t} p few l s (waits e h b v) room =
    sound_lowered s p l ((row t p).level - 1) (let k = (own s p l).level_low in omega arith)
step_sound {t} p few l s (skips e h b v) room = sound-placed s p l 21 refl (omega arith) (omega arith)
step_sound {t} p few l s (flickers_24 a e h) room =
    sound-turned s (row t p).level a (own s p l).level_low (high s p l 24 e refl refl) h
step_sound {t} p few l s (pushes e) room =
    let k = (row t p).level in
    let v = sound-turned s k p (own s p l).level_low (high s p l 24 e refl refl) l in
    let o = v.each p l in
    let placed = sound-moved o 21 (row (turn_assigned t k p) p).level refl o.level_low (omega arith) (omega arith) in
    let known = sound_ahead placed (without (Cp t) p) (without_fits (Cp t) p (length t) few (Cp-fits t)) in
    sound-set v p _ l (sound_est (sound_bb known 1 (omega arith)) (others (length t) p) (others_lt (length t) p))
step_sound {t} p few l s (exits e) room =
    let fits : (r : Row) → r.ahead < 2 ^ length t → without r.ahead p < 2 ^ length t =
    λ r h. without_fits r.ahead p (length t) few h in
    let v = sound_mapped s (exited p)
    (λ q r h.
    sound_ahead (sound_passes_lem h (set r.passes p 0) (cleared_sound (length t) q p r.passes h.passes_fit))
    (without r.ahead p) (fits r h.ahead_low)) in
    let o = v.each p l in
    sound-set v p _ l
    (sound-moved o 40 (row (map (exited p) t) p).level refl o.level_low (omega arith) (omega arith))
step_sound {t} p few l s (flickers_40 a e h) room = sound-set s p _ l (sound_act (own s p l) a h)
step_sound {t} p few l s (leaves e) room =
    let o = own s p l in
    let placed = sound-moved o 10 (row t p).level refl o.level_low (omega arith) (omega arith) in
    sound-set s p _ l (sound_act placed 0 (omega arith))
step_sound {t} p few l s (cancels e) room = sound-placed s p l 40 refl (omega arith) (omega arith)

-- ---- what it comes to

pub step_keeps_sound : (t u : Table) (p : ℕ)
    → table_refusal t ≡ 0
    → p < length t
    → Step t p u
    → ((row t p).location ≡ 20 → (row u p).location ≡ 21 → Room t p)
    → table_refusal u ≡ 0
step_keeps_sound t u p z l x room =
    let h = sound_rows t z in
    let s = step_sound p h.1 l (record { size_is = refl; each = h.2 }) x room in
    let i = s.size_is in
    rows_sound u (omega (arith, h.0)) (omega (arith, h.1))
    (λ q k. subst (λ (n : ℕ). SoundRow n q (row u q)) (sym i) (s.each q (omega arith)))

-- what is allowed at 20 and leads to 21 is GO
goes_on : (t : Table) (p k a : ℕ)
    → p < length t
    → is_kind k ≡ true
    → allowed k (row t p) ≡ true
    → (row t p).location ≡ 20
    → (row (moved t k p a) p).location ≡ 21
    → k ≡ GO
unfolding moved allowed
goes_on t p k a l =
    by_kind (λ k. allowed k (row t p) ≡ true → (row t p).location ≡ 20 → (row (moved t k p a) p).location ≡ 21 → k ≡ GO)
    (λ h e f. absurd (omega (arith, eqb-true (row t p).location 10 h)))
    (λ h e f. absurd (omega (arith, eqb-true (row t p).location 10 h)))
    (λ h e f.
    let same = ap (λ (u : Table). (row u p).location) (flickered_act t p a (omega arith))
    ∙ ap (λ (r : Row). r.location) (row_same t p (with_act a (row t p)) l) in
    absurd (omega (arith, same)))
    (λ h e f. refl)
    (λ h e f.
    absurd
    (omega (
      arith,
      eqb-true (row t p).location 22
          ((and-eq-true_iff (eqb (row t p).location 22) (not (eqb (row t p).lis 0))).0 h).0,
    )))
    (λ h e f.
    let gone = ap (λ (r : Row). r.location) (row_same t p (with_location 40 (row t p)) l) in
    absurd (omega (arith, gone)))
    k

-- a word that is accepted, and leads from 20 to 21, has room
pub word_room : (t : Table) (w : ℕ)
    → refusal_of t w ≡ 0
    → (row t (process_of w)).location ≡ 20
    → (row (after_word t w) (process_of w)).location ≡ 21
    → Room t (process_of w)
word_room t w z e f =
    let s = accepted_says t w z in
    let g = goes_on t (process_of w) (kind_of w) (argument_of w) s.process_in s.kind_known s.allowed_there e
    (ap (λ (u : Table). (row u (process_of w)).location) (sym (accepted-moved t w z)) ∙ f) in
    fits_room t (process_of w) (ap (λ (k : ℕ). overflows t k (process_of w)) (sym g) ∙ s.passes_fit) e

pub word_keeps_sound : (t : Table) (w : ℕ) → table_refusal t ≡ 0 → table_refusal (after_word t w) ≡ 0
word_keeps_sound t w z =
    ⊎_elim
    (λ m. step_keeps_sound t (after_word t w) (process_of w) z m.2 m.3 (word_room t w m.0))
    (λ e. ap table_refusal e ∙ z)
    (word_cases t w)

-- what every step of a process from a sound table to one keeps, every list of words keeps
pub always : (P : Table → Type 0)
    → ((t u : Table) (p : ℕ) → table_refusal t ≡ 0 → table_refusal u ≡ 0 → p < length t → Step t p u → P t → P u)
    → (t : Table) (ws : List ℕ) → P t → P (after_words t ws)
unfolding after_words
always P f t [] h = h
always P f t (w ∷ ws) h =
    always P f (after_word t w) ws
    (⊎_elim
    (λ m. f t (after_word t w) (process_of w) m.1 (word_keeps_sound t w m.1) m.2 m.3 h)
    (λ e. subst P (sym e) h)
    (word_cases t w))

pub words_keep_sound : (t : Table) (ws : List ℕ) → table_refusal t ≡ 0 → table_refusal (after_words t ws) ≡ 0
words_keep_sound t ws = always (λ u. table_refusal u ≡ 0) (λ t u p z y l x h. y) t ws

-- ---- the number of processes

pub step_keeps_length : (t u : Table) (p : ℕ) → Step t p u → length u ≡ length t
step_keeps_length t u p x = go x
  where
    go : {u : Table} → Step t p u → length u ≡ length t
    go (rests e) = refl
    go (comes e) = simp length-set
    go (flickers_20 a e h) = simp length-set
    go (enters e) = simp length-set
    go (starts_scan e h) = simp length-set
    go (wins e h) = simp length-set
    go (discards q e h a) = simp length-set
    go (keeps q e h a) = simp length-set
    go (ends_scan e h) = simp length-set
    go (lowers e h) = simp length-set
    go (to_push e h b) = simp length-set
    go (waits e h b v) = simp length-set
    go (skips e h b v) = simp length-set
    go (flickers_24 a e h) = simp length-set
    go (pushes e) = simp length-set
    go (exits e) = simp (length-set, length-map)
    go (flickers_40 a e h) = simp length-set
    go (leaves e) = simp length-set
    go (cancels e) = simp length-set

pub word_keeps_length : (t : Table) (w : ℕ) → length (after_word t w) ≡ length t
word_keeps_length t w =
    ⊎_elim
    (λ m. step_keeps_length t (after_word t w) (process_of w) m.3)
    (λ e. ap (λ (u : Table). length u) e)
    (word_cases t w)

pub words_keep_length : (t : Table) (ws : List ℕ) → length (after_words t ws) ≡ length t
words_keep_length t ws =
    always (λ u. length u ≡ length t) (λ v u p z y l x h. step_keeps_length v u p x ∙ h) t ws refl
