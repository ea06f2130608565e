-- What a step does to the shared cells and to the private variables of its process, and that it does the same from
-- every table that it cannot tell apart.
--
--   Effect p c x o t v    <=>  from t to v act and turn are kept but for cell c, which gets x where it is written, and
--                              the private variables of p become those of o.
--   follow                a step has the same effect from a table with the same private variables of its process, and
--                         the same value in the cell that it reads: the same alternative is taken there
--   word_follows          so has an accepted word
--   word_effect           every word has an effect
--
-- Assumes nothing.
use Prim.Native.Nat.{ℕ, ◌-◌, ◌≤◌, ◌<◌}
use mathlib.Core.Path.{◌≡◌, refl, sym, ap, ap₂, ◌∙◌, subst}
use mathlib.Core.Bool.{true, false, cond}
use mathlib.Core.Logic.{◌≢◌, by_cases}
use mathlib.Core.List.{map}
use native.Mathlib.Decide.{ℕ_discrete}
use native.Mathlib.Omega.{arith}
use lib.Dec.{eqb}
use lib.ListN.{length, set, length-set, length-map}
use borrow.Author.Tests.{eq-eqb, ne_eqb}
use Rattle.counting.specs.Sets.{has, size, without, others}
use Rattle.machine.specs.Rows.{with_location, with_act, with_bb, with_level, with_est, with_lis, with_ahead, with_turn}
use Rattle.machine.specs.Tables.{Table, row, sound}
use Rattle.machine.specs.Words.{process_of}
use Rattle.machine.specs.Shared.{no_cell, act_read, act_written, turn_read, turn_written, is_written, own, present}
use Rattle.machine.specs.Steps.{refusal_of, after_word, cell_of}
use Rattle.machine.specs.System.{assigned, turn_assigned, Cp, Step, step_word, step_cell, exited}
use Rattle.machine.specs.System.Step.{rests, comes, flickers_20, enters, starts_scan, wins, discards, keeps}
use Rattle.machine.specs.System.Step.{ends_scan, lowers, to_push, waits, skips, flickers_24, pushes, exits}
use Rattle.machine.specs.System.Step.{flickers_40, leaves, cancels}
use Rattle.machine.specs.declared.Row.{Row}
use Rattle.machine.specs.declared.SharedCell.{SharedCell}
use Rattle.machine.proofs.TableLaws.{row_same, row_cases, turn_free, map_free}
use Rattle.machine.proofs.SoundRows.{sound-row, sound-accepted, accepted-sound}
use Rattle.machine.proofs.Accepted.{accepted_table, accepted_process, refused_same}
use Rattle.machine.proofs.OneWord.{unless_full, one_word, word_step}
use Rattle.machine.proofs.CellLaws.{refused_cell, step_cell_lem, writes}

-- ---- what a step does

-- from t to v by a step of p
pub record Effect (p : ℕ) (c : SharedCell) (x : ℕ) (o : Row) (t v : Table) : Type 0 where
  pub acts : (q : ℕ) → (row v q).act ≡ cond (writes c (act_written q)) x (row t q).act
  pub turns : (k : ℕ) → (row v k).turn ≡ cond (writes c (turn_written k)) x (row t k).turn
  pub mover : own (row v p) ≡ o

-- f assigns to private variables, from private variables alone, and to ahead
abbrev Private : (Row → Row) → Type 0
Private f = (r : Row) → present (f r) ≡ with_turn r.turn (with_act r.act (own (f (own r))))

-- a cell g of each row, where the row of p is set
module _ {A : Type 0} (g : Row → A) (t : Table) (p : ℕ) (s : Row) (l : p < length t) where
  cell_kept : g s ≡ g (row t p) → (q : ℕ) → g (row (set t p s) q) ≡ g (row t q)
  cell_kept e = row_cases (λ q r. g r ≡ g (row t q)) t p s l e (λ q ne. refl)

  cell_set : (q : ℕ) → g (row (set t p s) q) ≡ cond (eqb p q) (g s) (g (row t q))
  cell_set =
      row_cases (λ q r. g r ≡ cond (eqb p q) (g s) (g (row t q))) t p s l (rw (eq-eqb p p refl))
      (λ q ne. rw (ne_eqb p q (λ e. ne (sym e))))

module _ (p : ℕ) (t : Table) where
  -- the table is kept
  nothing : (c : SharedCell) → is_written c ≡ false → Effect p c 0 (own (row t p)) t t
  nothing c h = record { acts = λ q. rw h; turns = λ k. rw h; mover = refl }

  -- history alone changes
  forgotten : Effect p no_cell 0 (own (row t p)) t (map (exited p) t)
  forgotten =
      record {
        acts = λ q. map_free (λ r. r.act ≡ (row t q).act) (exited p) t q (λ r e. e) refl;
        turns = λ k. map_free (λ r. r.turn ≡ (row t k).turn) (exited p) t k (λ r e. e) refl;
        mover = map_free (λ r. own r ≡ own (row t p)) (exited p) t p (λ r e. e) refl;
      }

  -- turn[k] becomes a
  turning : (k a : ℕ) → k < length t → Effect p (turn_written k) a (own (row t p)) t (turn_assigned t k a)
  turning k a lk =
      record {
        acts = λ q. turn_free (λ r. r.act ≡ (row t q).act) t k a q (λ r e. e) refl;
        turns = cell_set (λ r. r.turn) t k (with_turn a (row t k)) lk;
        mover = turn_free (λ r. own r ≡ own (row t p)) t k a p (λ r e. e) refl;
      }

module _ (p : ℕ) (t : Table) (l : p < length t) where
  -- act of p is written, and private variables with it
  acting : (s : Row) → s.turn ≡ (row t p).turn → Effect p (act_written p) s.act (own s) t (set t p s)
  acting s h =
      record {
        acts = cell_set (λ r. r.act) t p s l;
        turns = cell_kept (λ r. r.turn) t p s l h;
        mover = ap own (row_same t p s l);
      }

  -- private variables are assigned last
  then : {c : SharedCell} {x : ℕ} {o : Row} {v : Table} (f : Row → Row)
      → Private f
      → length v ≡ length t
      → Effect p c x o t v
      → Effect p c x (own (f o)) t (assigned v p f)
  then {v = v} f h n e =
      let s = f (row v p) in
      let lv : p < length v = omega (arith, n) in
      record {
        acts = λ q. cell_kept (λ r. r.act) v p s lv (ap (λ (r : Row). r.act) (h (row v p))) q ∙ e.acts q;
        turns = λ k. cell_kept (λ r. r.turn) v p s lv (ap (λ (r : Row). r.turn) (h (row v p))) k ∙ e.turns k;
        mover = ap own (row_same v p s lv) ∙ ap own (h (row v p)) ∙ ap (λ (r : Row). own (f r)) e.mover;
      }

-- ---- the same alternative from another table

-- the word w of p does to u what it does to t: by the same cell, with the same value where it writes, and p is left
-- with the same private variables
pub record Same (t u : Table) (p w : ℕ) : Type 0 where
  pub accepted_too : refusal_of u w ≡ 0
  pub cell_same : cell_of u w ≡ cell_of t w
  pub value : ℕ
  pub left : Row
  pub here : Effect p (cell_of t w) value left t (after_word t w)
  pub there : Effect p (cell_of t w) value left u (after_word u w)

-- u, in which the private variables of p are those that it has in t
module _ (t u : Table) (p : ℕ) (st : sound t ≡ true) (su : sound u ≡ true) (n : length u ≡ length t) (l : p < length t)
    (same : own (row u p) ≡ own (row t p))
  where
    abbrev lu : p < length u
    lu = omega (arith, n)

    low : (row t p).level < length t
    low = (sound-row t (sound-accepted t st) p l).level_low

    lowu : (row u p).level < length u
    lowu = (sound-row u (sound-accepted u su) p lu).level_low

    -- the word of the step x, where t accepts it and u does not refuse it with 15, does the same from u
    record Follows {v : Table} (x : Step t p v) : Type 0 where
      same_effect : refusal_of t (step_word p x) ≡ 0 → (refusal_of u (step_word p x) ≡ 15 → ⊥) → Same t u p (step_word p x)

    -- by a step y of u that has this word
    follows : {v v' : Table} {x : Step t p v} {a : ℕ} {o o' : Row} (y : Step u p v')
        → step_word p y ≡ step_word p x
        → step_cell p y ≡ step_cell p x
        → o' ≡ o
        → Effect p (step_cell p x) a o t v
        → Effect p (step_cell p y) a o' u v'
        → Follows x
    follows {v} {v'} {x} {a} {o} {o'} y w c i e f =
        record {
          same_effect =
              λ z nf.
              let wx = unless_full x (one_word t v p st l x) (λ h. absurd (omega (arith, z, h))) in
              let wy = unless_full y (one_word u v' p su lu y) (λ h. nf (sym (ap (refusal_of u) w) ∙ h)) in
              let cx = step_cell_lem t p st l x wx.1 in
              let cy = step_cell_lem u p su lu y wy.1 in
              record {
                accepted_too = rw (← w) wy.1;
                cell_same = rw (← w) cy ∙ c ∙ sym cx;
                value = a;
                left = o;
                here = rw (cx, wx.2) e;
                there = rw (cx, ← w, wy.2, ← c, ← i) f;
              };
        }

    -- private variables alone
    moves : (f : Row → Row)
        → Private f
        → {x : Step t p (assigned t p f)} (y : Step u p (assigned u p f))
        → step_word p y ≡ step_word p x
        → step_cell p y ≡ step_cell p x
        → is_written (step_cell p x) ≡ false
        → Follows x
    moves f h y w c i =
        follows y w c (ap (λ (r : Row). own (f r)) same)
        (then p t l f h refl (nothing p t _ i))
        (then p u lu f h refl (nothing p u _ (ap is_written c ∙ i)))

    -- a guard that looks at private variables
    guard : (G : Row → Type 0) → G (own (row t p)) → G (own (row u p))
    guard G h = subst G (sym same) h

    at : {v : ℕ} → (row t p).location ≡ v → (row u p).location ≡ v
    at {v} e = guard (λ r. r.location ≡ v) e

    level_same : (row u p).level ≡ (row t p).level
    level_same = ap (λ (r : Row). r.level) same

    -- turn[level], where it is read
    asked : ((k : ℕ) → turn_read (row t p).level ≡ turn_read k → (row u k).turn ≡ (row t k).turn)
        → (row u (row u p).level).turn ≡ (row t (row t p).level).turn
    asked b = ap (λ (k : ℕ). (row u k).turn) level_same ∙ b (row t p).level refl

    abbrev pushing : ℕ → ℕ → Row → Row
    pushing k c r = with_location 21 (with_ahead (without c p) (with_est (others k p) (with_bb 1 r)))

    follow : {v : Table} (x : Step t p v)
        → ((q : ℕ) → step_cell p x ≡ act_read q → (row u q).act ≡ (row t q).act)
        → ((k : ℕ) → step_cell p x ≡ turn_read k → (row u k).turn ≡ (row t k).turn)
        → Follows x
    follow (rests e) a b = follows (rests (at e)) refl refl same (nothing p t no_cell refl) (nothing p u no_cell refl)
    follow (comes e) a b = moves (with_location 20) (λ r. refl) (comes (at e)) refl refl refl
    follow (flickers_20 v e h) a b =
        follows (flickers_20 v (at e) h) refl refl same (acting p t l _ refl) (acting p u lu _ refl)
    follow (enters e) a b =
        follows (enters (at e)) refl refl
        (ap₂ (λ (k : ℕ) (r : Row). with_location 21 (with_est (others k p) (with_level (k - 1) r))) n same)
        (acting p t l _ refl) (acting p u lu _ refl)
    follow (starts_scan e h) a b =
        moves (λ r. with_location 22 (with_lis r.est r)) (λ r. refl)
        (starts_scan (at e) (guard (λ r. 0 < r.level) h)) refl refl refl
    follow (wins e h) a b = moves (with_location 30) (λ r. refl) (wins (at e) (level_same ∙ h)) refl refl refl
    follow (discards q e h v) a b =
        moves (λ r. with_est (without r.est q) (with_lis (without r.lis q) r)) (λ r. refl)
        (discards q (at e) (guard (λ r. has r.lis q ≡ true) h) (a q refl ∙ v)) refl refl refl
    follow (keeps q e h v) a b =
        moves (λ r. with_lis (without r.lis q) r) (λ r. refl)
        (keeps q (at e) (guard (λ r. has r.lis q ≡ true) h) (λ z. v (sym (a q refl) ∙ z))) refl refl refl
    follow (ends_scan e h) a b =
        moves (with_location 23) (λ r. refl) (ends_scan (at e) (guard (λ r. r.lis ≡ 0) h)) refl refl refl
    follow (lowers e h) a b =
        moves (λ r. with_location 21 (with_bb 0 (with_level (size r.est) r))) (λ r. refl)
        (lowers (at e) (guard (λ r. size r.est < r.level) h)) refl refl refl
    follow (to_push e h i) a b =
        moves (with_location 24) (λ r. refl)
        (to_push (at e) (guard (λ r. r.level ≤ size r.est) h) (guard (λ r. r.bb ≡ 0) i)) refl refl refl
    follow (waits e h i v) a b =
        moves (λ r. with_location 21 (with_bb 0 (with_level (r.level - 1) r))) (λ r. refl)
        (waits (at e) (guard (λ r. r.level ≤ size r.est) h) (guard (λ r. r.bb ≢ 0) i) (λ z. v (sym (asked b) ∙ z)))
        refl (ap turn_read level_same) refl
    follow (skips e h i v) a b =
        moves (with_location 21) (λ r. refl)
        (skips (at e) (guard (λ r. r.level ≤ size r.est) h) (guard (λ r. r.bb ≢ 0) i) (asked b ∙ v))
        refl (ap turn_read level_same) refl
    follow (flickers_24 v e h) a b =
        follows (flickers_24 v (at e) (subst (λ (k : ℕ). v < k) (sym n) h)) refl (ap turn_written level_same) same
        (turning p t _ v low)
        (turning p u _ v lowu)
    follow (pushes e) a b =
        follows (pushes (at e)) refl (ap turn_written level_same)
        (ap₂ (λ (k : ℕ) (r : Row). with_location 21 (with_est (others k p) (with_bb 1 r))) n same)
        (then p t l (pushing (length t) (Cp t)) (λ r. refl) (simp length-set) (turning p t _ p low))
        (then p u lu (pushing (length u) (Cp u)) (λ r. refl) (simp length-set) (turning p u _ p lowu))
    follow (exits e) a b =
        follows (exits (at e)) refl refl (ap (with_location 40) same)
        (then p t l (with_location 40) (λ r. refl) (simp length-map) (forgotten p t))
        (then p u lu (with_location 40) (λ r. refl) (simp length-map) (forgotten p u))
    follow (flickers_40 v e h) a b =
        follows (flickers_40 v (at e) h) refl refl same (acting p t l _ refl) (acting p u lu _ refl)
    follow (leaves e) a b =
        follows (leaves (at e)) refl refl (ap (with_location 10) same) (acting p t l _ refl) (acting p u lu _ refl)
    follow (cancels e) a b = moves (with_location 40) (λ r. refl) (cancels (at e)) refl refl refl

-- ---- words

-- an accepted word does the same from a sound table in which its process has the same private variables, and the cell
-- that it reads the same value
pub word_follows : (t u : Table) (w : ℕ)
    → sound u ≡ true
    → refusal_of t w ≡ 0
    → length u ≡ length t
    → own (row u (process_of w)) ≡ own (row t (process_of w))
    → ((q : ℕ) → cell_of t w ≡ act_read q → (row u q).act ≡ (row t q).act)
    → ((k : ℕ) → cell_of t w ≡ turn_read k → (row u k).turn ≡ (row t k).turn)
    → (refusal_of u w ≡ 15 → ⊥)
    → Same t u (process_of w) w
word_follows t u w su z n same a b nf =
    let p = process_of w in
    let st = accepted-sound t (accepted_table t w z) in
    let l = accepted_process t w z in
    let x = word_step t w z in
    let ok : refusal_of t (step_word p x.0) ≡ 0 = ap (refusal_of t) x.1 ∙ z in
    let c : cell_of t w ≡ step_cell p x.0 = ap (cell_of t) (sym x.1) ∙ step_cell_lem t p st l x.0 ok in
    subst (Same t u p) x.1
    ((follow t u p st su n l same x.0 (λ q e. a q (c ∙ e)) (λ k e. b k (c ∙ e))).same_effect ok
    (λ h. nf (sym (ap (refusal_of u) x.1) ∙ h)))

-- every word has an effect; a refused one uses no cell and keeps the table
pub word_effect : (t : Table) (w : ℕ) → (x : ℕ) × (o : Row) × Effect (process_of w) (cell_of t w) x o t (after_word t w)
word_effect t w =
    let p = process_of w in
    by_cases (ℕ_discrete (refusal_of t w) 0)
    (λ z.
    let s = word_follows t t w (accepted-sound t (accepted_table t w z)) z refl refl (λ q e. refl) (λ k e. refl)
    (λ h. absurd (omega (arith, z, h))) in
    (s.value, s.left, s.here))
    (λ ne. (0, own (row t p), rw (refused_cell t w ne, refused_same t w ne) (nothing p t no_cell refl)))
