-- A round of a front: one move less is due to everybody in it, or the front goes down to the level below.
--
--   Next n l c j d        <=>  after c moves due on level l come d on level j: one less on the same level; or, after
--                              one, all of them on the level below.
--   During n l c j d p t  <=>  the processes below p have made their move of such a round, the others have not.
--   front_round                a round makes the next front of a front
--
-- In the round that begins with n + 3 moves due everybody in the front pushes, l last, and nobody reads turn[l].
-- Assumes nothing.
use Prim.Native.Nat.{ℕ, suc, ◌+◌, ◌^◌, ◌≤◌, ◌<◌}
use mathlib.Core.Path.{◌≡◌, refl, sym, ap, ◌∙◌, subst}
use native.Mathlib.Decide.{ℕ_discrete, dec_le, dec_lt}
use native.Mathlib.Omega.{arith}
use lib.ListN.{length, set, length-set}
use Rattle.counting.proofs.SizeLaws.{size_le}
use Rattle.machine.specs.Rows.{with_turn}
use Rattle.machine.specs.Tables.{Table, row, table_refusal}
use Rattle.machine.specs.Rounds.{round}
use Rattle.machine.specs.System.{assigned, turn_assigned}
use Rattle.machine.specs.declared.Row.{Row}
use Rattle.machine.proofs.TableLaws.{turn_free}
use Rattle.machine.proofs.SoundRows.{sound-row, sound_few}
use Rattle.machine.proofs.Assignments.{set_keeps_turns, turn_set_is, turn_set_others}
use Rattle.machine.proofs.StepRows.{pushed_row}
use Rattle.machine.proofs.RoundLaws.{Move, round-sound, round-length, by_moves}
use Rattle.silence.proofs.Due.{phase}
use Rattle.silence.proofs.Sweeps.{Swept, swept_none, swept_all, swept_set}
use Rattle.silence.proofs.Front.{FrontRow, Front, front_turn, front_inside, front_unbroken}
use Rattle.silence.proofs.Strides.{Stride, Advances, stride_turn, move_advances}
use Rattle.silence.proofs.Strides.Advances.{strides, push}
use Rattle.silence.proofs.FrontMoves.{high_stride, low_stride, last_stride, low_push, pushed_low, stride_due}

pub data Next (n l c : ℕ) : ℕ → ℕ → Type 0 where
  counts : (d : ℕ) → c ≡ suc d → 1 ≤ d → Next n l c l d
  descends : (j : ℕ) → c ≡ 1 → l ≡ suc j → Next n l c j (phase n)

-- turn[l] is l all the time once everybody has pushed; in the round of the pushes it is so after that of l
record During (n l c j d p : ℕ) (t : Table) : Type 0 where
  rows : Swept (FrontRow n l c) (FrontRow n j d) n p t
  turns : (q : ℕ) → l < q → q < n → (row t q).turn ≡ q
  last_turn : c ≤ n + 3 → (c ≡ n + 3 → l < p) → (row t l).turn ≡ l

-- ---- one move

module _ (n l c : ℕ) where
  next_due : {j d : ℕ} → Next n l c j d → 1 ≤ c
  next_due (counts d e i) = omega arith
  next_due (descends j e i) = omega arith

  -- the row after a stride; v is turn[level]
  next_stride : {j d p v : ℕ} {r s : Row}
      → Next n l c j d
      → FrontRow n l c p r
      → (l < p → v ≡ p)
      → (p ≤ l → c ≡ 1 → v ≡ l)
      → Stride p v r s
      → FrontRow n j d p s
  next_stride {p = p} {v = v} {r = r} {s = s} next f above inside x = go next (dec_le p l)
    where
      go : {j d : ℕ} → Next n l c j d → Dec (p ≤ l) → FrontRow n j d p s
      go (counts d e i) (yes k) = low_stride n l c p r f k d v e i x
      go (descends j e i) (yes k) = last_stride n l c p r f k j v e i (inside k e) x
      go (counts d e i) (no nk) =
          let k : l < p = omega (arith, nk) in high_stride n l c p r f k l d v (omega arith) (above k) x
      go (descends j e i) (no nk) =
          let k : l < p = omega (arith, nk) in high_stride n l c p r f k j (phase n) v (omega arith) (above k) x

  -- the row after a push
  next_push : {j d p : ℕ} {r : Row} (t : Table)
      → Next n l c j d
      → FrontRow n l c p r
      → p ≤ l
      → c ≡ n + 3
      → length t ≡ n
      → n ≤ 16
      → p < n
      → FrontRow n j d p (pushed_row t p r)
  next_push {p = p} {r = r} t (counts d e i) f k z size few m =
      let two : n + 2 ≡ d = omega arith in
      subst (λ (x : ℕ). FrontRow n l x p (pushed_row t p r)) two (pushed_low n l c p r f k t size few m)
  next_push t (descends j e i) f k z size few m = absurd (omega arith)

module _ (n l c j d : ℕ) (some : 1 ≤ l) (next : Next n l c j d) (p : ℕ) (t : Table) (in-n : p < n)
    (size : length t ≡ n) (z : table_refusal t ≡ 0) (h : During n l c j d p t)
  where
    own : FrontRow n l c p (row t p)
    own = (h.rows p in-n).1 (omega arith)

    in_t : p < length t
    in_t = omega arith

    shown : (q : ℕ) → q < length t → (row t q).act ≡ 0 → ⊥
    shown q i = go (dec_lt q p)
      where
        go : Dec (q < p) → (row t q).act ≡ 0 → ⊥
        go (yes k) = ((h.rows q (omega arith)).0 k).act_shown
        go (no nk) = ((h.rows q (omega arith)).1 (omega (arith, nk))).act_shown

    high : Dec (p ≤ l) → 0 < (row t p).level
    high (yes k) = omega (arith, (own.low k).level_is)
    high (no nk) = let k : l < p = omega (arith, nk) in omega (arith, (own.high k).level_is)

    strode : (s : Row) → Stride p (row t (row t p).level).turn (row t p) s → During n l c j d (suc p) (set t p s)
    strode s x =
        let kept = set_keeps_turns t p in_t s (stride_turn x) in
        record {
          rows =
              swept_set (FrontRow n l c) (FrontRow n j d) n t p s in_t h.rows
              (next_stride n l c next own
              (λ k. ap (λ (y : ℕ). (row t y).turn) (own.high k).level_is ∙ h.turns p k in-n)
              (λ k e.
              ap (λ (y : ℕ). (row t y).turn) (own.low k).level_is
              ∙ h.last_turn (omega arith) (λ g. absurd (omega arith)))
              x);
          turns = λ q i k. kept q ∙ h.turns q i k;
          last_turn = λ i k. kept l ∙ h.last_turn i (λ e. before e (k e) (dec_le p l));
        }
      where
        -- in the round of the pushes a stride is none of l
        before : c ≡ n + 3 → l < suc p → Dec (p ≤ l) → l < p
        before e k (yes i) =
            let few : n ≤ 16 = omega (arith, sound_few t z) in
            let fits = subst (λ (m : ℕ). (row t p).lis < 2 ^ m) size (sound-row t z p in_t).lis_low in
            absurd (stride_due n l c p (row t p) own i _ (size_le (row t p).lis n fits few) x e)
        before e k (no ni) = omega (arith, ni)

    pushed : (row t p).location ≡ 24
        → During n l c j d (suc p) (assigned (turn_assigned t (row t p).level p) p (pushed_row t p))
    pushed e =
        let few : n ≤ 16 = omega (arith, sound_few t z) in
        let at-l = (own.low in_front).level_is in
        let k : ℕ = (row t p).level in
        let low : k < length t = (sound-row t z p in_t).level_low in
        let w = turn_assigned t k p in
        let u = assigned w p (pushed_row t p) in
        let in-w : p < length w = omega (arith, length-set t k (with_turn p (row t k))) in
        let all-due : c ≡ n + 3 = low_push n l c p (row t p) own in_front (next_due n l c next) e in
        let written = turn_set_is t k p low p in_t (pushed_row t p) (λ r. refl) (λ r. refl) in
        let kept = turn_set_others t k p low p in_t (pushed_row t p) (λ r. refl) (λ r. refl) in
        record {
          rows =
              swept_set (FrontRow n l c) (FrontRow n j d) n w p (pushed_row t p (row w p)) in-w
              (λ q i. (λ x. free q ((h.rows q i).0 x), λ x. free q ((h.rows q i).1 x)))
              (next_push n l c t next (free p own) in_front all-due size few in-n);
          turns = λ q i x. kept q (omega arith) ∙ h.turns q i x;
          last_turn = λ i x. ap (λ (y : ℕ). (row u y).turn) (sym at-l) ∙ written ∙ omega (arith, in_front, x all-due);
        }
      where
        in_front : p ≤ l
        in_front = go (dec_le p l)
          where
            go : Dec (p ≤ l) → p ≤ l
            go (yes i) = i
            go (no ni) = absurd (omega (arith, e, (own.high (omega (arith, ni))).to_23))

        free : {i b : ℕ} (q : ℕ)
            → FrontRow n i b q (row t q)
            → FrontRow n i b q (row (turn_assigned t (row t p).level p) q)
        free {i} {b} q = turn_free (FrontRow n i b q) t (row t p).level p q (λ r g. front_turn g p)

    during_advance : {u : Table} → Advances t p u → During n l c j d (suc p) u
    during_advance (strides s x) = strode s x
    during_advance (push e) = pushed e

    during_move : (u : Table) → Move t p u → During n l c j d (suc p) u
    during_move u m =
        let at = front_inside own in
        during_advance (move_advances t p z in_t shown at.0 at.1 (high (dec_le p l)) (own.est_full ∙ sym size) m)

-- ---- one round

pub front_round : (n l c j d : ℕ) (t : Table) → 1 ≤ l → Next n l c j d → Front n l c t → Front n j d (round t)
front_round n l c j d t some next f = go next after
  where
    begun : During n l c j d 0 t
    begun =
        record {
          rows = swept_none (FrontRow n l c) (FrontRow n j d) n t f.rows;
          turns = f.turns;
          last_turn = λ i k. f.last_turn (early k (ℕ_discrete c (n + 3)) i);
        }
      where
        early : (c ≡ n + 3 → l < 0) → Dec (c ≡ n + 3) → c ≤ n + 3 → c ≤ n + 2
        early k (yes e) i = absurd (omega (arith, k e))
        early k (no ne) i = omega (arith, ne)

    after : During n l c j d n (round t)
    after =
        subst (λ (m : ℕ). During n l c j d m (round t)) f.size_is
        (by_moves t (λ p v. During n l c j d p v) f.sound (front_unbroken n l c t f)
        (λ p v u i size z y ok m h.
        during_move n l c j d some next p v (omega (arith, f.size_is)) (size ∙ f.size_is) z h u m)
        begun)

    sound_after : table_refusal (round t) ≡ 0
    sound_after = round-sound t f.sound

    go : {j d : ℕ} → Next n l c j d → During n l c j d n (round t) → Front n j d (round t)
    go (counts d e i) h =
        record {
          sound = sound_after;
          size_is = round-length t ∙ f.size_is;
          level_low = f.level_low;
          rows = swept_all (FrontRow n l c) (FrontRow n l d) n (round t) h.rows;
          turns = h.turns;
          last_turn = λ k. h.last_turn (omega arith) (λ g. f.level_low);
        }
    go (descends j e i) h =
        record {
          sound = sound_after;
          size_is = round-length t ∙ f.size_is;
          level_low = omega (arith, f.level_low);
          rows = swept_all (FrontRow n l c) (FrontRow n j (phase n)) n (round t) h.rows;
          turns = λ q k m. at q k m (ℕ_discrete q l);
          last_turn = λ k. absurd (omega arith);
        }
      where
        at : (q : ℕ) → j < q → q < n → Dec (q ≡ l) → (row (round t) q).turn ≡ q
        at q k m (yes g) =
            subst (λ (x : ℕ). (row (round t) x).turn ≡ x) (sym g) (h.last_turn (omega arith) (λ y. f.level_low))
        at q k m (no ne) = h.turns q (omega (arith, ne)) m
