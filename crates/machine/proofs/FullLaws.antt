-- Which words meet 15, and that none is all that a process has.
--
--   full_go, full_word, word_full    15 is met just by GO at 20 with a count of 65,535 over a process that competes
--   some_word               every process of a sound table has a word that is accepted
--
-- Assumes nothing.
use Prim.Native.Nat.{ℕ, ◌+◌, ◌≤◌, ◌<◌}
use mathlib.Core.Path.{◌≡◌, refl, sym, ap, ap₂, ◌∙◌, subst}
use mathlib.Core.Bool.{Bool, true, false, cond, not, false≢true, and-eq-true_iff}
use mathlib.Core.Logic.{◌≢◌, by_cases}
use native.Mathlib.Decide.{ℕ_discrete, dec_lt}
use native.Mathlib.Omega.{arith}
use lib.Dec.{eqb, leb, ltb}
use lib.ListN.{length, get_or}
use borrow.Author.Tests.{eqb-true, ltb-true, leb-false}
use Rattle.counting.specs.Sums.{bit}
use Rattle.counting.specs.Sets.{has}
use Rattle.counting.proofs.SetLaws.{set_of_lt, has-set_of, member_below}
use Rattle.counting.proofs.RangeLaws.{every_fails}
use Rattle.counting.proofs.TestLaws.{split}
use Rattle.machine.specs.Refusals.{accepted, passes_full}
use Rattle.machine.specs.Rows.{with_location}
use Rattle.machine.specs.Tables.{Table, row, count_limit, size_fits, sound_from, sound, table_refusal, competes}
use Rattle.machine.specs.Tables.{competitors}
use Rattle.machine.specs.Words.{GO, kind_of, process_of, argument_of, formed, word_of}
use Rattle.machine.specs.Steps.{count_after, raisable, allowed, argument_fits, overflows, refusal_at, word_refusal}
use Rattle.machine.specs.Steps.{refusal_of}
use Rattle.machine.specs.Rounds.{round_word}
use Rattle.machine.specs.System.{Step, step_word}
use Rattle.machine.specs.declared.Row.{Row}
use Rattle.machine.proofs.TableLaws.{row_over, row_same}
use Rattle.machine.proofs.PassLaws.{raisable_at}
use Rattle.machine.proofs.SoundRows.{sound-row, sound_few, sound-accepted, accepted-sound}
use Rattle.machine.proofs.WordLaws.{formed_is}
use Rattle.machine.proofs.OneWord.{full_refused, one_room}
use Rattle.machine.proofs.RoundLaws.{round_word_accepted, round_word_process}

-- ---- what 15 says

-- a test that does not refuse with 15
passed_test : (b : Bool) (why x : ℕ) → cond (not b) why x ≡ 15 → why ≢ 15 → (b ≡ true) × (x ≡ 15)
passed_test true why x e ne = (refl, e)
passed_test false why x e ne = absurd (ne e)

table_not_full : (t : Table) → table_refusal t ≢ 15
unfolding table_refusal
table_not_full t e =
    let a = passed_test (size_fits (length t)) 6 _ e (omega arith) in
    let b = passed_test (sound_from (length t) 0 t) 7 0 a.1 (omega arith) in
    absurd (omega (arith, b.1))

-- what a word that meets 15 says
record Full (t : Table) (w : ℕ) : Type 0 where
  table_sound : table_refusal t ≡ 0
  formed_so : formed w ≡ true
  process_in : process_of w < length t
  argument_fits_lem : argument_fits (length t) (kind_of w) (row t (process_of w)) (argument_of w) ≡ true
  overflows_so : overflows t (kind_of w) (process_of w) ≡ true

full_both : (t : Table) (w : ℕ) → refusal_of t w ≡ 15 → (table_refusal t ≡ 0) × (word_refusal t w ≡ 15)
unfolding refusal_of
full_both t w h = go (eqb (table_refusal t) 0) refl h
  where
    go : (b : Bool)
        → eqb (table_refusal t) 0 ≡ b
        → cond b (word_refusal t w) (table_refusal t) ≡ 15
        → (table_refusal t ≡ 0) × (word_refusal t w ≡ 15)
    go true i e = (eqb-true _ _ i, e)
    go false i e = absurd (table_not_full t e)

full_says : (t : Table) (w : ℕ) → refusal_of t w ≡ 15 → Full t w
unfolding word_refusal
full_says t w h =
    let z = full_both t w h in
    let a = passed_test (formed w) 8 _ z.1 (omega arith) in
    let k = kind_of w in
    let p = process_of w in
    let b = passed_test (ltb p (length t)) 9 (refusal_at t k p (argument_of w)) a.1 (omega arith) in
    let c = passed_test (allowed k (row t p)) 10 _ b.1 (omega arith) in
    let d = passed_test (argument_fits (length t) k (row t p) (argument_of w)) 11 _ c.1 (omega arith) in
    record {
      table_sound = z.0;
      formed_so = a.0;
      process_in = ltb-true _ _ b.0;
      argument_fits_lem = d.0;
      overflows_so = over (overflows t (kind_of w) (process_of w)) d.1;
    }
  where
    over : (b : Bool) → cond b passes_full accepted ≡ 15 → b ≡ true
    over true e = refl
    over false e = absurd (omega arith)

pub full_go : (t : Table) (w : ℕ) → refusal_of t w ≡ 15 → (kind_of w ≡ GO) × ((row t (process_of w)).location ≡ 20)
unfolding overflows
full_go t w h =
    let both = (and-eq-true_iff (eqb (kind_of w) GO) _).0 (full_says t w h).overflows_so in
    let there = (and-eq-true_iff (eqb (row t (process_of w)).location 20) _).0 both.1 in
    (eqb-true _ _ both.0, eqb-true _ _ there.0)

-- a process of the set of competitors competes
competes_so : (t : Table) (q : ℕ) → has (competitors t) q ≡ true → competes (row t q) ≡ true
unfolding competitors
competes_so t q h =
    let P : ℕ → Bool = λ x. competes (row t x) in
    sym (has-set_of P (length t) q (member_below _ (length t) q (set_of_lt P (length t)) h)) ∙ h

among : (t : Table) (q : ℕ) → competes (row t q) ≡ true → has (competitors t) q ≡ true
unfolding competitors
among t q h = go (dec_lt q (length t))
  where
    go : Dec (q < length t) → has (competitors t) q ≡ true
    go (yes l) = has-set_of (λ x. competes (row t x)) (length t) q l ∙ h
    go (no nl) =
        absurd (false≢true (sym (ap competes (row_over t q (omega (arith, nl)))) ∙ h))

-- a count that has no room
full_count : (t : Table) (p : ℕ)
    → table_refusal t ≡ 0
    → p < length t
    → raisable (competitors t) (row t p).passes ≡ false
    → (q : ℕ) × (competes (row t q) ≡ true) × (get_or (row t p).passes q 0 ≡ 65535)
unfolding raisable
full_count t p z l h =
    let c = competitors t in
    let a = (row t p).passes in
    let (q, k, f) = every_fails (λ i. leb (count_after c a i) count_limit) 16 h in
    let low = (sound-row t z p l).passes_fit.low q in
    let over = leb-false (count_after c a q) count_limit f in
    let member : has c q ≡ true =
    split (λ b. b ≡ true) (has c q) (λ e. refl)
    (λ e. absurd (omega (arith, ap (λ (b : Bool). get_or a q 0 + bit b) e, over, low))) in
    (q, competes_so t q member, omega (arith, ap (λ (b : Bool). get_or a q 0 + bit b) member, over, low))

pub full_word : (t : Table) (w : ℕ)
    → refusal_of t w ≡ 15
    → (sound t ≡ true)
    × (w ≡ word_of GO (process_of w) 0)
    × ((row t (process_of w)).location ≡ 20)
    × (q : ℕ) × (competes (row t q) ≡ true) × (get_or (row t (process_of w)).passes q 0 ≡ 65535)
unfolding overflows argument_fits
full_word t w h =
    let s = full_says t w h in
    let p = process_of w in
    let both = (and-eq-true_iff (eqb (kind_of w) GO) _).0 s.overflows_so in
    let kind = (full_go t w h).0 in
    let there = (and-eq-true_iff (eqb (row t p).location 20) _).0 both.1 in
    let none : argument_of w ≡ 0 =
    eqb-true _ _
    (subst (λ (k : ℕ). argument_fits (length t) k (row t p) (argument_of w) ≡ true) kind s.argument_fits_lem) in
    let full = full_count t p s.table_sound s.process_in (not-true _ there.1) in (
      accepted-sound t s.table_sound,
      sym (formed_is w s.formed_so) ∙ ap₂ (λ (k a : ℕ). word_of k p a) kind none,
      (full_go t w h).1,
      full.0,
      full.1,
      full.2,
    )
  where
    not-true : (b : Bool) → not b ≡ true → b ≡ false
    not-true true e = sym e
    not-true false e = refl

pub word_full : (t : Table) (p q : ℕ)
    → sound t ≡ true
    → p < length t
    → (row t p).location ≡ 20
    → competes (row t q) ≡ true
    → get_or (row t p).passes q 0 ≡ 65535
    → refusal_of t (word_of GO p 0) ≡ 15
unfolding competitors
word_full t p q h l e c k =
    let z = sound-accepted t h in
    let few = sound_few t z in
    (full_refused t p z l e
    (split (λ b. b ≡ false) (raisable (competitors t) (row t p).passes)
    (λ r.
    absurd
    (omega (
      arith,
      raisable_at (competitors t) (row t p).passes r q (below few (among t q c)),
      ap (λ (b : Bool). get_or (row t p).passes q 0 + bit b) (among t q c),
      k,
    )))
    (λ r. refl))).1
  where
    below : length t ≤ 16 → has (competitors t) q ≡ true → q < 16
    below few m = omega (arith, few, member_below _ (length t) q (set_of_lt (λ x. competes (row t x)) (length t)) m)

-- ---- a word that is accepted

pub some_word : (t : Table) (p : ℕ) → sound t ≡ true → p < length t
    → (w : ℕ) × (process_of w ≡ p) × (refusal_of t w ≡ 0)
some_word t p h l =
    let z = sound-accepted t h in
    by_cases (ℕ_discrete (row t p).location 20)
    (λ e.
    let x = Step.cancels e in
    let o = one_room t _ p z l x
    (λ i f. absurd (omega (arith, f, ap (λ (r : Row). r.location) (row_same t p (with_location 40 (row t p)) l)))) in
    (step_word p x, o.0, o.1))
    (λ ne. (round_word t p, round_word_process t p z l, round_word_accepted t p z l ne))
