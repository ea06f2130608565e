-- Laws of what the code computes of counts of passes.
--
--   joining           a loop that joins numbers finds whether all are 0, and so whether there is room
--   raising           counts with a bit of the set added are `raised`
--   passes_sound      the tests of a row's counts are `sound_passes`
--   own_first         sound counts have none over their own process
--   clear_none, clear_joined  none is past n among zeros; among joined counts where none is among both
--
-- Assumes nothing.
use Prim.Native.Nat.{ℕ, zero, suc, ◌+◌, ◌-◌, ◌*◌, ◌/◌, ◌%◌, ◌^◌, ◌≤◌, ◌<◌}
use mathlib.Core.Path.{◌≡◌, refl, sym, ap, ap₂, ◌∙◌}
use mathlib.Core.Bool.{Bool, true, false, ◌&&◌, and-false, and-eq-true_iff}
use mathlib.Core.List.{List}
use native.Mathlib.Decide.{ℕ_discrete, dec_lt, dec_le}
use native.Mathlib.Numerals.{add-one}
use native.Mathlib.Omega.{arith}
use lib.Bits.{bit_or}
use lib.Dec.{eqb, leb, ltb}
use lib.ListN.{length, get_or, replicate, get_or-replicate, get_or-eq_default}
use borrow.Author.Tests.{eqb-true, ltb-true, eq-eqb, ne_eqb, le-leb, lt-leb, lt-ltb}
use Rattle.counting.specs.Sums.{bit}
use Rattle.counting.specs.Sets.{has}
use Rattle.counting.specs.Ranges.{every}
use Rattle.counting.proofs.TestLaws.{same_test}
use Rattle.counting.proofs.RangeLaws.{up_to_cong, up_to_all, every_at, every_all, every_cong}
use Rattle.machine.specs.Tables.{count_limit, sound_passes}
use Rattle.machine.specs.Steps.{count_after, raised, raisable}
use Rattle.machine.proofs.PassLaws.{SoundPasses, passes_facts, passes_true}
use Rattle.rows.specs.Passes.{past_at, clear_past, Clear, Joined}
use Rattle.rows.proofs.SoundLaws.{or_ltb}

pub times_zero : (v : ℕ) → v * 0 ≡ 0
times_zero v = omega arith

times_one : (v : ℕ) → v * 1 ≡ v
times_one v = omega arith

-- ---- numbers joined by a loop

module _ (f : ℕ → ℕ) where
  -- whether the first i are 0
  abbrev pub none_of : ℕ → Bool
  none_of i = every (λ j. ltb (f j) 1) i

  pub none_yet : ltb 0 1 ≡ none_of 0
  unfolding every
  none_yet = refl

  pub one_more : (any w i : ℕ) → w ≡ f i → ltb any 1 ≡ none_of i → ltb (bit_or any w) 1 ≡ none_of (i + 1)
  unfolding every
  one_more any w i e h =
      or_ltb 0 any w
      ∙ ap₂ (λ (a b : Bool). a && b) h (ap (λ (x : ℕ). ltb x 1) e)
      ∙ ap none_of (sym (add-one i))

-- whether i is at least n, by arithmetic
pub reaches : (i n : ℕ) → n ≤ 16 → i < 16 → (i + 16 - n) / 16 ≡ bit (leb n i)
reaches i n few l = go (dec_le n i)
  where
    go : Dec (n ≤ i) → (i + 16 - n) / 16 ≡ bit (leb n i)
    go (yes h) = omega arith ∙ ap bit (sym (le-leb n i h))
    go (no h) = omega (arith, h) ∙ ap bit (sym (lt-leb n i (omega (arith, h))))

-- ---- room for one more

-- 1 where the count is at its limit and its process is in the set c
abbrev pub full_at : ℕ → List ℕ → ℕ → ℕ
full_at c a i = get_or a i 0 / 65535 * (c / 2 ^ i % 2)

pub digit : (c i : ℕ) → c / 2 ^ i % 2 ≡ bit (has c i)
unfolding has
digit c i = go (ℕ_discrete (c / 2 ^ i % 2) 1)
  where
    go : Dec (c / 2 ^ i % 2 ≡ 1) → c / 2 ^ i % 2 ≡ bit (eqb (c / 2 ^ i % 2) 1)
    go (yes e) = e ∙ ap bit (sym (eq-eqb _ _ e))
    go (no ne) = omega (arith, ne) ∙ ap bit (sym (ne_eqb _ _ ne))

room_at : (v : ℕ) (b : Bool) → v ≤ 65535 → ltb (v / 65535 * bit b) 1 ≡ leb (v + bit b) 65535
room_at v false h = ap (λ (x : ℕ). ltb x 1) (times_zero (v / 65535)) ∙ sym (le-leb (v + 0) 65535 (omega arith))
room_at v true h = go (ℕ_discrete v 65535)
  where
    go : Dec (v ≡ 65535) → ltb (v / 65535 * 1) 1 ≡ leb (v + 1) 65535
    go (yes e) = rw e refl
    go (no ne) =
        let z : v / 65535 * 1 ≡ 0 = omega (arith, ne) in
        ap (λ (x : ℕ). ltb x 1) z ∙ sym (le-leb (v + 1) 65535 (omega (arith, ne)))

pub raisable_by : (c : ℕ) (a : List ℕ) (b : Bool)
    → ((i : ℕ) → i < 16 → get_or a i 0 ≤ 65535)
    → b ≡ none_of (full_at c a) 16
    → b ≡ raisable c a
unfolding raisable
raisable_by c a b low e =
    e
    ∙ every_cong (λ i. ltb (full_at c a i) 1) (λ i. leb (count_after c a i) count_limit) 16
    (λ i l.
    ap (λ (d : ℕ). ltb (get_or a i 0 / 65535 * d) 1) (digit c i) ∙ room_at (get_or a i 0) (has c i) (low i l))

pub ruleset joining = (none_yet, one_more, reaches, raisable_by)

-- ---- one more over each process in a set

pub raised_by : (c : ℕ) (a b : List ℕ)
    → length b ≡ 16
    → ((i : ℕ) → i < 16 → get_or b i 0 ≡ get_or a i 0 + c / 2 ^ i % 2)
    → b ≡ raised c a
unfolding raised
raised_by c a b e h =
    sym (up_to_all b 16 e)
    ∙ up_to_cong (λ i. get_or b i 0) (count_after c a) 16
    (λ i l. h i l ∙ ap (λ (d : ℕ). get_or a i 0 + d) (digit c i))

pub ruleset raising = (digit, raised_by)

-- ---- counts in range

pub passes_sound : (n q : ℕ) (a : List ℕ) (b : Bool)
    → Clear n a b
    → (eqb (get_or a q 0) 0 && b) ≡ sound_passes n q a
passes_sound n q a b c =
    same_test (eqb (get_or a q 0) 0 && b) (sound_passes n q a)
    (λ h. passes_true n q a (facts ((and-eq-true_iff (eqb (get_or a q 0) 0) b).0 h)))
    (λ h.
    let s = passes_facts n q a h in
    (and-eq-true_iff (eqb (get_or a q 0) 0) b).1 (
      eq-eqb _ _ s.own_none,
      c.told ∙ every_all (λ i. ltb (past_at n a i) 1) 16 (λ i l. none i (s.rest_none i)),
    ))
  where
    none : (i : ℕ) → (n ≤ i → get_or a i 0 ≡ 0) → ltb (past_at n a i) 1 ≡ true
    none i z = go (dec_le n i)
      where
        go : Dec (n ≤ i) → ltb (past_at n a i) 1 ≡ true
        go (yes l) = lt-ltb (past_at n a i) 1 (omega (arith, ap (λ (v : ℕ). v * bit (leb n i)) (z l)))
        go (no l) =
            lt-ltb (past_at n a i) 1
            (omega (
              arith,
              ap (λ (x : Bool). get_or a i 0 * bit x) (lt-leb n i (omega (arith, l))),
              times_zero (get_or a i 0),
            ))

    facts : (eqb (get_or a q 0) 0 ≡ true) × (b ≡ true) → SoundPasses n q a
    facts (own, rest) =
        record {
          sixteen = c.sixteen;
          low = λ i. low i (dec_lt i 16);
          own_none = eqb-true _ _ own;
          rest_none = λ i l. past i l (dec_lt i 16);
        }
      where
        low : (i : ℕ) → Dec (i < 16) → get_or a i 0 ≤ 65535
        low i (yes l) = c.low i l
        low i (no l) = omega (arith, get_or-eq_default a 0 {n = i} (omega (arith, c.sixteen, l)))

        past : (i : ℕ) → n ≤ i → Dec (i < 16) → get_or a i 0 ≡ 0
        past i l (no k) = get_or-eq_default a 0 (omega (arith, c.sixteen, k))
        past i l (yes k) =
            let t = ltb-true (past_at n a i) 1 (every_at (λ j. ltb (past_at n a j) 1) 16 (sym c.told ∙ rest) i k) in
            let one = ap (λ (x : Bool). get_or a i 0 * bit x) (le-leb n i l) in
            omega (arith, t, one)

-- sound counts have none over their own process
pub own_first : (n q : ℕ) (a : List ℕ) → (eqb (get_or a q 0) 0 && sound_passes n q a) ≡ sound_passes n q a
own_first n q a = go (sound_passes n q a) refl
  where
    go : (s : Bool) → sound_passes n q a ≡ s → (eqb (get_or a q 0) 0 && s) ≡ s
    go true h = rw (eq-eqb _ _ (passes_facts n q a h).own_none) refl
    go false h = and-false (eqb (get_or a q 0) 0)

-- ---- counts of several rows joined

abbrev pub joined_at : List ℕ → List ℕ → ℕ → ℕ
joined_at a b i = bit_or (get_or a i 0) (get_or b i 0)

past_joined : (x y : ℕ) (on : Bool) → ltb (bit_or x y * bit on) 1 ≡ (ltb (x * bit on) 1 && ltb (y * bit on) 1)
past_joined x y false = rw (times_zero (bit_or x y), times_zero x, times_zero y) refl
past_joined x y true = rw (times_one (bit_or x y), times_one x, times_one y) (or_ltb 0 x y)

every_both : (P Q : ℕ → Bool) (n : ℕ) → every (λ i. P i && Q i) n ≡ (every P n && every Q n)
unfolding every
every_both P Q zero = refl
every_both P Q (suc n) =
    ap (λ (b : Bool). b && (P n && Q n)) (every_both P Q n) ∙ swap (every P n) (every Q n) (P n) (Q n)
  where
    swap : (a b c d : Bool) → ((a && b) && (c && d)) ≡ ((a && c) && (b && d))
    swap true true c d = refl
    swap true false true d = refl
    swap true false false d = refl
    swap false b c d = refl

pub clear_none : (n : ℕ) → clear_past n (replicate 16 0) ≡ true
clear_none n = every_all (λ i. ltb (past_at n (replicate 16 0) i) 1) 16 (λ i l. none i l)
  where
    none : (i : ℕ) → i < 16 → ltb (past_at n (replicate 16 0) i) 1 ≡ true
    none i l =
        ap (λ (v : ℕ). ltb (v * bit (leb n i)) 1) (get_or-replicate 16 i 0 0 l)
        ∙ lt-ltb (0 * bit (leb n i)) 1 (omega arith)

pub clear_joined : (n : ℕ) {a b c : List ℕ} → Joined a b c → clear_past n c ≡ (clear_past n a && clear_past n b)
clear_joined n {a} {b} {c} j =
    every_cong (λ i. ltb (past_at n c i) 1) (λ i. ltb (past_at n a i) 1 && ltb (past_at n b i) 1) 16
    (λ i l.
    ap (λ (v : ℕ). ltb (v * bit (leb n i)) 1) (j.at i l) ∙ past_joined (get_or a i 0) (get_or b i 0) (leb n i))
    ∙ every_both (λ i. ltb (past_at n a i) 1) (λ i. ltb (past_at n b i) 1) 16
