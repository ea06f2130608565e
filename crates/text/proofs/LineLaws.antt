-- A line number by number, and how long it is. Assumes nothing.
use mathlib.Core.Path.{◌≡◌, refl, ap, ◌∙◌, sym}
use mathlib.Core.Bool.{Bool, true, false, cond}
use mathlib.Core.List.{List, [], ◌∷◌, ◌++◌, append_assoc}
use Prim.Native.Nat.{ℕ, suc, ◌+◌, ◌-◌, ◌^◌, ◌≤◌, ◌<◌}
use native.Mathlib.Omega.{arith}
use lib.Dec.{eqb}
use lib.ListN.{length, get_or, take, drop, length-append}
use lib.Seq.{take_all}
use borrow.Author.Tests.{eq-eqb, ne_eqb}
use Rattle.machine.specs.Shared.{READ, ACT}
use Rattle.machine.specs.Text.{decimal, spaced, line, cell_text}
use Rattle.machine.specs.declared.SharedCell.{SharedCell}
use Rattle.text.specs.declared.lines.TakenWord.{TakenWord}
use Rattle.text.specs.Fields.{field}
use Rattle.text.specs.Lines.{taken_line}
use Rattle.text.proofs.DigitLaws.{length_digits}

-- ---- a shared cell

module _ (c : SharedCell) where
  -- two letters and the index
  abbrev pub lettered : List ℕ
  lettered = cond (eqb c.access READ) 114 119 ∷ cond (eqb c.variable ACT) 97 116 ∷ decimal c.index

  pub cell_none : c.access ≡ 0 → cell_text c ≡ 45 ∷ []
  cell_none z = ap (λ (b : Bool). cond b (45 ∷ []) lettered) (eq-eqb c.access 0 z)

  pub cell_some : (c.access ≡ 0 → ⊥) → cell_text c ≡ lettered
  cell_some ne = ap (λ (b : Bool). cond b (45 ∷ []) lettered) (ne_eqb c.access 0 ne)

-- ---- numbers with a space between two

pub spaced_none : (ns : List ℕ) → length ns < 1 → spaced ns ≡ []
unfolding spaced
spaced_none [] h = refl
spaced_none (n ∷ ns) h = absurd (omega arith)

pub spaced_one : (ns : List ℕ) → 1 ≤ length ns → length ns < 2 → spaced ns ≡ decimal (get_or ns 0 0)
unfolding spaced
spaced_one [] some few = absurd (omega arith)
spaced_one (n ∷ []) some few = refl
spaced_one (n ∷ m ∷ ns) some few = absurd (omega arith)

-- the first, and those after it
pub spaced_more : (ns : List ℕ) → 2 ≤ length ns
    → spaced ns ≡ field (get_or ns 0 0) ++ spaced (take (length ns - 1) (drop 1 ns))
unfolding spaced
spaced_more [] h = absurd (omega arith)
spaced_more (n ∷ []) h = absurd (omega arith)
spaced_more (n ∷ m ∷ ns) h =
    sym (append_assoc (decimal n) (32 ∷ []) (spaced (m ∷ ns)))
    ∙ ap (λ (l : List ℕ). field n ++ spaced l) (sym (take_all (length (n ∷ m ∷ ns) - 1) (m ∷ ns) (omega arith)))

pub length_spaced_more : (ns : List ℕ) → 2 ≤ length ns
    → length (spaced ns) ≡ length (field (get_or ns 0 0)) + length (spaced (take (length ns - 1) (drop 1 ns)))
length_spaced_more ns h =
    ap length (spaced_more ns h)
    ∙ length-append (field (get_or ns 0 0)) (spaced (take (length ns - 1) (drop 1 ns)))

-- ---- how long a line is

-- numbers that take at most m bytes, with a byte after each
pub data Within : List ℕ → ℕ → Type 0 where
  last : {n : ℕ} (k : ℕ) → n < 10 ^ suc k → Within (n ∷ []) (suc (suc k))
  then : {n o m : ℕ} {ns : List ℕ} (k : ℕ) → n < 10 ^ suc k → Within (o ∷ ns) m → Within (n ∷ o ∷ ns) (suc (suc k) + m)

pub length-spaced : {ns : List ℕ} {m : ℕ} → Within ns m → length (spaced ns) < m
unfolding spaced
length-spaced (last {n} k h) = omega (arith, length_digits 20 k n h)
length-spaced (then {n} {o} {ns = ns} k h more) =
    omega (
      arith,
      length_digits 20 k n h,
      length-append (decimal n) (32 ∷ spaced (o ∷ ns)),
      length-spaced more,
    )

pub length-line : (s ns : List ℕ) → length (line s ns) ≡ length s + (length (spaced ns) + 1)
length-line s ns = omega (arith, length-append s (spaced ns ++ (10 ∷ [])), length-append (spaced ns) (10 ∷ []))

pub length_within : (s : List ℕ) {ns : List ℕ} {m : ℕ} → Within ns m → length (line s ns) ≤ length s + m
length_within s {ns} fits = omega (arith, length-line s ns, length-spaced fits)

-- the numbers of a taken word, and its cell
pub length-taken_line : (ns : List ℕ) (c : SharedCell)
    → length (spaced ns ++ (32 ∷ cell_text c ++ (10 ∷ []))) ≡ length (spaced ns) + (length (cell_text c) + 2)
length-taken_line ns c =
    omega (arith, length-append (spaced ns) (32 ∷ cell_text c ++ (10 ∷ [])), length-append (cell_text c) (10 ∷ []))

pub length-cell_text : (c : SharedCell) → c.index < 100 → length (cell_text c) ≤ 4
length-cell_text c low = by (eqb c.access 0) (length_digits 20 1 c.index low)
  where
    by : (none : Bool) → length (decimal c.index) ≤ 2 → length (cond none (45 ∷ []) (lettered c)) ≤ 4
    by true two = omega arith
    by false two = omega arith

-- ---- the line of a taken word, field by field

module _ (w : TakenWord) where
  abbrev rest : List ℕ
  rest = cell_text w.cell ++ (10 ∷ [])

  pub taken_fields : field w.place ++ (field w.process ++ (field w.from ++ (field w.to ++ (field w.inside ++ rest))))
      ≡ taken_line w
  unfolding spaced
  taken_fields = simp append_assoc

  pub length_taken : length (taken_line w)
      ≡ length (field w.place)
      + (length (field w.process)
      + (length (field w.from) + (length (field w.to) + (length (field w.inside) + (length (cell_text w.cell) + 1)))))
  length_taken = ap length (sym taken_fields) ∙ simp length-append
