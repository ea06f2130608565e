-- Headers, of either form.
--
--   Header b n w  <=>  w is the header of n processes, 2 to 16, of a bare image where b is false.
--   full_header, bare_header      a word in the range of either form
--   header_facts, header_known    just where `is_header` says so, and what it says
--
-- Assumes nothing.
use Prim.Native.Nat.{ℕ, ◌+◌, ◌-◌, ◌≤◌}
use mathlib.Core.Path.{◌≡◌, sym, ap, ◌∙◌, subst}
use mathlib.Core.Bool.{Bool, true, false, cond, ◌&&◌, and-eq-true_iff, or-eq-true_iff}
use mathlib.Core.Logic.Or
use mathlib.Core.Logic.{⊎_elim}
use native.Mathlib.Omega.{arith}
use lib.Dec.{leb}
use borrow.Author.Tests.{leb-true, le-leb, lt-leb}
use Rattle.machine.specs.Images.{bare_header_of, header_of, says_passes, size_in, is_header}
use Rattle.counting.proofs.TestLaws.{or_cases}
use Rattle.image_theorems.proofs.Slots.{header_for}

pub record Header (b : Bool) (n w : ℕ) : Type 0 where
  pub header_is : w ≡ header_for b n
  pub some : 2 ≤ n
  pub few : n ≤ 16

-- a word from the header of 2 processes to that of 16
abbrev pub from : ℕ → ℕ → Bool
from a w = leb (a + 2) w && leb w (a + 16)

from_facts : (a w : ℕ) → from a w ≡ true → (a + 2 ≤ w) × (w ≤ a + 16)
from_facts a w h =
    let both = (and-eq-true_iff (leb (a + 2) w) (leb w (a + 16))).0 h in
    (leb-true _ _ both.0, leb-true _ _ both.1)

from_true : (a w : ℕ) → a + 2 ≤ w → w ≤ a + 16 → from a w ≡ true
from_true a w h l = (and-eq-true_iff (leb (a + 2) w) (leb w (a + 16))).1 (le-leb _ _ h, le-leb _ _ l)

pub full_header : (w : ℕ) → from (header_of 0) w ≡ true → Header true (w - header_of 0) w
full_header w h =
    let in-it = from_facts (header_of 0) w h in
    record { header_is = omega (arith, in-it.0); some = omega (arith, in-it.0); few = omega (arith, in-it.1) }

pub bare_header : (w : ℕ) → from (bare_header_of 0) w ≡ true → Header false (w - bare_header_of 0) w
bare_header w h =
    let in-it = from_facts (bare_header_of 0) w h in
    record { header_is = omega (arith, in-it.0); some = omega (arith, in-it.0); few = omega (arith, in-it.1) }

module _ (w : ℕ) where
  -- how many processes a first word names, by whether it says that passes follow
  size_by : Bool → ℕ
  size_by b = cond b (w - header_of 0) (w - bare_header_of 0)

  pub header_facts : is_header w ≡ true → Header (says_passes w) (size_in w) w
  unfolding size_by
  header_facts h = ⊎_elim full bare (or_cases (from (header_of 0) w) (from (bare_header_of 0) w) h)
    where
      full : from (header_of 0) w ≡ true → Header (says_passes w) (size_in w) w
      full e =
          let is : says_passes w ≡ true = le-leb (header_of 0) w (omega (arith, (from_facts (header_of 0) w e).0)) in
          subst (λ (b : Bool). Header b (size_by b) w) (sym is) (full_header w e)

      bare : from (bare_header_of 0) w ≡ true → Header (says_passes w) (size_in w) w
      bare e =
          let is : says_passes w ≡ false =
          lt-leb (header_of 0) w (omega (arith, (from_facts (bare_header_of 0) w e).1)) in
          subst (λ (b : Bool). Header b (size_by b) w) (sym is) (bare_header w e)

  -- a header says what it was made of
  pub header_known : (b : Bool) (n : ℕ) → Header b n w
      → (is_header w ≡ true) × (says_passes w ≡ b) × (size_in w ≡ n)
  unfolding size_by
  header_known true n h =
      let is : says_passes w ≡ true = le-leb (header_of 0) w (omega (arith, h.header_is)) in
      let in-it = from_true (header_of 0) w (omega (arith, h.header_is, h.some))
      (omega (arith, h.header_is, h.few)) in (
        (or-eq-true_iff (from (header_of 0) w) (from (bare_header_of 0) w)).1 (Or.inl in-it),
        is,
        ap size_by is ∙ omega (arith, h.header_is),
      )
  header_known false n h =
      let is : says_passes w ≡ false = lt-leb (header_of 0) w (omega (arith, h.header_is, h.few)) in
      let in-it = from_true (bare_header_of 0) w (omega (arith, h.header_is, h.some))
      (omega (arith, h.header_is, h.few)) in (
        (or-eq-true_iff (from (header_of 0) w) (from (bare_header_of 0) w)).1 (Or.inr in-it),
        is,
        ap size_by is ∙ omega (arith, h.header_is),
      )
