-- Laws of event words: a word is its three parts, and its parts are those it was made of.
--
--   kind_word_of, process_word_of, argument_word_of, spare_word_of    the parts of a made word
--   formed_is          a formed word is made of its parts
--   together-apart     parts of a word put together give the word
--   apart-together     and a word put together comes apart into its parts
--
-- Assumes nothing.
use Prim.Native.Nat.{ℕ, ◌+◌, ◌*◌, ◌/◌, ◌%◌, ◌^◌, ◌≤◌, ◌<◌}
use mathlib.Core.Path.{◌≡◌, refl, sym, ap, ◌∙◌}
use mathlib.Core.Bool.{Bool, true, false, cond, not, and-eq-true_iff}
use native.Mathlib.Omega.{arith}
use lib.Dec.{eqb, leb}
use lib.Pow.{split as splits, mod-pow-add}
use borrow.Author.Tests.{eqb-true, leb-true, eq-eqb, le-leb}
use Rattle.machine.specs.Refusals.{bad_kind, no_process, bad_argument}
use Rattle.machine.specs.Words.{is_kind, kind_of, process_of, argument_of, spare_clear, formed, word_of, apart}
use Rattle.machine.specs.Words.{Fields, together}
use Rattle.std.specs.Prelude.{Ok, Err}

-- ---- the parts of a made word

module _ (k p a : ℕ) (hp : p < 256) (ha : a < 256) where
  pub kind_word_of : kind_of (word_of k p a) ≡ k
  kind_word_of = omega arith

  pub process_word_of : process_of (word_of k p a) ≡ p
  process_word_of = omega arith

  pub argument_word_of : argument_of (word_of k p a) ≡ a
  argument_word_of = omega arith

  high_clear : word_of k p a / 2 ^ 24 % 2 ^ 4 ≡ 0
  high_clear = omega arith

  low_clear : word_of k p a / 2 ^ 8 % 2 ^ 8 ≡ 0
  low_clear = omega arith

  pub spare_word_of : spare_clear (word_of k p a) ≡ true
  spare_word_of = (and-eq-true_iff _ _).1 (eq-eqb _ _ high_clear, eq-eqb _ _ low_clear)

  pub formed_word_of : is_kind k ≡ true → formed (word_of k p a) ≡ true
  formed_word_of h = (and-eq-true_iff _ _).1 (ap is_kind kind_word_of ∙ h, spare_word_of)

-- ---- the word of its parts

-- a word from its fields, those that are spare being 0
join : (w k x h y p z s a : ℕ)
    → k * 2 ^ 28 + x ≡ w
    → x ≡ h * 2 ^ 24 + y
    → y ≡ p * 2 ^ 16 + z
    → z ≡ s * 2 ^ 8 + a
    → h ≡ 0
    → s ≡ 0
    → word_of k p a ≡ w
join w k x h y p z s a e f g i j l = omega arith

pub formed_is : (w : ℕ) → formed w ≡ true → word_of (kind_of w) (process_of w) (argument_of w) ≡ w
formed_is w h =
    let s = ((and-eq-true_iff (is_kind (kind_of w)) (spare_clear w)).0 h).1 in
    let x : w / 2 ^ 24 % 2 ^ 4 ≡ 0 =
    eqb-true _ _ ((and-eq-true_iff (eqb (w / 2 ^ 24 % 2 ^ 4) 0) (eqb (w / 2 ^ 8 % 2 ^ 8) 0)).0 s).0 in
    let y : w / 2 ^ 8 % 2 ^ 8 ≡ 0 =
    eqb-true _ _ ((and-eq-true_iff (eqb (w / 2 ^ 24 % 2 ^ 4) 0) (eqb (w / 2 ^ 8 % 2 ^ 8) 0)).0 s).1 in
    join w _ _ _ _ _ _ _ _ (splits w 28) (mod-pow-add w 4 24) (mod-pow-add w 8 16) (mod-pow-add w 8 8) x y

-- words with the same parts are the same
pub parts_injective : (v w : ℕ)
    → formed v ≡ true
    → formed w ≡ true
    → kind_of v ≡ kind_of w
    → process_of v ≡ process_of w
    → argument_of v ≡ argument_of w
    → v ≡ w
parts_injective v w hv hw k p a = let x = formed_is v hv in let y = formed_is w hw in cc

-- ---- apart and together undo each other

-- what comes apart was formed, and names a process up to 15
module _ (w : ℕ) where
  abbrev parts : Fields
  parts = record { kind = kind_of w; process = process_of w; argument = argument_of w }

  apart-is : (x : Fields) → apart w ≡ Ok x → (formed w ≡ true) × (leb (process_of w) 15 ≡ true) × (parts ≡ x)
  apart-is x = go (formed w) (leb (process_of w) 15)
    where
      go : (a b : Bool)
          → cond (not a) (Err bad_kind) (cond (not b) (Err no_process) (Ok parts))
          ≡ Ok x
          → (a ≡ true) × (b ≡ true) × (parts ≡ x)
      go true true h = (refl, refl, cc)
      go true false h = let z : ◌≡◌ {A = ℕ} 0 1 = cc in absurd (omega arith)
      go false b h = let z : ◌≡◌ {A = ℕ} 0 1 = cc in absurd (omega arith)

  pub together-apart : (x : Fields)
      → apart w ≡ Ok x
      → together x.kind x.process x.argument ≡ Ok w
  together-apart x h =
      let c = apart-is x h in
      let kind : is_kind (kind_of w) ≡ true = ((and-eq-true_iff (is_kind (kind_of w)) (spare_clear w)).0 c.0).0 in
      let low : leb (argument_of w) 255 ≡ true = le-leb (argument_of w) 255 (omega arith) in
      ap (λ (y : Fields). together y.kind y.process y.argument) (sym c.2)
      ∙ made (is_kind (kind_of w)) (leb (process_of w) 15) (leb (argument_of w) 255) kind c.1 low
      ∙ ap Ok (formed_is w c.0)
    where
      made : (a b c : Bool)
          → a ≡ true
          → b ≡ true
          → c ≡ true
          → cond (not a) (Err bad_kind)
          (cond (not b) (Err no_process)
          (cond (not c) (Err bad_argument)
          (Ok (word_of (kind_of w) (process_of w) (argument_of w)))))
          ≡ Ok (word_of (kind_of w) (process_of w) (argument_of w))
      made a b c x y z = rw (x, y, z)

module _ (k p a w : ℕ) where
  -- what was put together has one of the kinds, a process up to 15 and an argument up to 255
  together-is : together k p a ≡ Ok w
      → (is_kind k ≡ true) × (leb p 15 ≡ true) × (leb a 255 ≡ true) × (word_of k p a ≡ w)
  together-is = go (is_kind k) (leb p 15) (leb a 255)
    where
      go : (x y z : Bool)
          → cond (not x) (Err bad_kind)
          (cond (not y) (Err no_process)
          (cond (not z) (Err bad_argument) (Ok (word_of k p a))))
          ≡ Ok w
          → (x ≡ true) × (y ≡ true) × (z ≡ true) × (word_of k p a ≡ w)
      go true true true h = (refl, refl, refl, cc)
      go true true false h = let z : ◌≡◌ {A = ℕ} 0 1 = cc in absurd (omega arith)
      go true false z h = let i : ◌≡◌ {A = ℕ} 0 1 = cc in absurd (omega arith)
      go false y z h = let i : ◌≡◌ {A = ℕ} 0 1 = cc in absurd (omega arith)

  pub apart-together : together k p a ≡ Ok w
      → apart w ≡ Ok (record { kind = k; process = p; argument = a })
  apart-together h =
      let c = together-is h in
      let lp : p ≤ 15 = leb-true _ _ c.1 in
      let la : a ≤ 255 = leb-true _ _ c.2 in
      let hp : p < 256 = omega arith in
      let ha : a < 256 = omega arith in
      ap apart (sym c.3)
      ∙ rw (
        formed_word_of k p a hp ha c.0,
        process_word_of k p a hp ha,
        c.1,
        kind_word_of k p a hp ha,
        argument_word_of k p a hp ha,
      )
