-- What the word of a round does, kind by kind, and that it may be done.
--
--   stay_word, look_word, go_word     the word, by the tests of the code
--   Given k a         <=>  the word is accepted, and does what kind k does with argument a.
--   rest_given, look_given            so it is for STAY and LOOK
--
-- Assumes nothing.
use Prim.Native.Nat.{ℕ, ◌<◌}
use mathlib.Core.Path.{◌≡◌, refl, sym, ap, ◌∙◌}
use mathlib.Core.Bool.{true, false, ◌&&◌, not}
use native.Mathlib.Omega.{arith}
use lib.Dec.{eqb}
use lib.ListN.{length}
use borrow.Author.Tests.{ne_eqb}
use Rattle.counting.specs.Sets.{lowest}
use Rattle.machine.specs.Tables.{Table, row, table_refusal}
use Rattle.machine.specs.Words.{STAY, GO, LOOK, kind_of, process_of, argument_of, word_of}
use Rattle.machine.specs.Steps.{moved, refusal_of, after_word}
use Rattle.machine.specs.Rounds.{round_word}
use Rattle.machine.proofs.Accepted.{accepted-moved}
use Rattle.machine.proofs.WordLaws.{kind_word_of, process_word_of, argument_word_of}
use Rattle.machine.proofs.SoundRows.{sound_few}
use Rattle.machine.proofs.RoundLaws.{round_word_accepted}

-- ---- the word

module _ (t : Table) (p : ℕ) where
  abbrev l : ℕ
  l = (row t p).location

  abbrev s : ℕ
  s = (row t p).lis

  stay_word : l ≡ 10 → round_word t p ≡ word_of STAY p 0
  unfolding round_word
  stay_word e = rw e refl

  look_word : (l ≡ 10 → ⊥) → (eqb l 22 && not (eqb s 0)) ≡ true → round_word t p ≡ word_of LOOK p (lowest s)
  unfolding round_word
  look_word ne h = rw (ne_eqb l 10 ne, h) refl

  pub go_word : (l ≡ 10 → ⊥) → (eqb l 22 && not (eqb s 0)) ≡ false → round_word t p ≡ word_of GO p 0
  unfolding round_word
  go_word ne h = rw (ne_eqb l 10 ne, h) refl

  -- ---- what it does

  pub record Given (k a : ℕ) : Type 0 where
    pub accepted_so : refusal_of t (round_word t p) ≡ 0
    pub table_is : after_word t (round_word t p) ≡ moved t k p a

  -- the parts of a word of the process
  pub record Parts (k a : ℕ) : Type 0 where
    pub kind_is : kind_of (word_of k p a) ≡ k
    pub process-is : process_of (word_of k p a) ≡ p
    pub argument_is : argument_of (word_of k p a) ≡ a

  module _ (z : table_refusal t ≡ 0) (in_t : p < length t) where
    pub parts : (k a : ℕ) → a < 256 → Parts k a
    parts k a low =
        let few : p < 256 = omega (arith, sound_few t z) in
        record {
          kind_is = kind_word_of k p a few low;
          process-is = process_word_of k p a few low;
          argument_is = argument_word_of k p a few low;
        }

    -- away from 20 the word of a round is accepted
    given : (k a : ℕ) → a < 256 → (l ≡ 20 → ⊥) → round_word t p ≡ word_of k p a → Given k a
    given k a low away e =
        let ok = round_word_accepted t p z in_t away in
        let w = word_of k p a in
        let i = parts k a low in
        record {
          accepted_so = ok;
          table_is = ap (after_word t) e
              ∙ accepted-moved t w (sym (ap (refusal_of t) e) ∙ ok)
              ∙ ap (moved t (kind_of w) (process_of w)) i.argument_is
              ∙ ap (λ (y : ℕ). moved t (kind_of w) y a) i.process-is
              ∙ ap (λ (x : ℕ). moved t x p a) i.kind_is;
        }

    pub rest_given : l ≡ 10 → Given STAY 0
    rest_given e = given STAY 0 (omega arith) (omega arith) (stay_word e)

    pub look_given : lowest s < 256 → l ≡ 22 → (eqb l 22 && not (eqb s 0)) ≡ true → Given LOOK (lowest s)
    look_given low e h = given LOOK (lowest s) low (omega arith) (look_word (omega arith) h)
