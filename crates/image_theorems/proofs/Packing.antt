-- Packing: a word of an image from its slot and its lower half, and these from the word.
--
-- Every kind of word is packed alike; what its lower half holds is said of each kind in Fields. Assumes nothing.
use Prim.Native.Nat.{ℕ, ◌+◌, ◌*◌, ◌/◌, ◌%◌, ◌^◌, ◌<◌}
use mathlib.Core.Path.{◌≡◌}
use native.Mathlib.Omega.{arith}
use Rattle.machine.specs.Images.{Slot}

-- the word of a slot with the lower half b
abbrev pub word_of : Slot → ℕ → ℕ
word_of s b = s.kind * 2 ^ 28 + s.passer * 2 ^ 24 + s.number * 2 ^ 16 + b

-- the parts of a word
pub record Packed (s : Slot) (b w : ℕ) : Type 0 where
  pub kind_is : w / 2 ^ 28 ≡ s.kind
  pub passer_is : w / 2 ^ 24 % 2 ^ 4 ≡ s.passer
  pub number_is : w / 2 ^ 16 % 2 ^ 8 ≡ s.number
  pub body_is : w % 2 ^ 16 ≡ b

-- the parts of a word that was put together
pub packed : (s : Slot) (b : ℕ) → s.passer < 2 ^ 4 → s.number < 2 ^ 8 → b < 2 ^ 16 → Packed s b (word_of s b)
packed s b p h l =
    record { kind_is = omega arith; passer_is = omega arith; number_is = omega arith; body_is = omega arith }

-- a word is what its parts make
pub unpacked : (s : Slot) (b w : ℕ) → Packed s b w → word_of s b ≡ w
unpacked s b w p = omega arith
