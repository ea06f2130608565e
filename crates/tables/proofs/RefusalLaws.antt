-- The number of a refusal is above 0; the refusal of a size. Assumes nothing.
use mathlib.Core.Path.{◌≡◌, refl}
use mathlib.Core.Bool.{Bool, true, false, cond}
use native.Mathlib.Omega.{arith}
use Rattle.machine.specs.Refusals.{accepted, wrong_size, number}
use Rattle.machine.specs.declared.Refusal.{Refusal}
use Rattle.machine.specs.declared.Refusal.TheVariants.{NoHeader}

pub number_some : (e : Refusal) → number e ≡ 0 → ⊥
number_some NoHeader z = omega arith
number_some e z = omega arith

-- a size that is not refused fits
pub size_taken : (b : Bool) → accepted ≡ cond b accepted wrong_size → b ≡ true
size_taken true h = refl
size_taken false h = absurd (omega arith)

-- one that is refused does not
pub size_refused : (e : Refusal) (b : Bool) → number e ≡ cond b accepted wrong_size → b ≡ false
size_refused e true h = absurd (number_some e h)
size_refused e false h = refl
