-- The two types of elements that a table is made of: rows, which are structs, and arrays of 24 numbers, in which the
-- covered code works.
--
--   row_val, row_laws       a row as a machine value, and its laws.
--   counts_16             a row has 16 counts.
--   cells_val, cells_laws   24 numbers as a machine value, and their laws.
--   zeros, zeros_val       a local array of zeros; zeros_are, zeros_typed: it is one.
--
-- Assumes `Logic`.
use mathlib.Core.Path.{◌≡◌, refl}
use Prim.Native.Nat.{ℕ}
use mathlib.Core.List.{List, [], ◌∷◌}
use lib.Dec.{T, lit<}
use lib.ListN.{length, replicate}
use seplogic.Ra.Ura.{Ura}
use mir.Syntax.{Ty, w16, ty_array}
use mir.Val.{Val, vint, has_ty, WT}
use types.Logic.{Logic}
use denote.RattleType.{RattleType}
use denote.Laws.{Is}
use denote.Copied.{uint_Copied, Array-Copied}
use denote.Memory.{lone}
use denote.Plain.{uint_Makes, uint_Lawful, uint_vals, uint_Tells, uint_copy}
use denote.Builtin.{u16}
use denote.Array.{Array, array_val, Array-Lawful, Array-Makes, array_vals, Array-Tells, array_copy}
use denote.Steps.{only}
use denote.Struct.Laws as LL
use Rattle.machine.specs.declared.Row.{Row}
use Rattle.machine.specs.contracts.Row as R
use Rattle.machine.proofs.Row.TheLaws as R'
use Rattle.walks.proofs.Loans.{Elements, rep_is}

-- ---- rows

abbrev pub row_ty : Ty
row_ty = lone (R.the_row).mir

abbrev pub row_val : Row → Val
row_val r = LL.val R.the_type R'.the_laws r

pub counts_16 : (r : Row) (v : Val) → Is R.the_row r (v ∷ []) → length r.passes ≡ 16
counts_16 r v is = (LL.owed R.the_type R'.the_laws r (v ∷ []) is).1.1.1.1.1.1.1.1.0.1.0.1

-- ---- cells

abbrev pub Cells : RattleType
Cells = Array u16 24

abbrev pub cells_ty : Ty
cells_ty = lone Cells.mir

abbrev pub cells_val : List ℕ → Val
cells_val c = only (array_vals (uint_vals w16) c)

-- 24 zeros
abbrev pub zero_row : List ℕ
zero_row = replicate 24 0

abbrev zero_row_val : Val
zero_row_val = array_val (replicate 24 (vint w16 0))

pub zero_row_is : Is Cells zero_row (zero_row_val ∷ [])
zero_row_is = rep_is u16 0 (vint w16 0) (refl, lit< tt) 24

-- ---- their laws

module _ {M : Type 1} {𝓤 : Ura M} (𝓛 : Logic 𝓤) where
  pub row_laws : Elements 𝓛 R.the_row row_val
  row_laws = record {
    single = tt;
    tells = LL.tells R.the_type R'.the_laws;
    makes = (LL.makes R.the_type R'.the_plain) 𝓛;
    copies = (LL.copy R.the_type R'.the_copy) 𝓛;
    copied = (LL.copied R.the_type R'.the_copy) 𝓛;
    typed = λ r v is. ((LL.lawful R.the_type R'.the_laws 𝓛).typed r _ is).0;
  }

  pub cells_laws : Elements 𝓛 Cells cells_val
  cells_laws = record {
    single = tt;
    tells = Array-Tells u16 (uint_vals w16) (uint_Tells w16) 24;
    makes = Array-Makes 𝓛 u16 (uint_Makes 𝓛 w16) 24;
    copies = array_copy 𝓛 u16 (uint_copy 𝓛 w16) 24;
    copied = Array-Copied 𝓛 u16 (uint_Copied 𝓛 w16) tt 24;
    typed = λ c v is. ((Array-Lawful 𝓛 u16 (uint_Lawful 𝓛 w16) 24).typed c _ is).0;
  }

-- ---- a local array of k times 24 zeros

module _ (k : ℕ) where
  abbrev pub work_ty : Ty
  work_ty = ty_array cells_ty k

  abbrev pub zeros : List (List ℕ)
  zeros = replicate k zero_row

  abbrev pub zeros_val : Val
  zeros_val = array_val (replicate k zero_row_val)

  pub zeros_are : Is (Array Cells k) zeros (zeros_val ∷ [])
  zeros_are = rep_is Cells zero_row zero_row_val zero_row_is k

  pub zeros_typed : {M : Type 1} {𝓤 : Ura M} (𝓛 : Logic 𝓤) →
      T (has_ty work_ty zeros_val) × WT zeros_val
  zeros_typed 𝓛 =
      ((Array-Lawful 𝓛 Cells (Array-Lawful 𝓛 u16 (uint_Lawful 𝓛 w16) 24) k).typed zeros _ zeros_are).0
