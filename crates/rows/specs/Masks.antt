-- Sets of locations as masks: bit l stands for location l.
--
--   mark_of i b     ==   bit l of the location l of code i where b is true, else 0.
--   mask_of P       ==   the mask of the locations that have P.
--   allowed_at k l  <=>  kind k is allowed at location l, with lis empty or with another.
--
-- Assumes nothing.
use Rattle.std.specs.Prelude.{ℕ, ◌*◌, ◌^◌, Bool, ◌||◌, get_or}
use Rattle.counting.specs.Sums.{bit, sum}
use Rattle.machine.specs.Rows.{blank, with_location, with_lis}
use Rattle.machine.specs.Tables.{locations}
use Rattle.machine.specs.Steps.{allowed}

-- bit l of the location l of code i, where b is true
abbrev pub mark_of : ℕ → Bool → ℕ
mark_of i b = bit b * 2 ^ get_or locations i 0

-- the marks of the first n of the eight locations, of those that have P
unfoldable pub marks_to : (ℕ → Bool) → ℕ → ℕ
unfolding sum
marks_to P n = sum (λ i. mark_of i (P (get_or locations i 0))) n

abbrev pub mask_of : (ℕ → Bool) → ℕ
mask_of P = marks_to P 8

-- what `allowed` says of a location, whatever lis is
unfoldable pub allowed_at : ℕ → ℕ → Bool
unfolding allowed
allowed_at k l = allowed k (with_location l (with_lis 0 blank)) || allowed k (with_location l (with_lis 1 blank))
