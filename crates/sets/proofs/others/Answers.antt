-- `sets::others` meets its contract: 2 ^ n - 1 - 2 ^ p at 32 bits, which 16 bits hold. Assumes nothing.
use Prim.Native.Nat.{ℕ, ◌+◌, ◌*◌, ◌^◌, ◌%◌, ◌≤◌}
use mathlib.Core.Path.{◌≡◌}
use native.Mathlib.Omega.{arith}
use lib.Pow.{pow_mono}
use Rattle.counting.specs.Sets.{others}
use Rattle.counting.proofs.BitLaws.{one_shl, others_is}
use Rattle.sets.specs.Bounds.{Among}
use Rattle.sets.proofs.others.Goals as goal

-- the numbers that the code computes
record Powers (n p : ℕ) : Type 0 where
  all : 1 * 2 ^ n % 4294967296 ≡ 2 ^ n
  own : 1 * 2 ^ p % 4294967296 ≡ 2 ^ p
  fits : 2 ^ n ≤ 65536
  is : others n p + 2 ^ p + 1 ≡ 2 ^ n

powers : (n p : ℕ) → Among n p → Powers n p
powers n p h =
    let few = h.few in
    let one = h.one in
    record {
      all = one_shl 32 n (omega arith);
      own = one_shl 32 p (omega arith);
      fits = pow_mono {i = n} {j = 16} few;
      is = others_is n p one;
    }

pub overflow_sub-result : goal.overflow_sub-result
overflow_sub-result c = let h = powers c.args.n c.args.p c.requires in omega arith

pub overflow_sub-result-2 : goal.overflow_sub-result-2
overflow_sub-result-2 c = let h = powers c.args.n c.args.p c.requires in omega arith

pub overflow_cast-result-3 : goal.overflow_cast-result-3
overflow_cast-result-3 c = let h = powers c.args.n c.args.p c.requires in omega arith

pub returns : goal.returns
returns c = let h = powers c.args.n c.args.p c.requires in omega arith
