-- `check_count` meets its contract: the tests are those of the law. Assumes nothing.
use Prim.Native.Nat.{◌+◌}
use native.Mathlib.Omega.{arith}
use Rattle.images.proofs.SlotLaws.{count-slot}
use Rattle.images.proofs.image.Image.check_count.Goals as goal

pub returns-then-not-w-passes_upper : goal.returns-then-not-w-passes_upper
returns-then-not-w-passes_upper c =
    let a = c.args in
    let few = a.self.now.sized.few in
    let e = count-slot a.self.now.size a.q a.r a.w (c.passes_upper.result + a.r) (omega arith) (omega arith) (omega arith) in
    grind arith

pub returns-then-not-q-r : goal.returns-then-not-q-r
returns-then-not-q-r c =
    let a = c.args in
    let few = a.self.now.sized.few in
    let e = count-slot a.self.now.size a.q a.r a.w (c.passes_upper.result + a.r) (omega arith) (omega arith) (omega arith) in
    grind arith

pub returns : goal.returns
returns c =
    let a = c.args in
    let few = a.self.now.sized.few in
    let e = count-slot a.self.now.size a.q a.r a.w (c.passes_upper.result + a.r) (omega arith) (omega arith) (omega arith) in
    grind arith
