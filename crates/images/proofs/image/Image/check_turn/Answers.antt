-- `check_turn` meets its contract: the tests are those of the law. Assumes nothing.
use native.Mathlib.Omega.{arith}
use Rattle.images.proofs.SlotLaws.{turn_slot}
use Rattle.images.proofs.image.Image.check_turn.Goals as goal

pub returns-then-not-w-upper : goal.returns-then-not-w-upper
returns-then-not-w-upper c =
    let a = c.args in
    let few = a.self.now.sized.few in
    let e = turn_slot a.self.now.size a.k a.w c.upper.result (omega arith) c.upper.ensures in
    grind arith

pub returns-then-not-w-self : goal.returns-then-not-w-self
returns-then-not-w-self c =
    let a = c.args in
    let few = a.self.now.sized.few in
    let e = turn_slot a.self.now.size a.k a.w c.upper.result (omega arith) c.upper.ensures in
    grind arith

pub returns : goal.returns
returns c =
    let a = c.args in
    let few = a.self.now.sized.few in
    let e = turn_slot a.self.now.size a.k a.w c.upper.result (omega arith) c.upper.ensures in
    grind arith
