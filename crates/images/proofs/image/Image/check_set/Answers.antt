-- `check_set` meets its contract: the tests are those of the law. Assumes nothing.
use native.Mathlib.Omega.{arith}
use Rattle.images.proofs.SlotLaws.{set-slot}
use Rattle.images.specs.Kinds.{word_kind}
use Rattle.images.proofs.image.Image.check_set.Goals as goal

pub returns-then-not-w-upper : goal.returns-then-not-w-upper
returns-then-not-w-upper c =
    let a = c.args in
    let i = a.self.now in
    let few = i.sized.few in
    let e =
    set-slot i.size (word_kind a.kind) a.q a.w c.upper.result i.full c.requires.set_kind i.is_full.is (omega arith) c.upper.ensures in
    grind arith

pub returns-then-not-w-self : goal.returns-then-not-w-self
returns-then-not-w-self c =
    let a = c.args in
    let i = a.self.now in
    let few = i.sized.few in
    let e =
    set-slot i.size (word_kind a.kind) a.q a.w c.upper.result i.full c.requires.set_kind i.is_full.is (omega arith) c.upper.ensures in
    grind arith

pub returns : goal.returns
returns c =
    let a = c.args in
    let i = a.self.now in
    let few = i.sized.few in
    let e =
    set-slot i.size (word_kind a.kind) a.q a.w c.upper.result i.full c.requires.set_kind i.is_full.is (omega arith) c.upper.ensures in
    grind arith
