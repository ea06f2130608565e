-- `sets_fit` meets its contract: the tests are those of the law. Assumes nothing.
use native.Mathlib.Omega.{arith}
use Rattle.images.proofs.SlotLaws.{sets_fit}
use Rattle.images.proofs.image.Image.sets_fit.Goals as goal

pub returns : goal.returns
returns c =
    let a = c.args in
    let image = a.self.now in
    let few = image.sized.few in
    sets_fit image.size a.q a.w.est a.w.lis a.w.ahead image.full image.is_full.is (omega arith) _ _ _ c.upper.ensures c.upper-2.ensures
    c.upper-3.ensures
