-- `state_body` meets its contract. Assumes nothing.
use Prim.Native.Nat.{ℕ, ◌+◌, ◌*◌}
use mathlib.Core.Path.{ap}
use Rattle.machine.specs.Images.{body_of}
use Rattle.images.proofs.encoding.state_body.Goals as goal

pub returns : goal.returns
unfolding body_of
returns c =
    let r = c.args.r.now in
    ap (λ (x : ℕ). x * 4096 + r.act * 512 + r.bb * 256 + r.level) c.code_of.ensures
