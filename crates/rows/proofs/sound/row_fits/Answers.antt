-- `sound::row_fits` meets its contract. Assumes nothing.
use Prim.Native.Nat.{ℕ}
use mathlib.Core.Path.{ap, ◌∙◌}
use mathlib.Core.Bool.{◌&&◌}
use lib.Dec.{eqb}
use Rattle.rows.proofs.SoundLaws.{sound_right}
use Rattle.rows.proofs.sound.row_fits.Goals as goal

pub returns : goal.returns
returns c =
    let a = c.args in
    record {
      is = λ rest e.
          sound_right a.n a.full a.q a.r.now c.location_fits.result _ rest c.requires
          c.location_fits.ensures
          (ap (λ (v : ℕ). eqb v 0 && rest) c.own_passes.ensures ∙ e);
    }
