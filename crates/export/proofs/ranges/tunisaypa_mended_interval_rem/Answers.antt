use mir.Syntax.{w64}
use mir.Facts.{to_z-of_z}
use Rattle.interval.specs.Mended as mended
use Rattle.export.proofs.Put.{ranged}
use Rattle.export.proofs.ranges.tunisaypa_mended_interval_rem.Goals as goal

pub returns : goal.returns
returns c =
    let p = simp (to_z-of_z c.ranges.a, to_z-of_z c.ranges.b) at c.between-x.ensures in
    let q = simp (to_z-of_z c.ranges.c, to_z-of_z c.ranges.d) at c.between-y.ensures in
    ranged (mended.rem w64) c.rem.ensures p q c.put_range.ensures
