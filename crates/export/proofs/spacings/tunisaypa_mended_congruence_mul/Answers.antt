use mir.Syntax.{w64}
use mir.Facts.{to_z-of_z}
use Rattle.congruence.specs.Mended as mended
use Rattle.export.proofs.Put.{spaced}
use Rattle.export.proofs.spacings.tunisaypa_mended_congruence_mul.Goals as goal

pub returns : goal.returns
returns c =
    let p = simp (to_z-of_z c.ranges.c, to_z-of_z c.ranges.m) at c.modulo-x.ensures in
    let q = simp (to_z-of_z c.ranges.e, to_z-of_z c.ranges.n) at c.modulo-y.ensures in
    spaced (mended.mul w64) c.mul.ensures p q c.put_spacing.ensures
