use mir.Facts.{to_z-of_z}
use Rattle.congruence.specs.Ported as ported
use Rattle.export.proofs.Put.{spaced}
use Rattle.export.proofs.spacings.tunisaypa_congruence_join.Goals as goal

pub returns : goal.returns
returns c =
    let p = simp (to_z-of_z c.ranges.c, to_z-of_z c.ranges.m) at c.modulo-x.ensures in
    let q = simp (to_z-of_z c.ranges.e, to_z-of_z c.ranges.n) at c.modulo-y.ensures in
    spaced ported.join c.join.ensures p q c.put_spacing.ensures
