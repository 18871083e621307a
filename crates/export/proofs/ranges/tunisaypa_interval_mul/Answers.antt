use mathlib.Core.Path.{ap}
use mir.Facts.{to_z-of_z}
use Rattle.refusal.specs.Answer.{is}
use Rattle.interval.specs.Ported as ported
use Rattle.export.proofs.Put.{ranged}
use Rattle.export.proofs.ranges.tunisaypa_interval_mul.Goals as goal

pub returns : goal.returns
returns c =
    let p = simp (to_z-of_z c.ranges.a, to_z-of_z c.ranges.b) at c.between-x.ensures in
    let q = simp (to_z-of_z c.ranges.c, to_z-of_z c.ranges.d) at c.between-y.ensures in
    ranged (λ x y. is (ported.mul x y)) (ap is c.mul.ensures) p q c.put_range.ensures
