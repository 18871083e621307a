use mathlib.Core.Path.{◌∙◌, ap}
use lib.IntN.{nat_abs}
use mir.Facts.{to_z-of_z}
use mir.Syntax.{w64}
use mir.Val.{SFits}
use Rattle.whole.specs.Divides.{floor_rem}
use Rattle.congruence.proofs.Classes.{left_by}
use Rattle.congruence.proofs.Values.{values}
use Rattle.congruence.proofs.residue.rest.Goals as goal

pub returns : goal.returns
returns c =
    let f : SFits w64 c.signed.result = search values in
    let g : SFits w64 c.floored_remainder.result = search values in
    let p = simp (to_z-of_z c.ranges.c, to_z-of_z f) at c.floored_remainder.ensures in
    let q = simp (to_z-of_z g) at c.magnitude.ensures in
    left_by c.args.c c.args.p c.magnitude.result c.requires.0 (q ∙ ap nat_abs (p ∙ ap (floor_rem c.args.c) c.signed.ensures))
