use mathlib.Core.Path.{◌≡◌, sym, ◌∙◌}
use mir.Syntax.{w64}
use mir.Facts.{to_z-of_z}
use Rattle.whole.specs.Divides.{floor_rem}
use Rattle.whole.proofs.Fits.{zero-fits, ones-fits}
use Rattle.whole.proofs.Flags.{eq-true, eq-false, flags}
use Rattle.whole.proofs.Floor.{floor-zero, floor-one, euclid_is}
use Rattle.whole.proofs.floored_remainder.Goals as goal

pub returns-then-m-eq0 : goal.returns-then-m-eq0
returns-then-m-eq0 c =
    let f = c.ranges in
    rw (eq-true {w = w64} f.m zero-fits c.if-m-eq0.true) (to_z-of_z f.x ∙ sym (floor-zero c.args.x))

pub returns-then-m-eqminus1 : goal.returns-then-m-eqminus1
returns-then-m-eqminus1 c = rw (eq-true {w = w64} c.ranges.m ones-fits c.if-m-eqminus1.true) (sym (floor-one c.args.x))

pub returns : goal.returns
returns c =
    let f = c.ranges in
    let e : c.rem_euclid.result ≡ floor_rem c.args.x c.args.m = (rw (to_z-of_z f.x, to_z-of_z f.m) at c.rem_euclid.ensures.value) ∙ euclid_is c.args.x c.args.m (eq-false {w = w64} f.m zero-fits c.if-m-eq0.false) in
    search flags
