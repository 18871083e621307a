use mathlib.Core.Path.{refl}
use mir.Facts.{to_z-of_z}
use mir.Syntax.{w64}
use Rattle.whole.proofs.Decides.{is-fit}
use Rattle.whole.proofs.Divide.{quot-zero}
use Rattle.whole.proofs.Fits.{zero-fits}
use Rattle.whole.proofs.Flags.{eq-false, eq-true, divisor}
use Rattle.whole.proofs.Library.{divided_is}
use Rattle.whole.specs.Exact.{exactly}
use Rattle.whole.proofs.exact_quotient.Goals as goal

pub returns-then-d-eq0 : goal.returns-then-d-eq0
unfolding exactly
returns-then-d-eq0 c = rw (eq-true {w = w64} c.ranges.d zero-fits c.if-d-eq0.true, quot-zero c.args.x, is-fit {w = w64} zero-fits) refl

pub returns-else-d-eq0 : goal.returns-else-d-eq0
returns-else-d-eq0 c =
    let f = c.ranges in
    divided_is w64 c.args.x c.args.d _ (divisor f.d (eq-false {w = w64} f.d zero-fits c.if-d-eq0.false)) (rw (to_z-of_z f.x, to_z-of_z f.d) at c.checked_div.ensures)
