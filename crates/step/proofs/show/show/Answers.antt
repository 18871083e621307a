use mathlib.Core.Path.{◌≡◌, sym}
use Rattle.whole.specs.Sized.{width_of}
use Rattle.step.specs.Range.{range_op}
use Rattle.step.specs.Show.{show_op}
use Rattle.step.proofs.Calls.{handed}
use Rattle.step.proofs.show.show.Goals as goal

pub returns-in_err-range : goal.returns-in_err-range
unfolding show_op
returns-in_err-range c =
    let a = c.args in
    let e : range_op (width_of a.size) a.operator a.s.range a.t.range a.u.range ≡ c.range.result = sym c.range.ensures in
    rw (e, c.in_err-range.was) (handed _ _ c.from_residual.ensures.1)

pub returns : goal.returns
unfolding show_op
returns c =
    let a = c.args in
    let e : range_op (width_of a.size) a.operator a.s.range a.t.range a.u.range ≡ c.range.result = sym c.range.ensures in
    rw (e, c.in_ok-range.was) (cc)
