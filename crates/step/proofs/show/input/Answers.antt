use mir.Syntax.{w64}
use mir.Facts.{to_z-of_z}
use Rattle.whole.proofs.Flags.{eq_yes, eq_no}
use Rattle.step.specs.Show.{input_shown}
use Rattle.step.proofs.show.input.Goals as goal

pub returns-then-low-high : goal.returns-then-low-high
unfolding input_shown
returns-then-low-high c = rw (eq_yes {w = w64} c.args.low c.args.high c.if-low-high.true c.ranges.low c.ranges.high) (cc (to_z-of_z c.ranges.low, to_z-of_z c.ranges.high))

pub returns-else-low-high : goal.returns-else-low-high
unfolding input_shown
returns-else-low-high c = rw (eq_no w64 c.args.low c.args.high c.if-low-high.false) (cc (to_z-of_z c.ranges.low, to_z-of_z c.ranges.high))
