use mathlib.Core.Bool.{true, false}
use lib.IntN.{pos}
use Rattle.whole.proofs.Fits.{zero-fits}
use Rattle.whole.proofs.Flags.{le-flag, le_is}
use Rattle.step.proofs.Calls.{one-fits}
use Rattle.step.proofs.run.is_bit.Goals as goal

pub returns-then-x-ge0 : goal.returns-then-x-ge0
returns-then-x-ge0 c = let f = c.ranges.x in rw (le-flag (pos 0) c.args.x true c.if-x-ge0.true zero-fits f) (le_is c.args.x (pos 1) f one-fits)

pub returns-else-x-ge0 : goal.returns-else-x-ge0
returns-else-x-ge0 c = rw (le-flag (pos 0) c.args.x false c.if-x-ge0.false zero-fits c.ranges.x) c.if-x-ge0.false
