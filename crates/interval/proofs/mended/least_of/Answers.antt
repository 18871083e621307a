use Rattle.whole.proofs.Calls.{min-called}
use Rattle.whole.proofs.Flags.{flags}
use Rattle.interval.specs.Ends.{least_of}
use Rattle.interval.proofs.mended.least_of.Goals as goal

pub returns-in_err-x : goal.returns-in_err-x
unfolding least_of
returns-in_err-x c = rw (c.in_err-x.was, c.from_residual.ensures)

pub returns-in_err-y : goal.returns-in_err-y
unfolding least_of
returns-in_err-y c = rw (c.in_ok-x.was, c.in_err-y.was, c.from_residual-in_err-y.ensures)

pub returns : goal.returns
unfolding least_of
returns c = rw (c.in_ok-x.was, c.in_ok-y.was) (search (min-called, flags))
