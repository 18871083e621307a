use Rattle.whole.proofs.Calls.{max-called}
use Rattle.whole.proofs.Flags.{flags}
use Rattle.interval.specs.Ends.{greatest_of}
use Rattle.interval.proofs.greatest_of.Goals as goal

pub returns-in_err-x : goal.returns-in_err-x
unfolding greatest_of
returns-in_err-x c = rw (c.in_err-x.was, c.from_residual.ensures)

pub returns-in_err-y : goal.returns-in_err-y
unfolding greatest_of
returns-in_err-y c = rw (c.in_ok-x.was, c.in_err-y.was, c.from_residual-in_err-y.ensures)

pub returns : goal.returns
unfolding greatest_of
returns c = rw (c.in_ok-x.was, c.in_ok-y.was) (search (max-called, flags))
