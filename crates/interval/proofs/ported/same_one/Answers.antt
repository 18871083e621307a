use Rattle.whole.proofs.Flags.{flags}
use Rattle.interval.specs.Ported.{same_one}
use Rattle.interval.proofs.ported.same_one.Goals as goal

pub returns-in_err-a : goal.returns-in_err-a
unfolding same_one
returns-in_err-a c = rw (c.in_err-a.was, c.from_residual.ensures)

pub returns-in_err-b : goal.returns-in_err-b
unfolding same_one
returns-in_err-b c = rw (c.in_ok-a.was, c.in_err-b.was, c.from_residual-in_err-b.ensures)

pub returns-then-branch : goal.returns-then-branch
unfolding same_one
returns-then-branch c = rw (c.in_ok-a.was, c.in_ok-b.was) (search flags)

pub returns-else-branch : goal.returns-else-branch
unfolding same_one
returns-else-branch c = rw (c.in_ok-a.was, c.in_ok-b.was) (search flags)
