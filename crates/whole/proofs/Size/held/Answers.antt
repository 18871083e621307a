use Rattle.whole.specs.Sized.{held_to}
use Rattle.whole.proofs.Flags.{flags}
use Rattle.whole.proofs.Sizes.{exact-called}
use Rattle.whole.proofs.Size.held.Goals as goal

pub returns-in_err-e : goal.returns-in_err-e
unfolding held_to
returns-in_err-e c = rw (c.in_err-e.was, c.from_residual.ensures)

pub returns : goal.returns
unfolding held_to
returns c = rw c.in_ok-e.was (search (exact-called, flags))
