use Rattle.whole.proofs.Flags.{flags}
use Rattle.whole.proofs.Sizes.{both_is}
use Rattle.interval.specs.Mended.{unbounded?}
use Rattle.interval.proofs.Calls.{and-is-no, or_is, or-is-no, holds-told}
use Rattle.interval.proofs.mended.unbounded.Goals as goal

pub returns-then-holds : goal.returns-then-holds
unfolding unbounded?
returns-then-holds c = search (or_is, holds-told, flags)

pub returns-then-holds-2 : goal.returns-then-holds-2
unfolding unbounded?
returns-then-holds-2 c = search (or-is-no, both_is, holds-told, flags)

pub returns-else-holds-2 : goal.returns-else-holds-2
unfolding unbounded?
returns-else-holds-2 c = search (or-is-no, and-is-no, holds-told, flags)
