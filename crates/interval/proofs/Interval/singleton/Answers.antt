use Rattle.whole.proofs.Flags.{flags}
use Rattle.interval.specs.Ported.{singleton}
use Rattle.interval.proofs.Interval.singleton.Goals as goal

pub returns-then-self : goal.returns-then-self
unfolding singleton
returns-then-self c = search flags

pub returns-else-self : goal.returns-else-self
unfolding singleton
returns-else-self c = search flags
