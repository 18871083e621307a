use Rattle.whole.proofs.Flags.{flags}
use Rattle.interval.specs.Mended.{verdict}
use Rattle.interval.proofs.verdict.Goals as goal

pub returns-then-every : goal.returns-then-every
unfolding verdict
returns-then-every c = search flags

pub returns-then-none : goal.returns-then-none
unfolding verdict
returns-then-none c = search flags

pub returns-else-none : goal.returns-else-none
unfolding verdict
returns-else-none c = search flags
