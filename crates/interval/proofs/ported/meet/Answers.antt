use Rattle.whole.proofs.Flags.{flags}
use Rattle.interval.specs.Ported.{meet}
use Rattle.interval.proofs.PortedCalls.{ends}
use Rattle.interval.proofs.ported.meet.Goals as goal

pub returns : goal.returns
unfolding meet
returns c = search (ends, flags) depth 8 fits 5000
