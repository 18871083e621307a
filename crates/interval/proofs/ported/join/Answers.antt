use Rattle.whole.proofs.Flags.{flags}
use Rattle.interval.specs.Mended.{join}
use Rattle.interval.proofs.PortedCalls.{ends}
use Rattle.interval.proofs.Calls.{made}
use Rattle.interval.proofs.ported.join.Goals as goal

pub returns : goal.returns
unfolding join
returns c = search (made, ends, flags) depth 8 fits 5000
