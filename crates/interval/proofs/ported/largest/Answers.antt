use Rattle.whole.proofs.Flags.{flags}
use Rattle.interval.proofs.PortedCalls.{largest-made}
use Rattle.interval.proofs.ported.largest.Goals as goal

pub returns : goal.returns
returns c = search (largest-made, flags) depth 8 fits 5000
