use Rattle.whole.proofs.Flags.{bools, flags}
use Rattle.interval.specs.Ported.{widen}
use Rattle.interval.proofs.PortedCalls.{ends}
use Rattle.interval.proofs.Calls.{asked, made}
use Rattle.interval.proofs.ported.widen.Goals as goal

pub returns-then-is_bottom : goal.returns-then-is_bottom
unfolding widen
returns-then-is_bottom c = search (ends, asked, flags) depth 8 fits 5000

pub returns : goal.returns
unfolding widen
returns c = search (made, ends, asked, bools) depth 8 fits 5000
