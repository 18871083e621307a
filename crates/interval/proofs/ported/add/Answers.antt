use Rattle.whole.proofs.Flags.{flags}
use Rattle.interval.specs.Ported.{add, add_min, add_max}
use Rattle.interval.proofs.PortedCalls.{ends}
use Rattle.interval.proofs.Calls.{asked, made}
use Rattle.interval.proofs.ported.add.Goals as goal

pub returns-then-one_bottom : goal.returns-then-one_bottom
unfolding add
returns-then-one_bottom c = search (ends, asked, flags) depth 8 fits 5000

pub returns : goal.returns
unfolding add add_min add_max
returns c = search (made, ends, asked, flags) depth 8 fits 5000
