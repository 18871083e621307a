use Rattle.whole.proofs.Flags.{flags}
use Rattle.interval.specs.Ported.{mul}
use Rattle.interval.proofs.PortedCalls.{spread-called, product-called}
use Rattle.interval.proofs.Calls.{asked}
use Rattle.interval.proofs.ported.mul.Goals as goal

pub returns-then-one_bottom : goal.returns-then-one_bottom
unfolding mul
returns-then-one_bottom c = search (asked, flags) depth 8 fits 5000

pub returns : goal.returns
unfolding mul
returns c = search (spread-called, product-called, asked, flags) depth 8 fits 5000
