use Rattle.whole.proofs.Flags.{flags}
use Rattle.interval.specs.Ported.{strict_cmp}
use Rattle.interval.proofs.PortedCalls.{same-called}
use Rattle.interval.proofs.Calls.{asked}
use Rattle.interval.proofs.ported.strict_cmp.Goals as goal

pub returns-then-one_bottom : goal.returns-then-one_bottom
unfolding strict_cmp
returns-then-one_bottom c = search (asked, flags) depth 8 fits 5000

pub returns-then-a-b : goal.returns-then-a-b
unfolding strict_cmp
returns-then-a-b c = search (asked, flags) depth 8 fits 5000

pub returns-then-a-b-2 : goal.returns-then-a-b-2
unfolding strict_cmp
returns-then-a-b-2 c = search (asked, flags) depth 8 fits 5000

pub returns : goal.returns
unfolding strict_cmp
returns c = search (same-called, asked, flags) depth 8 fits 5000
