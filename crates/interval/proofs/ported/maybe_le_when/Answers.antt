use Rattle.whole.proofs.Flags.{flags}
use Rattle.interval.specs.Ported.{maybe_le_when, le_left, le_right}
use Rattle.interval.proofs.PortedCalls.{numbers-from, numbers-up-to, pair_made}
use Rattle.interval.proofs.Calls.{asked}
use Rattle.interval.proofs.ported.maybe_le_when.Goals as goal

pub returns-then-apart : goal.returns-then-apart
unfolding maybe_le_when
returns-then-apart c = search (asked, flags) depth 8 fits 5000

pub returns : goal.returns
unfolding maybe_le_when le_left le_right
returns c = search (pair_made, numbers-up-to, numbers-from, asked, flags) depth 8 fits 5000
