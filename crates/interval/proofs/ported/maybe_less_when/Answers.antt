use Rattle.whole.proofs.Flags.{flags}
use Rattle.interval.specs.Ported.{maybe_less_when, less_left, less_right}
use Rattle.interval.proofs.PortedCalls.{beside, numbers-from, numbers-up-to, pair_made}
use Rattle.interval.proofs.Calls.{asked}
use Rattle.interval.proofs.ported.maybe_less_when.Goals.{then-b-eq-MIN-via-then-b-eq-MIN, then-b-eq-MIN-via-else-b-eq-MIN+then-a-eq-MAX}
use Rattle.interval.proofs.ported.maybe_less_when.Goals as goal

pub returns-then-apart : goal.returns-then-apart
unfolding maybe_less_when
returns-then-apart c = search (asked, flags) depth 8 fits 5000

pub returns-then-b-eq-MIN : goal.returns-then-b-eq-MIN
unfolding maybe_less_when
returns-then-b-eq-MIN c = elim c.then-b-eq-MIN.branch [ then-b-eq-MIN-via-then-b-eq-MIN w ↦ search (asked, flags) depth 8 fits 5000 | then-b-eq-MIN-via-else-b-eq-MIN+then-a-eq-MAX w ↦ search (asked, flags) depth 8 fits 5000 ]

pub returns : goal.returns
unfolding maybe_less_when less_left less_right
returns c = search (pair_made, numbers-up-to, numbers-from, beside, asked, flags) depth 8 fits 20000
