use Rattle.whole.proofs.Flags.{flags}
use Rattle.interval.specs.Ported.{neg}
use Rattle.interval.proofs.PortedCalls.{ends}
use Rattle.interval.proofs.Calls.{asked, made, is_made}
use Rattle.interval.proofs.ported.neg.Goals as goal

pub returns-then-is_bottom : goal.returns-then-is_bottom
unfolding neg
returns-then-is_bottom c = search (ends, asked, flags) depth 8 fits 5000

pub returns-then-a-eq-MIN : goal.returns-then-a-eq-MIN
unfolding neg
returns-then-a-eq-MIN c = search (ends, asked, flags) depth 8 fits 5000

pub neg_max-requires : goal.neg_max-requires
neg_max-requires c = search (asked, flags)

pub returns : goal.returns
unfolding neg
returns c = search (is_made, made, ends, asked, flags) depth 8 fits 5000
