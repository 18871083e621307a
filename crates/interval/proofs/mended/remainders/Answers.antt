use Rattle.whole.proofs.Flags.{flags}
use Rattle.interval.specs.Mended.{rem_within}
use Rattle.interval.proofs.Calls.{asked, made}
use Rattle.interval.proofs.mended.remainders.Goals as goal

pub returns-then-is_only : goal.returns-then-is_only
unfolding rem_within
returns-then-is_only c = search (asked, flags) depth 8 fits 5000

pub returns-then-a-ge0 : goal.returns-then-a-ge0
unfolding rem_within
returns-then-a-ge0 c = search (made, asked, flags) depth 8 fits 5000

pub returns-then-a-le0 : goal.returns-then-a-le0
unfolding rem_within
returns-then-a-le0 c = search (made, asked, flags) depth 8 fits 5000

pub returns : goal.returns
unfolding rem_within
returns c = search (made, asked, flags) depth 8 fits 5000
