use Rattle.whole.proofs.Flags.{flags}
use Rattle.interval.specs.Ported.{side_sign}
use Rattle.interval.proofs.side_of.Goals as goal

pub returns-then-a-lt0 : goal.returns-then-a-lt0
unfolding side_sign
returns-then-a-lt0 c = search flags depth 8 fits 5000

pub returns-then-a-le0 : goal.returns-then-a-le0
unfolding side_sign
returns-then-a-le0 c = search flags depth 8 fits 5000

pub returns-then-a-gt0 : goal.returns-then-a-gt0
unfolding side_sign
returns-then-a-gt0 c = search flags depth 8 fits 5000

pub returns-then-a-ge0 : goal.returns-then-a-ge0
unfolding side_sign
returns-then-a-ge0 c = search flags depth 8 fits 5000

pub returns : goal.returns
unfolding side_sign
returns c = search flags depth 8 fits 5000
