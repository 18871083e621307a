use Rattle.interval.specs.Mended.{equals}
use Rattle.interval.proofs.Calls.{lenient-made}
use Rattle.interval.proofs.mended.equals.Goals as goal

pub returns : goal.returns
unfolding equals
returns c = search lenient-made
