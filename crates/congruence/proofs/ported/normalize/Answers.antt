use Rattle.congruence.proofs.Calls.{calls}
use Rattle.congruence.proofs.Values.{values}
use Rattle.congruence.specs.Ported.{normalize}
use Rattle.congruence.proofs.ported.normalize.Goals as goal

pub returns-then-m-eq0 : goal.returns-then-m-eq0
unfolding normalize
returns-then-m-eq0 c = search values

pub returns : goal.returns
unfolding normalize
returns c = search (calls, values) depth 8
