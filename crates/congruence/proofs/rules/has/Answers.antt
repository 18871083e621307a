use Rattle.congruence.proofs.Calls.{calls}
use Rattle.congruence.proofs.Values.{values}
use Rattle.congruence.specs.Mended.{has?}
use Rattle.congruence.proofs.rules.has.Goals as goal

pub returns : goal.returns
unfolding has?
returns c = search (calls, values) depth 9 fits 5000
