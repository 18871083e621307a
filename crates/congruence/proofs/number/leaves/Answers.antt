use Rattle.congruence.proofs.Calls.{rem-equal}
use Rattle.congruence.proofs.Values.{values}
use Rattle.congruence.proofs.number.leaves.Goals as goal

pub returns : goal.returns
returns c = search (rem-equal, values)
