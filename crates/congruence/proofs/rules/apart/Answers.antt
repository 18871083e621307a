use Rattle.congruence.proofs.Calls.{calls}
use Rattle.congruence.proofs.Values.{values}
use Rattle.congruence.specs.Mended.{apart?}
use Rattle.congruence.proofs.rules.apart.Goals as goal

pub returns-then-either_bottom : goal.returns-then-either_bottom
unfolding apart?
returns-then-either_bottom c = search (calls, values) depth 9 fits 5000

pub returns-else-either_bottom : goal.returns-else-either_bottom
unfolding apart?
returns-else-either_bottom c = search (calls, values) depth 9 fits 5000
