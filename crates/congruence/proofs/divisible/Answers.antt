use Rattle.congruence.proofs.Calls.{calls}
use Rattle.congruence.proofs.Values.{values}
use Rattle.congruence.specs.Numbers.{divides?}
use Rattle.congruence.proofs.divisible.Goals as goal

pub returns-then-leaves : goal.returns-then-leaves
unfolding divides?
returns-then-leaves c = search (calls, values) depth 9 fits 5000

pub returns-else-leaves : goal.returns-else-leaves
unfolding divides?
returns-else-leaves c = search (calls, values) depth 9 fits 5000
