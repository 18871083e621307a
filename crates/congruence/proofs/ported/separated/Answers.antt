use Rattle.congruence.proofs.Calls.{calls}
use Rattle.congruence.proofs.Values.{values}
use Rattle.congruence.specs.Ported.{separated}
use Rattle.congruence.proofs.ported.separated.Goals as goal

pub returns-then-b-eq0 : goal.returns-then-b-eq0
unfolding separated
returns-then-b-eq0 c = search (calls, values) depth 9 fits 5000

pub returns-else-b-eq0 : goal.returns-else-b-eq0
unfolding separated
returns-else-b-eq0 c = search (calls, values) depth 9 fits 5000

pub returns-then-b-eq0-2 : goal.returns-then-b-eq0-2
unfolding separated
returns-then-b-eq0-2 c = search (calls, values) depth 9 fits 5000

pub returns : goal.returns
unfolding separated
returns c = search (calls, values) depth 9 fits 5000
