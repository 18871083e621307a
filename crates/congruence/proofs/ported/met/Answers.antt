use Rattle.congruence.proofs.Calls.{calls}
use Rattle.congruence.proofs.Values.{values}
use Rattle.congruence.specs.Ported.{met}
use Rattle.congruence.proofs.ported.met.Goals as goal

pub returns-then-either_bottom : goal.returns-then-either_bottom
unfolding met
returns-then-either_bottom c = search (calls, values) depth 9 fits 5000

pub returns-then-a-eq0 : goal.returns-then-a-eq0
unfolding met
returns-then-a-eq0 c = search (calls, values) depth 9 fits 5000

pub returns-then-b-eq0 : goal.returns-then-b-eq0
unfolding met
returns-then-b-eq0 c = search (calls, values) depth 9 fits 5000

pub returns : goal.returns
unfolding met
returns c = search (calls, values) depth 9 fits 5000
