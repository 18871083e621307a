use Rattle.congruence.proofs.Calls.{calls}
use Rattle.congruence.proofs.Values.{values}
use Rattle.congruence.specs.Ported.{below?}
use Rattle.congruence.proofs.ported.below.Goals as goal

pub returns-then-b-eq0 : goal.returns-then-b-eq0
unfolding below?
returns-then-b-eq0 c = search (calls, values) depth 9 fits 5000

pub returns-then-leaves : goal.returns-then-leaves
unfolding below?
returns-then-leaves c = search (c.if-b-eq0.false, calls, values) depth 9 fits 5000

pub returns-else-leaves : goal.returns-else-leaves
unfolding below?
returns-else-leaves c = search (c.if-b-eq0.false, calls, values) depth 9 fits 5000
