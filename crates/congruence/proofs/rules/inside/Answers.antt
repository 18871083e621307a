use Rattle.congruence.proofs.Calls.{has-call, calls}
use Rattle.congruence.proofs.Values.{values}
use Rattle.congruence.specs.Mended.{inside?}
use Rattle.congruence.proofs.rules.inside.Goals as goal

pub returns-then-is_bottom : goal.returns-then-is_bottom
unfolding inside?
returns-then-is_bottom c = search (has-call, calls, values) depth 9 fits 5000

pub returns-then-is_bottom-2 : goal.returns-then-is_bottom-2
unfolding inside?
returns-then-is_bottom-2 c = search (has-call, calls, values) depth 9 fits 5000

pub returns-then-has : goal.returns-then-has
unfolding inside?
returns-then-has c = search (has-call, calls, values) depth 9 fits 5000

pub returns-else-has : goal.returns-else-has
unfolding inside?
returns-else-has c = search (has-call, calls, values) depth 9 fits 5000
