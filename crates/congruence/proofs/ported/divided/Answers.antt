use Rattle.congruence.proofs.Calls.{calls}
use Rattle.congruence.proofs.Values.{only-told, values}
use Rattle.congruence.specs.Ported.{divided}
use Rattle.congruence.proofs.ported.divided.Goals as goal

pub returns-then-b-eq0 : goal.returns-then-b-eq0
unfolding divided
returns-then-b-eq0 c = search (only-told, calls, values) depth 9 fits 5000

pub returns-else-b-eq0 : goal.returns-else-b-eq0
unfolding divided
returns-else-b-eq0 c = search (only-told, calls, values) depth 9 fits 5000
