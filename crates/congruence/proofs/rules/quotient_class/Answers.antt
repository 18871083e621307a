use Rattle.congruence.proofs.Calls.{calls}
use Rattle.congruence.proofs.Values.{values}
use Rattle.congruence.specs.Mended.{quotient, beside}
use Rattle.congruence.specs.Mended as mended
use Rattle.congruence.proofs.rules.quotient_class.Goals as goal

pub returns-then-b-ne0 : goal.returns-then-b-ne0
unfolding mended.quotient mended.beside
returns-then-b-ne0 c = search (c.if-b-ne0.true, calls, values) depth 9 fits 5000

pub returns-then-b-eq0 : goal.returns-then-b-eq0
unfolding mended.quotient mended.beside
returns-then-b-eq0 c = search (calls, values) depth 9 fits 5000

pub returns-else-b-eq0 : goal.returns-else-b-eq0
unfolding mended.quotient mended.beside
returns-else-b-eq0 c = search (c.if-b-eq0.false, calls, values) depth 9 fits 5000
