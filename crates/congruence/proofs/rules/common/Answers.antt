use Rattle.congruence.proofs.Calls.{has-call}
use Rattle.congruence.proofs.Values.{values}
use Rattle.congruence.specs.Mended.{common, beside}
use Rattle.congruence.specs.Mended as mended
use Rattle.congruence.proofs.rules.common.Goals as goal

pub returns-then-either_bottom : goal.returns-then-either_bottom
unfolding mended.common mended.beside
returns-then-either_bottom c = search (has-call, values) depth 9 fits 5000

pub returns-then-has : goal.returns-then-has
unfolding mended.common mended.beside
returns-then-has c = search (has-call, values) depth 9 fits 5000

pub returns-else-has : goal.returns-else-has
unfolding mended.common mended.beside
returns-else-has c = search (has-call, values) depth 9 fits 5000

pub returns-then-has-2 : goal.returns-then-has-2
unfolding mended.common mended.beside
returns-then-has-2 c = search (has-call, values) depth 9 fits 5000

pub returns-else-has-2 : goal.returns-else-has-2
unfolding mended.common mended.beside
returns-else-has-2 c = search (has-call, values) depth 9 fits 5000

pub returns : goal.returns
unfolding mended.common mended.beside
returns c = search (has-call, values) depth 9 fits 5000
