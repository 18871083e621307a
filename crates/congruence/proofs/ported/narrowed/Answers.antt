use Rattle.congruence.proofs.Values.{same-told, values}
use Rattle.congruence.specs.Ported.{narrowed}
use Rattle.congruence.proofs.ported.narrowed.Goals as goal

pub returns-then-eq : goal.returns-then-eq
unfolding narrowed
returns-then-eq c = search (same-told, values) depth 8 fits 5000

pub returns-else-eq : goal.returns-else-eq
unfolding narrowed
returns-else-eq c = search (same-told, values) depth 8 fits 5000
