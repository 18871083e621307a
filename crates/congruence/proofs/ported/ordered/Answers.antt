use Rattle.congruence.proofs.Values.{same-told, below-told, values}
use Rattle.congruence.specs.Ported.{ordered}
use Rattle.congruence.proofs.ported.ordered.Goals as goal

pub returns-then-eq : goal.returns-then-eq
unfolding ordered
returns-then-eq c = search (same-told, below-told, values) depth 8 fits 5000

pub returns-then-is_bottom : goal.returns-then-is_bottom
unfolding ordered
returns-then-is_bottom c = search (same-told, below-told, values) depth 8 fits 5000

pub returns-then-is_bottom-2 : goal.returns-then-is_bottom-2
unfolding ordered
returns-then-is_bottom-2 c = search (same-told, below-told, values) depth 8 fits 5000

pub returns-then-below : goal.returns-then-below
unfolding ordered
returns-then-below c = search (same-told, below-told, values) depth 8 fits 5000

pub returns-then-below-2 : goal.returns-then-below-2
unfolding ordered
returns-then-below-2 c = search (same-told, below-told, values) depth 8 fits 5000

pub returns-else-below-2 : goal.returns-else-below-2
unfolding ordered
returns-else-below-2 c = search (same-told, below-told, values) depth 8 fits 5000
