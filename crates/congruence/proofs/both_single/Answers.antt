use borrow.Author.Tests.{ne_eqb}
use Rattle.congruence.proofs.Values.{values}
use Rattle.congruence.specs.Set.{singles?}
use Rattle.congruence.proofs.both_single.Goals as goal

pub returns-then-a-eq0 : goal.returns-then-a-eq0
unfolding singles?
returns-then-a-eq0 c = search values

pub returns-else-a-eq0 : goal.returns-else-a-eq0
unfolding singles?
returns-else-a-eq0 c = search (ne_eqb, c.if-a-eq0.false, values)
