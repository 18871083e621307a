use Rattle.congruence.specs.Set.{domain_at?}
use Rattle.congruence.proofs.Values.{values}
use Rattle.congruence.proofs.mended.in_domain.Goals as goal

pub returns-then-in_domain : goal.returns-then-in_domain
unfolding domain_at?
returns-then-in_domain c = search values

pub returns-else-in_domain : goal.returns-else-in_domain
unfolding domain_at?
returns-else-in_domain c = search values
