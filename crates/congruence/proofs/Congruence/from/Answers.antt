use Rattle.congruence.proofs.Calls.{held-call}
use Rattle.congruence.proofs.Values.{values}
use Rattle.congruence.specs.Ported.{from}
use Rattle.congruence.proofs.Congruence.from.Goals as goal

pub returns-then-m-lt0 : goal.returns-then-m-lt0
unfolding from
returns-then-m-lt0 c = search values

pub returns : goal.returns
unfolding from
returns c = search (held-call, values)
