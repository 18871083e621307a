use Rattle.step.proofs.Divided.{quotient-fitted}
use Rattle.whole.proofs.Flags.{flags}
use Rattle.step.proofs.run.quotient.Goals as goal

pub returns-then-y-eq0 : goal.returns-then-y-eq0
returns-then-y-eq0 c = search flags

pub returns : goal.returns
returns c = search (quotient-fitted, flags)
