use mathlib.Core.Path.{◌∙◌}
use Rattle.interval.proofs.Calls.{handed_on}
use Rattle.interval.proofs.PortedCalls.{sub_is, sub-refused}
use Rattle.interval.proofs.ported.sub.Goals as goal

pub returns-in_err-neg : goal.returns-in_err-neg
returns-in_err-neg c = handed_on _ _ c.from_residual.ensures.1 ∙ sub-refused _ _ _ _ c.neg.ensures c.in_err-neg.was

pub returns : goal.returns
returns c = sub_is _ _ _ _ _ c.neg.ensures c.in_ok-neg.was c.add.ensures
