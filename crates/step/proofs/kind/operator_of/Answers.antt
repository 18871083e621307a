use mathlib.Core.Path.{refl, sym}
use lib.IntN.{pos}
use lib.ListN.{get_or-eq_default}
use Rattle.step.specs.Kind.{operators, operator_of}
use Rattle.step.specs.declared.Operator.TheVariants.{Constant}
use Rattle.step.proofs.kind.operator_of.Goals as goal

pub returns-then-n-lt17 : goal.returns-then-n-lt17
unfolding operator_of
returns-then-n-lt17 c = refl

pub returns-else-n-lt17 : goal.returns-else-n-lt17
unfolding operator_of
returns-else-n-lt17 c = sym (get_or-eq_default operators (Constant (pos 0)) c.if-n-lt17.false)
