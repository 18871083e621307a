use mathlib.Core.Path.{refl, sym}
use lib.ListN.{get_or-eq_default}
use Rattle.sheet.specs.Operator.{rows, fields_of}
use Rattle.sheet.specs.declared.operator.Fields.TheVariants.{Constant}
use Rattle.sheet.proofs.operator.fields_of.Goals as goal

pub returns-then-op-lt-OPERATORS : goal.returns-then-op-lt-OPERATORS
unfolding fields_of
returns-then-op-lt-OPERATORS c = refl

pub returns-else-op-lt-OPERATORS : goal.returns-else-op-lt-OPERATORS
unfolding fields_of
returns-else-op-lt-OPERATORS c = sym (get_or-eq_default rows Constant c.if-op-lt-OPERATORS.false)
