use mathlib.Core.Path.{sym, ◌∙◌}
use Rattle.sheet.proofs.Refusals.{found-refused}
use Rattle.sheet.proofs.Parts.{step-known, step-unknown, step-refused}
use Rattle.sheet.proofs.reading.read_step.Goals as goal

pub returns-in_err-op : goal.returns-in_err-op
returns-in_err-op c = found-refused c.from_residual.result _ c.from_residual.ensures.1 ∙ sym (step-refused c.args.s.now c.args.at c.args.k _ _ (sym c.in_err-op.ensures))

pub returns-then-op-lt-OPERATORS : goal.returns-then-op-lt-OPERATORS
returns-then-op-lt-OPERATORS c =
    let a = c.args in
    rw (step-known a.s.now a.at a.k c.in_ok-op.op _ (sym c.in_ok-op.ensures) c.if-op-lt-OPERATORS.true) (rw c.fields_of.ensures at c.read_fields.ensures)

pub returns-else-op-lt-OPERATORS : goal.returns-else-op-lt-OPERATORS
returns-else-op-lt-OPERATORS c =
    let a = c.args in
    sym (step-unknown a.s.now a.at a.k c.in_ok-op.op _ (sym c.in_ok-op.ensures) c.if-op-lt-OPERATORS.false)
