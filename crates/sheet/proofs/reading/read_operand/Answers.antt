use mathlib.Core.Path.{sym, ◌∙◌}
use native.Mathlib.Omega.{arith}
use mir.Syntax.{w64}
use mir.ValLaws.{to_z_pos}
use Rattle.sheet.proofs.Refusals.{found-refused}
use Rattle.sheet.proofs.Parts.{operand-got, operand-late, operand-refused}
use Rattle.sheet.proofs.reading.read_operand.Goals as goal

pub returns-in_err-n : goal.returns-in_err-n
returns-in_err-n c = found-refused c.from_residual.result _ c.from_residual.ensures.1 ∙ sym (operand-refused c.args.s.now c.args.at c.args.k _ _ (sym c.in_err-n.ensures))

pub returns-then-n-k : goal.returns-then-n-k
returns-then-n-k c =
    let a = c.args in
    rw (to_z_pos w64 c.in_ok-n.n (omega arith)) (sym (operand-got a.s.now a.at a.k c.in_ok-n.n _ (sym c.in_ok-n.ensures) c.if-n-k.true))

pub returns-else-n-k : goal.returns-else-n-k
returns-else-n-k c =
    let a = c.args in
    sym (operand-late a.s.now a.at a.k c.in_ok-n.n _ (sym c.in_ok-n.ensures) c.if-n-k.false)
