use mathlib.Core.Path.{sym, ◌∙◌}
use mir.Syntax.{w64}
use mir.ValLaws.{to_z-of_z}
use Rattle.sheet.proofs.Refusals.{found-refused}
use Rattle.sheet.proofs.Parts.{signed-got, signed-refused}
use Rattle.sheet.proofs.reading.read_signed.Goals as goal

pub returns-in_err-n : goal.returns-in_err-n
returns-in_err-n c = found-refused c.from_residual.result _ c.from_residual.ensures.1 ∙ sym (signed-refused c.args.s.now c.args.at _ _ (sym c.in_err-n.ensures))

pub returns : goal.returns
returns c =
    let u = c.«unfold» in
    rw (to_z-of_z w64 u.result (record { sfits = u.type_inv }), u.ensures) (sym (signed-got c.args.s.now c.args.at _ _ (sym c.in_ok-n.ensures)))
