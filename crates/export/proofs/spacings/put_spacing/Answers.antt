use mathlib.Core.Path.{◌≡◌}
use mir.Syntax.{w64}
use mir.Val.{to_z, of_z}
use borrow.Author.Rules.{rules}
use Rattle.export.proofs.spacings.put_spacing.Goals as goal

pub returns-in-Ok : goal.returns-in-Ok
returns-in-Ok c =
    let e : to_z w64 (of_z w64 c.in-Ok.v.constant) ≡ c.in-Ok.v.constant = search rules in
    let f : to_z w64 (of_z w64 c.in-Ok.v.modulus) ≡ c.in-Ok.v.modulus = search rules in
    rw c.in-Ok.is (rw (e, f) at c.put_two.ensures)
