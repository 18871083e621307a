use mathlib.Core.Path.{◌≡◌}
use mir.Syntax.{w64}
use mir.Val.{to_z, of_z}
use borrow.Author.Rules.{rules}
use Rattle.export.proofs.ranges.put_range.Goals as goal

pub returns-in-Ok : goal.returns-in-Ok
returns-in-Ok c =
    let e : to_z w64 (of_z w64 c.in-Ok.v.min) ≡ c.in-Ok.v.min = search rules in
    let f : to_z w64 (of_z w64 c.in-Ok.v.max) ≡ c.in-Ok.v.max = search rules in
    rw c.in-Ok.is (rw (e, f) at c.put_two.ensures)
