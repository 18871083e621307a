use mathlib.Core.Path.{◌≡◌, refl, sym, ◌∙◌}
use mir.Syntax.{w64}
use mir.Val.{to_z, of_z}
use mir.Facts.{to_z-of_z}
use borrow.Author.Rules.{rules}
use Rattle.export.proofs.tunisaypa_gcd.Goals as goal

pub returns-in-Some : goal.returns-in-Some
returns-in-Some c =
    let e = simp (to_z-of_z c.ranges.a, to_z-of_z c.ranges.b) at c.gcd.ensures in
    let f : to_z w64 (of_z w64 c.in-Some.g) ≡ c.in-Some.g = search rules in
    rw (sym e ∙ c.in-Some.is) (rw f at c.put_one.ensures)

pub returns-in-None : goal.returns-in-None
returns-in-None c =
    let e = simp (to_z-of_z c.ranges.a, to_z-of_z c.ranges.b) at c.gcd.ensures in
    rw (sym e ∙ c.in-None.is) (record { status-is = c.number.ensures; room-is = refl })
