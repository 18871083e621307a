use Rattle.std.proofs.Common.{rules, ◌≡◌, refl, ◌∙◌}
use mir.Syntax.{w64}
use mir.Val.{to_z, of_z}
use borrow.Author.Tests.{eq-eqb, ne_eqb}
use Rattle.question.specs.Taken.{one_after}
use Rattle.question.proofs.take.one.Goals as goal

pub returns-in_err-a : goal.returns-in_err-a
unfolding one_after
returns-in_err-a c = c.from_residual.ensures ∙ rw (← c.in_err-a.ensures) refl

pub returns-then-p-line : goal.returns-then-p-line
unfolding one_after
returns-then-p-line c =
    let e : to_z w64 (of_z w64 c.in_ok-a.a) ≡ c.in_ok-a.a = search rules in
    rw (← c.in_ok-a.ensures, eq-eqb _ _ c.if-p-line.true, e)

pub returns-else-p-line : goal.returns-else-p-line
unfolding one_after
returns-else-p-line c = rw (← c.in_ok-a.ensures, ne_eqb _ _ c.if-p-line.false)
