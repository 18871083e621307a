use Rattle.std.proofs.Common.{rules, ◌≡◌, refl, ◌∙◌}
use mir.Syntax.{w64}
use mir.Val.{to_z, of_z}
use Rattle.question.specs.Taken.{two_after}
use Rattle.question.proofs.take.two.Goals as goal

pub returns-in_err-a : goal.returns-in_err-a
unfolding two_after
returns-in_err-a c = c.from_residual.ensures ∙ rw (← c.in_err-a.ensures) refl

pub returns-in_err-b : goal.returns-in_err-b
unfolding two_after
returns-in_err-b c = c.from_residual-in_err-b.ensures ∙ rw (← c.in_ok-a.ensures, ← c.in_err-b.ensures) refl

pub returns : goal.returns
unfolding two_after
returns c =
    let ea : to_z w64 (of_z w64 c.in_ok-a.a) ≡ c.in_ok-a.a = search rules in
    let eb : to_z w64 (of_z w64 c.in_ok-b.b) ≡ c.in_ok-b.b = search rules in
    rw (← c.in_ok-a.ensures, ← c.in_ok-b.ensures, ea, eb)
