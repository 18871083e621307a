use mathlib.Core.Path.{ap, ◌∙◌}
use mir.Syntax.{w64}
use mir.Val.{SFits}
use mir.Facts.{to_z-of_z}
use Rattle.step.specs.Spacing.{value_of, spacing_op}
use borrow.Author.Rules.{rules}
use Rattle.whole.specs.Sized.{width_of}
use Rattle.congruence.specs.Mended.{join}
use borrow.Author.Rules.{rules}
use Rattle.step.proofs.Calls.{chosen, value-called}
use Rattle.step.proofs.spacing.spacing.Goals as goal

pub returns-in-Constant : goal.returns-in-Constant
unfolding spacing_op
returns-in-Constant c = let f : SFits w64 c.in-Constant.n = search rules in rw c.in-Constant.is (simp (to_z-of_z f))

pub returns-in-Add : goal.returns-in-Add
unfolding spacing_op
returns-in-Add c = rw c.in-Add.is (c.value.ensures ∙ ap value_of c.add.ensures)

pub returns-in-Sub : goal.returns-in-Sub
unfolding spacing_op
returns-in-Sub c = rw c.in-Sub.is (c.value-in-Sub.ensures ∙ ap value_of c.sub.ensures)

pub returns-in-Mul : goal.returns-in-Mul
unfolding spacing_op
returns-in-Mul c = rw c.in-Mul.is (c.value-in-Mul.ensures ∙ ap value_of c.mul.ensures)

pub returns-in-Div : goal.returns-in-Div
unfolding spacing_op
returns-in-Div c = rw c.in-Div.is (c.value-in-Div.ensures ∙ ap value_of c.div.ensures)

pub returns-in-Rem : goal.returns-in-Rem
unfolding spacing_op
returns-in-Rem c = rw c.in-Rem.is

pub returns-in-Equals : goal.returns-in-Equals
unfolding spacing_op
returns-in-Equals c = rw c.in-Equals.is (c.value-in-Equals.ensures ∙ ap value_of c.equals.ensures)

pub returns-in-And : goal.returns-in-And
unfolding spacing_op
returns-in-And c = rw c.in-And.is (c.value-in-And.ensures ∙ ap value_of c.logical_and.ensures)

pub returns-in-Or : goal.returns-in-Or
unfolding spacing_op
returns-in-Or c = rw c.in-Or.is (c.value-in-Or.ensures ∙ ap value_of c.logical_or.ensures)

pub returns-in-Less : goal.returns-in-Less
unfolding spacing_op
returns-in-Less c = rw c.in-Less.is (c.value-in-Less.ensures ∙ ap value_of c.less.ensures)

pub returns-in-Greater : goal.returns-in-Greater
unfolding spacing_op
returns-in-Greater c = rw c.in-Greater.is (c.value-in-Greater.ensures ∙ ap value_of c.greater.ensures)

pub returns-in-LessOrEqual : goal.returns-in-LessOrEqual
unfolding spacing_op
returns-in-LessOrEqual c = rw c.in-LessOrEqual.is (c.value-in-LessOrEqual.ensures ∙ ap value_of c.less_or_equal.ensures)

pub returns-in-GreaterOrEqual : goal.returns-in-GreaterOrEqual
unfolding spacing_op
returns-in-GreaterOrEqual c = rw c.in-GreaterOrEqual.is (c.value-in-GreaterOrEqual.ensures ∙ ap value_of c.greater_or_equal.ensures)

pub returns-in-Not : goal.returns-in-Not
unfolding spacing_op
returns-in-Not c = rw c.in-Not.is (c.value-in-Not.ensures ∙ ap value_of c.logical_not.ensures)

pub returns-in-Same : goal.returns-in-Same
unfolding spacing_op
returns-in-Same c = rw c.in-Same.is

pub returns-in-Choose : goal.returns-in-Choose
unfolding spacing_op
returns-in-Choose c =
    let a = c.args in
    rw c.in-Choose.is (chosen a.i a.t a.u (value_of (join (width_of a.size) a.t a.u)) c.unwrap_or_else.result c.settled.result _ c.settled.ensures c.unwrap_or_else.ensures (λ p. search (value-called, rules)))
