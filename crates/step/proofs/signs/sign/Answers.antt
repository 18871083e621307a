use mathlib.Core.Path.{refl}
use mir.Syntax.{w64}
use mir.Val.{SFits}
use mir.Facts.{to_z-of_z}
use Rattle.step.specs.Signs.{sign_op}
use borrow.Author.Rules.{rules}
use borrow.Author.Rules.{rules}
use Rattle.sign.specs.Ported.{join}
use Rattle.step.proofs.Calls.{chosen}
use Rattle.step.proofs.signs.sign.Goals as goal

pub returns-in-Constant : goal.returns-in-Constant
unfolding sign_op
returns-in-Constant c = let f : SFits w64 c.in-Constant.n = search rules in rw c.in-Constant.is (rw (to_z-of_z f) at c.of_number.ensures)

pub returns-in-Add : goal.returns-in-Add
unfolding sign_op
returns-in-Add c = rw c.in-Add.is c.add.ensures

pub returns-in-Sub : goal.returns-in-Sub
unfolding sign_op
returns-in-Sub c = rw c.in-Sub.is c.sub.ensures

pub returns-in-Mul : goal.returns-in-Mul
unfolding sign_op
returns-in-Mul c = rw c.in-Mul.is c.mul.ensures

pub returns-in-Div : goal.returns-in-Div
unfolding sign_op
returns-in-Div c = rw c.in-Div.is c.div.ensures

pub returns-in-Rem : goal.returns-in-Rem
unfolding sign_op
returns-in-Rem c = rw c.in-Rem.is c.rem.ensures

pub returns-in-Equals : goal.returns-in-Equals
unfolding sign_op
returns-in-Equals c = rw c.in-Equals.is c.equals.ensures

pub returns-in-And : goal.returns-in-And
unfolding sign_op
returns-in-And c = rw c.in-And.is c.logical_and.ensures

pub returns-in-Or : goal.returns-in-Or
unfolding sign_op
returns-in-Or c = rw c.in-Or.is c.logical_or.ensures

pub returns-in-Less : goal.returns-in-Less
unfolding sign_op
returns-in-Less c = rw c.in-Less.is c.less.ensures

pub returns-in-Greater : goal.returns-in-Greater
unfolding sign_op
returns-in-Greater c = rw c.in-Greater.is c.greater.ensures

pub returns-in-LessOrEqual : goal.returns-in-LessOrEqual
unfolding sign_op
returns-in-LessOrEqual c = rw c.in-LessOrEqual.is c.less_or_equal.ensures

pub returns-in-GreaterOrEqual : goal.returns-in-GreaterOrEqual
unfolding sign_op
returns-in-GreaterOrEqual c = rw c.in-GreaterOrEqual.is c.greater_or_equal.ensures

pub returns-in-Not : goal.returns-in-Not
unfolding sign_op
returns-in-Not c = rw c.in-Not.is c.logical_not.ensures

pub returns-in-Same : goal.returns-in-Same
unfolding sign_op
returns-in-Same c = rw c.in-Same.is refl

pub returns-in-Choose : goal.returns-in-Choose
unfolding sign_op
returns-in-Choose c =
    let a = c.args in
    rw c.in-Choose.is (chosen a.i a.t a.u (join a.t a.u) c.unwrap_or_else.result c.settled.result _ c.settled.ensures c.unwrap_or_else.ensures (λ p. search rules))
