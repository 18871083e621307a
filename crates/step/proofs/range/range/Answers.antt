use mathlib.Core.Path.{refl, ap, ◌∙◌}
use mir.Syntax.{w64}
use mir.Val.{SFits}
use mir.Facts.{to_z-of_z}
use Rattle.std.specs.Prelude.{Ok}
use Rattle.whole.specs.Sized.{width_of}
use Rattle.step.specs.Range.{fitting_all, range_op}
use borrow.Author.Rules.{rules}
use Rattle.interval.specs.Mended.{join}
use Rattle.step.proofs.Calls.{bit-passed, bit-stopped, chosen, divisor-passed, divisor-stopped, handed}
use Rattle.step.proofs.range.range.Goals as goal

pub returns-in-Constant : goal.returns-in-Constant
unfolding range_op
returns-in-Constant c = let f : SFits w64 c.in-Constant.n = search rules in rw c.in-Constant.is (simp (to_z-of_z f))

pub returns-in-Add : goal.returns-in-Add
unfolding range_op
returns-in-Add c = rw c.in-Add.is (c.fitting.ensures ∙ ap fitting_all c.add.ensures)

pub returns-in-Sub : goal.returns-in-Sub
unfolding range_op
returns-in-Sub c = rw c.in-Sub.is (c.fitting-in-Sub.ensures ∙ ap fitting_all c.sub.ensures)

pub returns-in-Mul : goal.returns-in-Mul
unfolding range_op
returns-in-Mul c = rw c.in-Mul.is (c.fitting-in-Mul.ensures ∙ ap fitting_all c.mul.ensures)

pub returns-in-Equals : goal.returns-in-Equals
unfolding range_op
returns-in-Equals c = rw c.in-Equals.is (c.fitting-in-Equals.ensures ∙ ap fitting_all c.equals.ensures)

pub returns-in-Less : goal.returns-in-Less
unfolding range_op
returns-in-Less c = rw c.in-Less.is (c.fitting-in-Less.ensures ∙ ap fitting_all c.less.ensures)

pub returns-in-Greater : goal.returns-in-Greater
unfolding range_op
returns-in-Greater c = rw c.in-Greater.is (c.fitting-in-Greater.ensures ∙ ap fitting_all c.greater.ensures)

pub returns-in-LessOrEqual : goal.returns-in-LessOrEqual
unfolding range_op
returns-in-LessOrEqual c = rw c.in-LessOrEqual.is (c.fitting-in-LessOrEqual.ensures ∙ ap fitting_all c.less_or_equal.ensures)

pub returns-in-GreaterOrEqual : goal.returns-in-GreaterOrEqual
unfolding range_op
returns-in-GreaterOrEqual c = rw c.in-GreaterOrEqual.is (c.fitting-in-GreaterOrEqual.ensures ∙ ap fitting_all c.greater_or_equal.ensures)

pub returns-in-Same : goal.returns-in-Same
unfolding range_op
returns-in-Same c = rw c.in-Same.is refl

pub returns-in_err-divisible-in-Div : goal.returns-in_err-divisible-in-Div
unfolding range_op
returns-in_err-divisible-in-Div c =
    let a = c.args in
    rw c.in-Div.is (handed _ _ c.from_residual.ensures.1 ∙ divisor-stopped _ _ (width_of a.size) a.i a.j c.divisible.ensures _ c.in_err-divisible-in-Div.was)

pub returns-in_ok-divisible-in-Div : goal.returns-in_ok-divisible-in-Div
unfolding range_op
returns-in_ok-divisible-in-Div c =
    let a = c.args in
    rw c.in-Div.is (c.fitting-in-Div.ensures ∙ (ap fitting_all c.div.ensures ∙ divisor-passed _ _ (width_of a.size) a.i a.j c.divisible.ensures _ c.in_ok-divisible-in-Div.was))

pub returns-in_err-divisible-in-Rem : goal.returns-in_err-divisible-in-Rem
unfolding range_op
returns-in_err-divisible-in-Rem c =
    let a = c.args in
    rw c.in-Rem.is (handed _ _ c.from_residual-in_err-divisible-in-Rem.ensures.1 ∙ divisor-stopped _ _ (width_of a.size) a.i a.j c.divisible-in-Rem.ensures _ c.in_err-divisible-in-Rem.was)

pub returns-in_ok-divisible-in-Rem : goal.returns-in_ok-divisible-in-Rem
unfolding range_op
returns-in_ok-divisible-in-Rem c =
    let a = c.args in
    rw c.in-Rem.is (c.fitting-in-Rem.ensures ∙ (ap fitting_all c.rem.ensures ∙ divisor-passed _ _ (width_of a.size) a.i a.j c.divisible-in-Rem.ensures _ c.in_ok-divisible-in-Rem.was))

pub returns-in_err-logical-in-And : goal.returns-in_err-logical-in-And
unfolding range_op
returns-in_err-logical-in-And c =
    let a = c.args in
    rw c.in-And.is (handed _ _ c.from_residual-in_err-logical-in-And.ensures.1 ∙ bit-stopped _ _ a.i c.logical.ensures _ c.in_err-logical-in-And.was)

pub returns-in_err-logical-in-And-2 : goal.returns-in_err-logical-in-And-2
unfolding range_op
returns-in_err-logical-in-And-2 c =
    let a = c.args in
    rw c.in-And.is (handed _ _ c.from_residual-in_err-logical-in-And-2.ensures.1 ∙ (bit-stopped _ _ a.j c.logical-in-And.ensures _ c.in_err-logical-in-And-2.was ∙ bit-passed _ _ a.i c.logical.ensures _ c.in_ok-logical-in-And.was))

pub returns-in_ok-logical-in-And-2 : goal.returns-in_ok-logical-in-And-2
unfolding range_op
returns-in_ok-logical-in-And-2 c =
    let a = c.args in
    rw c.in-And.is (ap Ok c.logical_and.ensures ∙ (bit-passed _ _ a.j c.logical-in-And.ensures _ c.in_ok-logical-in-And-2.was ∙ bit-passed _ _ a.i c.logical.ensures _ c.in_ok-logical-in-And.was))

pub returns-in_err-logical-in-Or : goal.returns-in_err-logical-in-Or
unfolding range_op
returns-in_err-logical-in-Or c =
    let a = c.args in
    rw c.in-Or.is (handed _ _ c.from_residual-in_err-logical-in-Or.ensures.1 ∙ bit-stopped _ _ a.i c.logical-in-Or.ensures _ c.in_err-logical-in-Or.was)

pub returns-in_err-logical-in-Or-2 : goal.returns-in_err-logical-in-Or-2
unfolding range_op
returns-in_err-logical-in-Or-2 c =
    let a = c.args in
    rw c.in-Or.is (handed _ _ c.from_residual-in_err-logical-in-Or-2.ensures.1 ∙ (bit-stopped _ _ a.j c.logical-in-Or-2.ensures _ c.in_err-logical-in-Or-2.was ∙ bit-passed _ _ a.i c.logical-in-Or.ensures _ c.in_ok-logical-in-Or.was))

pub returns-in_ok-logical-in-Or-2 : goal.returns-in_ok-logical-in-Or-2
unfolding range_op
returns-in_ok-logical-in-Or-2 c =
    let a = c.args in
    rw c.in-Or.is (ap Ok c.logical_or.ensures ∙ (bit-passed _ _ a.j c.logical-in-Or-2.ensures _ c.in_ok-logical-in-Or-2.was ∙ bit-passed _ _ a.i c.logical-in-Or.ensures _ c.in_ok-logical-in-Or.was))

pub returns-in_err-logical-in-Not : goal.returns-in_err-logical-in-Not
unfolding range_op
returns-in_err-logical-in-Not c =
    let a = c.args in
    rw c.in-Not.is (handed _ _ c.from_residual-in_err-logical-in-Not.ensures.1 ∙ bit-stopped _ _ a.i c.logical-in-Not.ensures _ c.in_err-logical-in-Not.was)

pub returns-in_err-logical-in-Choose : goal.returns-in_err-logical-in-Choose
unfolding range_op
returns-in_err-logical-in-Choose c =
    let a = c.args in
    rw c.in-Choose.is (handed _ _ c.from_residual-in_err-logical-in-Choose.ensures.1 ∙ bit-stopped _ _ a.i c.logical-in-Choose.ensures _ c.in_err-logical-in-Choose.was)

pub returns-in_ok-logical-in-Not : goal.returns-in_ok-logical-in-Not
unfolding range_op
returns-in_ok-logical-in-Not c =
    let a = c.args in
    rw c.in-Not.is (ap Ok c.logical_not.ensures ∙ bit-passed _ _ a.i c.logical-in-Not.ensures _ c.in_ok-logical-in-Not.was)

pub returns-in_ok-logical-in-Choose : goal.returns-in_ok-logical-in-Choose
unfolding range_op
returns-in_ok-logical-in-Choose c =
    let a = c.args in
    rw c.in-Choose.is (ap Ok (chosen a.i a.j a.k (join a.j a.k) c.unwrap_or_else.result c.settled.result _ c.settled.ensures c.unwrap_or_else.ensures (λ p. search rules)) ∙ bit-passed _ _ a.i c.logical-in-Choose.ensures _ c.in_ok-logical-in-Choose.was)
