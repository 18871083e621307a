use mathlib.Core.Path.{refl, ap, ◌∙◌}
use lib.IntN.{◌+ℤ◌, ◌-ℤ◌, ◌*ℤ◌}
use mir.Syntax.{w64}
use mir.Facts.{to_z-of_z}
use Rattle.std.specs.Prelude.{Ok}
use Rattle.whole.specs.Sized.{width_of}
use Rattle.step.proofs.Calls.{fitting-exact, handed, none-told, one-told}
use Rattle.whole.proofs.Flags.{lt-is, le_is, eq_is, flags}
use Rattle.whole.specs.Test.{truth}
use Rattle.step.specs.Run.{fitting_of, run_op}
use Rattle.step.proofs.run.run.Goals as goal

pub returns-in-Constant : goal.returns-in-Constant
unfolding run_op
returns-in-Constant c =
    let f = c.ranges in
    let x = c.args.x in
    let y = c.args.y in
    rw c.in-Constant.is (search flags)

pub returns-in-Add : goal.returns-in-Add
unfolding run_op
returns-in-Add c =
    let f = c.ranges in
    let a = c.args in
    rw c.in-Add.is (c.fitting.ensures ∙ (ap fitting_of (rw (to_z-of_z f.x, to_z-of_z f.y) at c.add.ensures) ∙ fitting-exact (width_of a.size) (a.x +ℤ a.y)))

pub returns-in-Sub : goal.returns-in-Sub
unfolding run_op
returns-in-Sub c =
    let f = c.ranges in
    let a = c.args in
    rw c.in-Sub.is (c.fitting-in-Sub.ensures ∙ (ap fitting_of (rw (to_z-of_z f.x, to_z-of_z f.y) at c.sub.ensures) ∙ fitting-exact (width_of a.size) (a.x -ℤ a.y)))

pub returns-in-Mul : goal.returns-in-Mul
unfolding run_op
returns-in-Mul c =
    let f = c.ranges in
    let a = c.args in
    rw c.in-Mul.is (c.fitting-in-Mul.ensures ∙ (ap fitting_of (rw (to_z-of_z f.x, to_z-of_z f.y) at c.mul.ensures) ∙ fitting-exact (width_of a.size) (a.x *ℤ a.y)))

pub returns-in-Div : goal.returns-in-Div
unfolding run_op
returns-in-Div c =
    let f = c.ranges in
    let a = c.args in
    rw c.in-Div.is (rw (to_z-of_z f.x, to_z-of_z f.y) at c.quotient.ensures)

pub returns-in-Rem : goal.returns-in-Rem
unfolding run_op
returns-in-Rem c =
    let f = c.ranges in
    let a = c.args in
    rw c.in-Rem.is (rw (to_z-of_z f.x, to_z-of_z f.y) at c.remainder.ensures)

pub returns-in-Equals : goal.returns-in-Equals
unfolding run_op
returns-in-Equals c =
    let f = c.ranges in
    let a = c.args in
    rw c.in-Equals.is (c.truth_of.ensures ∙ ap (λ b. Ok (truth b)) (eq_is {w = w64} a.x a.y _ _ refl refl f.x f.y))

pub returns-in-Less : goal.returns-in-Less
unfolding run_op
returns-in-Less c =
    let f = c.ranges in
    let a = c.args in
    rw c.in-Less.is (c.truth_of-in-Less.ensures ∙ ap (λ b. Ok (truth b)) (lt-is a.x a.y f.x f.y))

pub returns-in-Greater : goal.returns-in-Greater
unfolding run_op
returns-in-Greater c =
    let f = c.ranges in
    let a = c.args in
    rw c.in-Greater.is (c.truth_of-in-Greater.ensures ∙ ap (λ b. Ok (truth b)) (lt-is a.y a.x f.y f.x))

pub returns-in-LessOrEqual : goal.returns-in-LessOrEqual
unfolding run_op
returns-in-LessOrEqual c =
    let f = c.ranges in
    let a = c.args in
    rw c.in-LessOrEqual.is (c.truth_of-in-LessOrEqual.ensures ∙ ap (λ b. Ok (truth b)) (le_is a.x a.y f.x f.y))

pub returns-in-GreaterOrEqual : goal.returns-in-GreaterOrEqual
unfolding run_op
returns-in-GreaterOrEqual c =
    let f = c.ranges in
    let a = c.args in
    rw c.in-GreaterOrEqual.is (c.truth_of-in-GreaterOrEqual.ensures ∙ ap (λ b. Ok (truth b)) (le_is a.y a.x f.y f.x))

pub returns-in-Same : goal.returns-in-Same
unfolding run_op
returns-in-Same c =
    let f = c.ranges in
    rw (c.in-Same.is, to_z-of_z f.x) refl

pub returns-in_err-logical-in-And : goal.returns-in_err-logical-in-And
unfolding run_op
returns-in_err-logical-in-And c =
    let f = c.ranges in
    let a = c.args in
    rw c.in-And.is (handed _ _ c.from_residual.ensures.1 ∙ none-told a.x _ (rw (to_z-of_z f.x) at c.logical.ensures) _ c.in_err-logical-in-And.was _)

pub returns-in_err-logical-in-And-2 : goal.returns-in_err-logical-in-And-2
unfolding run_op
returns-in_err-logical-in-And-2 c =
    let f = c.ranges in
    let a = c.args in
    let l = one-told a.x _ (rw (to_z-of_z f.x) at c.logical.ensures) _ c.in_ok-logical-in-And.was in
    rw (c.in-And.is, l.0) (handed _ _ c.from_residual-in_err-logical-in-And-2.ensures.1 ∙ none-told a.y _ (rw (to_z-of_z f.y) at c.logical-in-And.ensures) _ c.in_err-logical-in-And-2.was _)

pub returns-in_ok-logical-in-And-2 : goal.returns-in_ok-logical-in-And-2
unfolding run_op
returns-in_ok-logical-in-And-2 c =
    let f = c.ranges in
    let a = c.args in
    let l = one-told a.x _ (rw (to_z-of_z f.x) at c.logical.ensures) _ c.in_ok-logical-in-And.was in
    let m = one-told a.y _ (rw (to_z-of_z f.y) at c.logical-in-And.ensures) _ c.in_ok-logical-in-And-2.was in
    rw (c.in-And.is, l.0, l.1, m.0, m.1) c.truth_of-in-And.ensures

pub returns-in_err-logical-in-Or : goal.returns-in_err-logical-in-Or
unfolding run_op
returns-in_err-logical-in-Or c =
    let f = c.ranges in
    let a = c.args in
    rw c.in-Or.is (handed _ _ c.from_residual-in_err-logical-in-Or.ensures.1 ∙ none-told a.x _ (rw (to_z-of_z f.x) at c.logical-in-Or.ensures) _ c.in_err-logical-in-Or.was _)

pub returns-in_err-logical-in-Or-2 : goal.returns-in_err-logical-in-Or-2
unfolding run_op
returns-in_err-logical-in-Or-2 c =
    let f = c.ranges in
    let a = c.args in
    let l = one-told a.x _ (rw (to_z-of_z f.x) at c.logical-in-Or.ensures) _ c.in_ok-logical-in-Or.was in
    rw (c.in-Or.is, l.0) (handed _ _ c.from_residual-in_err-logical-in-Or-2.ensures.1 ∙ none-told a.y _ (rw (to_z-of_z f.y) at c.logical-in-Or-2.ensures) _ c.in_err-logical-in-Or-2.was _)

pub returns-in_ok-logical-in-Or-2 : goal.returns-in_ok-logical-in-Or-2
unfolding run_op
returns-in_ok-logical-in-Or-2 c =
    let f = c.ranges in
    let a = c.args in
    let l = one-told a.x _ (rw (to_z-of_z f.x) at c.logical-in-Or.ensures) _ c.in_ok-logical-in-Or.was in
    let m = one-told a.y _ (rw (to_z-of_z f.y) at c.logical-in-Or-2.ensures) _ c.in_ok-logical-in-Or-2.was in
    rw (c.in-Or.is, l.0, l.1, m.0, m.1) c.truth_of-in-Or.ensures

pub returns-in_err-logical-in-Not : goal.returns-in_err-logical-in-Not
unfolding run_op
returns-in_err-logical-in-Not c =
    let f = c.ranges in
    let a = c.args in
    rw c.in-Not.is (handed _ _ c.from_residual-in_err-logical-in-Not.ensures.1 ∙ none-told a.x _ (rw (to_z-of_z f.x) at c.logical-in-Not.ensures) _ c.in_err-logical-in-Not.was _)

pub returns-in_err-logical-in-Choose : goal.returns-in_err-logical-in-Choose
unfolding run_op
returns-in_err-logical-in-Choose c =
    let f = c.ranges in
    let a = c.args in
    rw c.in-Choose.is (handed _ _ c.from_residual-in_err-logical-in-Choose.ensures.1 ∙ none-told a.x _ (rw (to_z-of_z f.x) at c.logical-in-Choose.ensures) _ c.in_err-logical-in-Choose.was _)

pub returns-in_ok-logical-in-Not : goal.returns-in_ok-logical-in-Not
unfolding run_op
returns-in_ok-logical-in-Not c =
    let f = c.ranges in
    let a = c.args in
    let l = one-told a.x _ (rw (to_z-of_z f.x) at c.logical-in-Not.ensures) _ c.in_ok-logical-in-Not.was in
    rw (c.in-Not.is, l.0, l.1) c.truth_of-in-Not.ensures

pub returns-then-branch : goal.returns-then-branch
unfolding run_op
returns-then-branch c =
    let f = c.ranges in
    let a = c.args in
    let l = one-told a.x _ (rw (to_z-of_z f.x) at c.logical-in-Choose.ensures) _ c.in_ok-logical-in-Choose.was in
    rw (c.in-Choose.is, l.0, l.1, c.if-branch.true, to_z-of_z f.y) refl

pub returns-else-branch : goal.returns-else-branch
unfolding run_op
returns-else-branch c =
    let f = c.ranges in
    let a = c.args in
    let l = one-told a.x _ (rw (to_z-of_z f.x) at c.logical-in-Choose.ensures) _ c.in_ok-logical-in-Choose.was in
    rw (c.in-Choose.is, l.0, l.1, c.if-branch.false, to_z-of_z f.z) refl
