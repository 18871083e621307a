use native.Mathlib.Omega.{arith}
use mathlib.Core.Path.{refl, ap, ◌∙◌}
use Rattle.whole.specs.Test.{◌≟◌}
use Rattle.refusal.specs.Number.{number_of}
use Rattle.refusal.specs.Answer.{refused}
use Rattle.transfer.specs.Spacings.{yes, no, spacing_on, binary_within}
use Rattle.transfer.proofs.Keys.{key, passed, other-called}
use Rattle.transfer.proofs.binary_within.Goals as goal

pub returns-in-2 : goal.returns-in-2
unfolding binary_within ◌≟◌
returns-in-2 c =
    rw (key c.args.op _ c.natural.ensures c.ranges.op 1 c.in-2.is) c.add.ensures

pub returns-in-3 : goal.returns-in-3
unfolding binary_within ◌≟◌
returns-in-3 c =
    rw (key c.args.op _ c.natural.ensures c.ranges.op 2 c.in-3.is) c.sub.ensures

pub returns-in-4 : goal.returns-in-4
unfolding binary_within ◌≟◌
returns-in-4 c =
    rw (key c.args.op _ c.natural.ensures c.ranges.op 3 c.in-4.is) c.mul.ensures

pub returns-in-5 : goal.returns-in-5
unfolding binary_within ◌≟◌
returns-in-5 c =
    rw (key c.args.op _ c.natural.ensures c.ranges.op 4 c.in-5.is) c.div.ensures

pub returns-in-6 : goal.returns-in-6
unfolding binary_within ◌≟◌
returns-in-6 c =
    rw (key c.args.op _ c.natural.ensures c.ranges.op 5 c.in-6.is) (refl)

pub returns-in-7 : goal.returns-in-7
unfolding binary_within ◌≟◌
returns-in-7 c =
    rw (key c.args.op _ c.natural.ensures c.ranges.op 6 c.in-7.is) c.equals.ensures

pub returns-in-8 : goal.returns-in-8
unfolding binary_within ◌≟◌
returns-in-8 c =
    rw (key c.args.op _ c.natural.ensures c.ranges.op 7 c.in-8.is) c.logical_and.ensures

pub returns-in-9 : goal.returns-in-9
unfolding binary_within ◌≟◌
returns-in-9 c =
    rw (key c.args.op _ c.natural.ensures c.ranges.op 8 c.in-9.is) c.logical_or.ensures

pub returns-in-10 : goal.returns-in-10
unfolding binary_within ◌≟◌
returns-in-10 c =
    rw (key c.args.op _ c.natural.ensures c.ranges.op 9 c.in-10.is) (c.spacing_on.ensures ∙ ap (λ o. spacing_on o yes no no) c.strict_cmp-order.ensures)

pub returns-in-11 : goal.returns-in-11
unfolding binary_within ◌≟◌
returns-in-11 c =
    rw (key c.args.op _ c.natural.ensures c.ranges.op 10 c.in-11.is) (c.spacing_on-in-11.ensures ∙ ap (λ o. spacing_on o no no yes) c.strict_cmp-order.ensures)

pub returns-in-12 : goal.returns-in-12
unfolding binary_within ◌≟◌
returns-in-12 c =
    rw (key c.args.op _ c.natural.ensures c.ranges.op 11 c.in-12.is) (c.spacing_on-in-12.ensures ∙ ap (λ o. spacing_on o yes yes no) c.strict_cmp-order.ensures)

pub returns-in-13 : goal.returns-in-13
unfolding binary_within ◌≟◌
returns-in-13 c =
    rw (key c.args.op _ c.natural.ensures c.ranges.op 12 c.in-13.is) (c.spacing_on-in-13.ensures ∙ ap (λ o. spacing_on o no yes yes) c.strict_cmp-order.ensures)

pub returns-in_default : goal.returns-in_default
unfolding binary_within
returns-in_default c =
    let f = passed c.args.op _ c.natural.ensures c.ranges.op in
    rw (f 2 (λ e. omega arith), f 3 (λ e. omega arith), f 4 (λ e. omega arith), f 5 (λ e. omega arith), f 6 (λ e. omega arith), f 7 (λ e. omega arith), f 8 (λ e. omega arith), f 9 (λ e. omega arith), f 10 (λ e. omega arith), f 11 (λ e. omega arith), f 12 (λ e. omega arith), f 13 (λ e. omega arith))
    (ap (λ r. refused (number_of r)) (other-called c.args.op _ c.other.ensures c.ranges.op))
