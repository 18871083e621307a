use native.Mathlib.Omega.{arith}
use mathlib.Core.Path.{refl, ap}
use Rattle.whole.specs.Test.{◌≟◌}
use Rattle.refusal.specs.Number.{number_of}
use Rattle.refusal.specs.Answer.{is, refused}
use Rattle.transfer.specs.Ranges.{interval_unary}
use Rattle.transfer.proofs.Keys.{key, passed, other-called}
use Rattle.transfer.proofs.interval_unary.Goals as goal

pub returns-in-14 : goal.returns-in-14
unfolding interval_unary ◌≟◌
returns-in-14 c =
    rw (key c.args.op _ c.natural.ensures c.ranges.op 13 c.in-14.is) (ap is c.logical_not.ensures)

pub returns-in-15 : goal.returns-in-15
unfolding interval_unary ◌≟◌
returns-in-15 c =
    rw (key c.args.op _ c.natural.ensures c.ranges.op 14 c.in-15.is) (refl)

pub returns-in_default : goal.returns-in_default
unfolding interval_unary
returns-in_default c =
    let f = passed c.args.op _ c.natural.ensures c.ranges.op in
    rw (f 14 (λ e. omega arith), f 15 (λ e. omega arith))
    (ap (λ r. refused (number_of r)) (other-called c.args.op _ c.other.ensures c.ranges.op))
