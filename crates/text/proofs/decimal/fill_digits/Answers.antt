use Rattle.std.proofs.Common.{◌≡◌, ◌+◌, ◌-◌, ◌<◌, refl, arith}
use Rattle.text.proofs.Digits.{a-digit, store-more, one-left, store-first}
use Rattle.text.proofs.decimal.fill_digits.Goals as goal

pub loop-i-preserved : goal.loop-i-preserved
loop-i-preserved c =
    let x = c.loop-i in
    let e : x.i - 1 + 1 ≡ x.i = omega arith in
    (omega arith, store-more _ _ _ _ _ (omega arith) (rw e x.invariant.1))

pub loop-i-init : goal.loop-i-init
loop-i-init c =
    let some = a-digit c.args.n in
    (omega arith, ((λ _. (omega arith, refl)), (λ e. absurd (omega arith))))

pub overflow_cast-out-2 : goal.overflow_cast-out-2
overflow_cast-out-2 c =
    let m : c.loop-i.m < 10 = one-left _ _ _ _ _ (omega arith) c.loop-i.invariant.1 in
    omega arith

pub overflow_add-out-2 : goal.overflow_add-out-2
overflow_add-out-2 c =
    let m : c.loop-i.m < 10 = one-left _ _ _ _ _ (omega arith) c.loop-i.invariant.1 in
    omega arith

pub returns : goal.returns
returns c = store-first _ _ _ _ _ (omega arith) c.loop-i.invariant.1
