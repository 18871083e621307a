use Prim.Native.Nat.{◌-◌}
use mathlib.Core.Path.{◌≡◌, sym, ◌∙◌}
use native.Mathlib.Omega.{arith}
use borrow.Author.Rules.{rules}
use borrow.Author.Tests.{lt-ltb, le-ltb}
use lib.ListN.{length}
use Rattle.sheet.proofs.Refusals.{check-refused}
use Rattle.sheet.proofs.Parts.{steps-done, turn_step, turn-refused, verdict-put}
use Rattle.sheet.proofs.reading.check_steps.Goals as goal

pub loop-k-init : goal.loop-k-init
loop-k-init c =
    let e : c.args.n - 0 ≡ c.args.n = omega arith in
    (search rules, rw e)

pub loop-k-preserved : goal.loop-k-preserved
loop-k-preserved c =
    let x = c.loop-k in
    (omega arith, x.invariant.1 ∙ rw (turn_step c.args.n x.k c.args.s.now x.at _ _ c.loop-k-test.true (sym c.in_ok-next.ensures), verdict-put))

pub returns-in_err-next : goal.returns-in_err-next
returns-in_err-next c =
    let x = c.loop-k in
    check-refused c.from_residual.result _ c.from_residual.ensures.1 ∙ rw (x.invariant.1, turn-refused c.args.n x.k c.args.s.now x.at _ _ c.loop-k-test.true (sym c.in_err-next.ensures))

pub returns-then-at-s : goal.returns-then-at-s
returns-then-at-s c =
    let x = c.loop-k in
    let a = c.args in
    rw (x.invariant.1, steps-done a.n x.k a.s.now x.at c.loop-k-test.false, lt-ltb x.at (length a.s.now) c.if-at-s.true)

pub returns : goal.returns
returns c =
    let x = c.loop-k in
    let a = c.args in
    rw (x.invariant.1, steps-done a.n x.k a.s.now x.at c.loop-k-test.false, le-ltb x.at (length a.s.now) c.if-at-s.false)
