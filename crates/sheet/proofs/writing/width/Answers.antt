use Prim.Native.Nat.{◌<◌, ◌-◌}
use mathlib.Core.Path.{ap}
use native.Mathlib.Omega.{arith}
use borrow.Author.Rules.{rules}
use lib.ListN.{length}
use Rattle.sheet.specs.Number.{write_number}
use Rattle.sheet.proofs.Written.{not-tenth, shorter, groups-last, groups-more}
use Rattle.sheet.proofs.writing.width.Goals as goal

pub loop-m-init : goal.loop-m-init
unfolding write_number
loop-m-init c = (search rules, search rules, omega arith)

pub loop-m-smaller : goal.loop-m-smaller
loop-m-smaller c =
    let x = c.loop-m in
    omega (arith, not-tenth x.k x.m x.invariant.0 x.invariant.1 c.loop-m-test.true)

pub loop-m-preserved : goal.loop-m-preserved
loop-m-preserved c =
    let x = c.loop-m in
    let lt : x.k < 9 = not-tenth x.k x.m x.invariant.0 x.invariant.1 c.loop-m-test.true in
    (omega arith, shorter x.k x.m lt x.invariant.1, omega (arith, ap length (groups-more x.k x.m lt c.loop-m-test.true), x.invariant.2))

pub returns : goal.returns
returns c =
    let x = c.loop-m in
    omega (arith, ap length (groups-last (9 - x.k) x.m c.loop-m-test.false), x.invariant.2)
