use Prim.Native.Nat.{◌%◌}
use lib.Dec.{eqb}
use lib.IntN.{nat_abs, ◌-ℤ◌}
use borrow.Author.Tests.{eq-eqb, eqb-true}
use mir.Facts.{to_z-of_z}
use Rattle.std.specs.Bool.{one_answer}
use Rattle.congruence.specs.Numbers.{alike?}
use Rattle.congruence.proofs.number.alike.Goals as goal

pub returns : goal.returns
unfolding alike?
returns c =
    let e = simp (to_z-of_z c.ranges.x, to_z-of_z c.ranges.y) at c.abs_diff.ensures in
    let n = nat_abs (c.args.x -ℤ c.args.y) % c.args.m in
    one_answer _ (eqb n 0) (rw e at c.is_multiple_of.ensures) (eqb-true n 0, eq-eqb n 0)
