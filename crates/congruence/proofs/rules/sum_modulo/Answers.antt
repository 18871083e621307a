use mathlib.Core.Path.{◌∙◌}
use lib.IntN.{◌-ℤ◌}
use mir.Facts.{to_z-of_z}
use mir.Syntax.{w64}
use mir.Val.{SFits}
use Rattle.whole.proofs.Flags.{lt-true, lt-false}
use Rattle.congruence.proofs.Sums.{room, sum_fits, wrapped-fits, sum_is, wrapped-is}
use Rattle.congruence.proofs.Values.{values}
use Rattle.congruence.proofs.rules.sum_modulo.Goals as goal

pub overflow_sub-m : goal.overflow_sub-m
overflow_sub-m c =
    let f = c.ranges in
    let j : SFits w64 c.floored_remainder-b.result = search values in
    let q = simp (to_z-of_z f.y, to_z-of_z f.m) at c.floored_remainder-b.ensures in
    simp (to_z-of_z f.m, to_z-of_z j) (rw q (room c.args.x c.args.y c.args.m c.requires f.m))

pub overflow_add-result : goal.overflow_add-result
overflow_add-result c =
    let f = c.ranges in
    let i : SFits w64 c.floored_remainder-a.result = search values in
    let j : SFits w64 c.floored_remainder-b.result = search values in
    let p = simp (to_z-of_z f.x, to_z-of_z f.m) at c.floored_remainder-a.ensures in
    let q = simp (to_z-of_z f.y, to_z-of_z f.m) at c.floored_remainder-b.ensures in
    let r = room c.args.x c.args.y c.args.m c.requires f.m in
    let g : SFits w64 (c.args.m -ℤ c.floored_remainder-b.result) = rw q r in
    let l = rw (p, q) at (lt-true i g (simp (to_z-of_z f.m, to_z-of_z j) at c.if-a-m.true)) in
    simp (to_z-of_z f.m, to_z-of_z i, to_z-of_z j) (rw (p, q) (sum_fits c.args.x c.args.y c.args.m c.requires f.m l))

pub overflow_sub-result : goal.overflow_sub-result
overflow_sub-result c =
    let f = c.ranges in
    let i : SFits w64 c.floored_remainder-a.result = search values in
    let j : SFits w64 c.floored_remainder-b.result = search values in
    let p = simp (to_z-of_z f.x, to_z-of_z f.m) at c.floored_remainder-a.ensures in
    let q = simp (to_z-of_z f.y, to_z-of_z f.m) at c.floored_remainder-b.ensures in
    simp (to_z-of_z f.m, to_z-of_z j) (rw q (room c.args.x c.args.y c.args.m c.requires f.m))

pub overflow_sub-result-else-a-m : goal.overflow_sub-result-else-a-m
overflow_sub-result-else-a-m c =
    let f = c.ranges in
    let i : SFits w64 c.floored_remainder-a.result = search values in
    let j : SFits w64 c.floored_remainder-b.result = search values in
    let p = simp (to_z-of_z f.x, to_z-of_z f.m) at c.floored_remainder-a.ensures in
    let q = simp (to_z-of_z f.y, to_z-of_z f.m) at c.floored_remainder-b.ensures in
    let r = room c.args.x c.args.y c.args.m c.requires f.m in
    let g : SFits w64 (c.args.m -ℤ c.floored_remainder-b.result) = rw q r in
    let l = rw (p, q) at (lt-false i g (simp (to_z-of_z f.m, to_z-of_z j) at c.if-a-m.false)) in
    simp (to_z-of_z f.m, to_z-of_z i, to_z-of_z j, to_z-of_z g) (rw (p, q) (wrapped-fits c.args.x c.args.y c.args.m c.requires f.m l))

pub returns-then-a-m : goal.returns-then-a-m
returns-then-a-m c =
    let f = c.ranges in
    let i : SFits w64 c.floored_remainder-a.result = search values in
    let j : SFits w64 c.floored_remainder-b.result = search values in
    let p = simp (to_z-of_z f.x, to_z-of_z f.m) at c.floored_remainder-a.ensures in
    let q = simp (to_z-of_z f.y, to_z-of_z f.m) at c.floored_remainder-b.ensures in
    let r = room c.args.x c.args.y c.args.m c.requires f.m in
    let g : SFits w64 (c.args.m -ℤ c.floored_remainder-b.result) = rw q r in
    let l = rw (p, q) at (lt-true i g (simp (to_z-of_z f.m, to_z-of_z j) at c.if-a-m.true)) in
    simp (to_z-of_z f.m, to_z-of_z i, to_z-of_z j) (rw (p, q) (to_z-of_z (sum_fits c.args.x c.args.y c.args.m c.requires f.m l) ∙ sum_is c.args.x c.args.y c.args.m c.requires l))

pub returns-else-a-m : goal.returns-else-a-m
returns-else-a-m c =
    let f = c.ranges in
    let i : SFits w64 c.floored_remainder-a.result = search values in
    let j : SFits w64 c.floored_remainder-b.result = search values in
    let p = simp (to_z-of_z f.x, to_z-of_z f.m) at c.floored_remainder-a.ensures in
    let q = simp (to_z-of_z f.y, to_z-of_z f.m) at c.floored_remainder-b.ensures in
    let r = room c.args.x c.args.y c.args.m c.requires f.m in
    let g : SFits w64 (c.args.m -ℤ c.floored_remainder-b.result) = rw q r in
    let l = rw (p, q) at (lt-false i g (simp (to_z-of_z f.m, to_z-of_z j) at c.if-a-m.false)) in
    simp (to_z-of_z f.m, to_z-of_z i, to_z-of_z j, to_z-of_z g) (rw (p, q) (to_z-of_z (wrapped-fits c.args.x c.args.y c.args.m c.requires f.m l) ∙ wrapped-is c.args.x c.args.y c.args.m c.requires l))
