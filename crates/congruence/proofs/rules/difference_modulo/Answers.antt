use mathlib.Core.Path.{◌∙◌}
use lib.IntN.{◌-ℤ◌}
use mir.Facts.{to_z-of_z}
use mir.Syntax.{w64}
use mir.Val.{SFits}
use Rattle.whole.proofs.Flags.{le-true, le-false}
use Rattle.congruence.proofs.Sums.{difference-fits, room, turned-fits, difference-is, turned-is}
use Rattle.congruence.proofs.Values.{values}
use Rattle.congruence.proofs.rules.difference_modulo.Goals as goal

pub overflow_sub-result : goal.overflow_sub-result
overflow_sub-result c =
    let f = c.ranges in
    let i : SFits w64 c.floored_remainder-a.result = search values in
    let j : SFits w64 c.floored_remainder-b.result = search values in
    let p = simp (to_z-of_z f.x, to_z-of_z f.m) at c.floored_remainder-a.ensures in
    let q = simp (to_z-of_z f.y, to_z-of_z f.m) at c.floored_remainder-b.ensures in
    let l = rw (p, q) at (le-true j i c.if-b-a.true) in
    simp (to_z-of_z f.m, to_z-of_z i, to_z-of_z j) (rw (p, q) (difference-fits c.args.x c.args.y c.args.m c.requires f.m l))

pub overflow_sub-result-else-b-a : goal.overflow_sub-result-else-b-a
overflow_sub-result-else-b-a c =
    let f = c.ranges in
    let i : SFits w64 c.floored_remainder-a.result = search values in
    let j : SFits w64 c.floored_remainder-b.result = search values in
    let p = simp (to_z-of_z f.x, to_z-of_z f.m) at c.floored_remainder-a.ensures in
    let q = simp (to_z-of_z f.y, to_z-of_z f.m) at c.floored_remainder-b.ensures in
    simp (to_z-of_z f.m, to_z-of_z j) (rw q (room c.args.x c.args.y c.args.m c.requires f.m))

pub overflow_add-result : goal.overflow_add-result
overflow_add-result c =
    let f = c.ranges in
    let i : SFits w64 c.floored_remainder-a.result = search values in
    let j : SFits w64 c.floored_remainder-b.result = search values in
    let p = simp (to_z-of_z f.x, to_z-of_z f.m) at c.floored_remainder-a.ensures in
    let q = simp (to_z-of_z f.y, to_z-of_z f.m) at c.floored_remainder-b.ensures in
    let r = room c.args.x c.args.y c.args.m c.requires f.m in
    let g : SFits w64 (c.args.m -ℤ c.floored_remainder-b.result) = rw q r in
    let l = rw (p, q) at (le-false j i c.if-b-a.false) in
    simp (to_z-of_z f.m, to_z-of_z i, to_z-of_z j, to_z-of_z g) (rw (p, q) (turned-fits c.args.x c.args.y c.args.m c.requires f.m l))

pub returns-then-b-a : goal.returns-then-b-a
returns-then-b-a c =
    let f = c.ranges in
    let i : SFits w64 c.floored_remainder-a.result = search values in
    let j : SFits w64 c.floored_remainder-b.result = search values in
    let p = simp (to_z-of_z f.x, to_z-of_z f.m) at c.floored_remainder-a.ensures in
    let q = simp (to_z-of_z f.y, to_z-of_z f.m) at c.floored_remainder-b.ensures in
    let l = rw (p, q) at (le-true j i c.if-b-a.true) in
    simp (to_z-of_z f.m, to_z-of_z i, to_z-of_z j) (rw (p, q) (to_z-of_z (difference-fits c.args.x c.args.y c.args.m c.requires f.m l) ∙ difference-is c.args.x c.args.y c.args.m c.requires l))

pub returns-else-b-a : goal.returns-else-b-a
returns-else-b-a c =
    let f = c.ranges in
    let i : SFits w64 c.floored_remainder-a.result = search values in
    let j : SFits w64 c.floored_remainder-b.result = search values in
    let p = simp (to_z-of_z f.x, to_z-of_z f.m) at c.floored_remainder-a.ensures in
    let q = simp (to_z-of_z f.y, to_z-of_z f.m) at c.floored_remainder-b.ensures in
    let r = room c.args.x c.args.y c.args.m c.requires f.m in
    let g : SFits w64 (c.args.m -ℤ c.floored_remainder-b.result) = rw q r in
    let l = rw (p, q) at (le-false j i c.if-b-a.false) in
    simp (to_z-of_z f.m, to_z-of_z i, to_z-of_z j, to_z-of_z g) (rw (p, q) (to_z-of_z (turned-fits c.args.x c.args.y c.args.m c.requires f.m l) ∙ turned-is c.args.x c.args.y c.args.m c.requires l))
