use mathlib.Core.Path.{◌∙◌}
use lib.IntN.{pos, ◌+ℤ◌}
use mir.Facts.{to_z-of_z}
use mir.Syntax.{w64}
use mir.Val.{SFits}
use borrow.Author.Tests.{eq-eqb, ne_eqb}
use Rattle.congruence.proofs.Calls.{calls}
use Rattle.congruence.proofs.Cases.{above_zero, class-none, class-some}
use Rattle.congruence.proofs.Values.{values, built}
use Rattle.congruence.specs.Mended.{exact_of}
use Rattle.congruence.specs.Mended as mended
use Rattle.congruence.proofs.rules.sum_class.Goals as goal

pub returns-then-m-eq0 : goal.returns-then-m-eq0
unfolding mended.exact_of
returns-then-m-eq0 c = search (eq-eqb, ne_eqb, calls, values) depth 9

pub sum_modulo-requires : goal.sum_modulo-requires
sum_modulo-requires c =
    let k : SFits w64 c.in-Some.k = search values in
    simp (to_z-of_z k) (above_zero _ (pos 0) c.args.m c.natural.result c.if-m-eq0.false c.natural.ensures c.in-Some.k c.in-Some.is)

pub returns-in_default : goal.returns-in_default
returns-in_default c =
    class-none _ (c.args.x +ℤ c.args.y) c.args.m c.natural.result c.if-m-eq0.false c.natural.ensures c.in_default.is

pub returns : goal.returns
returns c =
    let f = c.ranges in
    let k : SFits w64 c.in-Some.k = search values in
    let r : SFits w64 c.sum_modulo.result = search values in
    let q = simp (to_z-of_z f.x, to_z-of_z f.y, to_z-of_z k) at c.sum_modulo.ensures in
    class-some _ (c.args.x +ℤ c.args.y) c.args.m c.natural.result c.if-m-eq0.false c.natural.ensures c.in-Some.k _ c.in-Some.is
    (built _ _ _ _ (to_z-of_z r ∙ q) (to_z-of_z k))
