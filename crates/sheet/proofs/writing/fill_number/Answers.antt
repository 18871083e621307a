use native.Mathlib.Numerals.{add-one}
use mathlib.Core.List.{◌∷◌}
use Prim.Native.Nat.{◌<◌, ◌-◌, ◌+◌, ◌/◌, ◌%◌}
use mathlib.Core.Path.{◌≡◌, refl, sym, ap, ◌∙◌}
use native.Mathlib.Omega.{arith}
use borrow.Author.Rules.{rules}
use lib.ListN.{length, length-set}
use Rattle.sheet.specs.Number.{write_number, groups_of}
use Rattle.sheet.proofs.Written.{not-tenth, shorter, groups-last, groups-more, top_set}
use Rattle.sheet.proofs.writing.fill_number.Goals as goal
use Rattle.sheet.proofs.writing.fill_number.Goals.{In-loop-m}

pub loop-m-init : goal.loop-m-init
unfolding write_number
loop-m-init c =
    let e : c.args.at - c.args.at ≡ 0 = omega arith in
    (search rules, search rules, rw e (search rules), refl, rw e c.requires, rw e, rw e)

not_last : (c : In-loop-m) → c.loop-m.i - c.args.at < 9
not_last c =
    let x = c.loop-m in
    not-tenth (x.i - c.args.at) x.m (omega arith) x.invariant.2 c.loop-m-test.true

more : (c : In-loop-m) → groups_of (9 - (c.loop-m.i - c.args.at)) c.loop-m.m ≡ (128 + c.loop-m.m % 128) ∷ groups_of (9 - (c.loop-m.i - c.args.at + 1)) (c.loop-m.m / 128)
more c = groups-more (c.loop-m.i - c.args.at) c.loop-m.m (not_last c) c.loop-m-test.true

within : (c : In-loop-m) → c.loop-m.i < length c.loop-m.out
within c = omega (arith, ap length (more c), c.loop-m.invariant.4, c.loop-m.invariant.3)

pub overflow_cast-out : goal.overflow_cast-out
overflow_cast-out c = rw top_set (omega arith)

pub bounds-out-i : goal.bounds-out-i
bounds-out-i c = within (goal.at.bounds-out-i c).In-loop-m

pub loop-m-smaller : goal.loop-m-smaller
loop-m-smaller c =
    omega (arith, not_last (goal.at.loop-m-smaller c).In-loop-m)

pub loop-m-preserved : goal.loop-m-preserved
loop-m-preserved c =
    let w = (goal.at.loop-m-preserved c).In-loop-m in
    let x = c.loop-m in
    let a = c.args in
    let lt : x.i - a.at < 9 = not_last w in
    let e : x.i + 1 - a.at ≡ x.i - a.at + 1 = omega arith in (
      omega arith,
      omega arith,
      rw e (shorter (x.i - a.at) x.m lt x.invariant.2),
      simp length-set x.invariant.3,
      rw e (omega (arith, ap length (more w), x.invariant.4)),
      x.invariant.5 ∙ rw (e, more w, top_set, add-one x.i),
      rw e (omega (arith, ap length (more w), x.invariant.6)),
    )

pub bounds-out-i-2 : goal.bounds-out-i-2
bounds-out-i-2 c =
    let x = c.loop-m in
    let a = c.args in
    omega (arith, ap length (groups-last (9 - (x.i - a.at)) x.m c.loop-m-test.false), x.invariant.4, x.invariant.3)

pub shape_of-out : goal.shape_of-out
shape_of-out c = simp length-set c.loop-m.invariant.3

pub returns : goal.returns
returns c =
    let x = c.loop-m in
    let a = c.args in
    let e = groups-last (9 - (x.i - a.at)) x.m c.loop-m-test.false in
    (omega (arith, ap length e, x.invariant.6), sym (x.invariant.5 ∙ rw e))
