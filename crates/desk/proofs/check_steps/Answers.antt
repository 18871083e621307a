use mathlib.Core.Path.{sym, ◌∙◌}
use native.Mathlib.Omega.{arith}
use borrow.Author.Rules.{rules}
use Rattle.whole.specs.Sized.{width_of}
use Rattle.desk.proofs.Walk.{walked_start, walked-length, walked_next, walked-stops, walked-ends}
use Rattle.desk.proofs.check_steps.Goals as goal

pub loop-k-init : goal.loop-k-init
loop-k-init c = (search rules, walked_start (width_of c.args.size) c.args.steps.now c.args.room.now)

pub shown_of-requires : goal.shown_of-requires
shown_of-requires c =
    let x = c.loop-k in
    let l = walked-length x.invariant.1 (omega (arith, c.requires.2, c.loop-k-test.true)) in
    (omega (arith, c.requires.0, x.invariant.0), omega (arith, l, c.requires.2, x.invariant.0))

pub put-requires : goal.put-requires
put-requires c =
    let x = c.loop-k in
    let l = walked-length x.invariant.1 (omega (arith, c.requires.2, c.loop-k-test.true)) in
    (omega (arith, c.requires.0, c.loop-k-test.true), omega (arith, l, c.requires.2, c.loop-k-test.true))

pub loop-k-preserved : goal.loop-k-preserved
loop-k-preserved c =
    let x = c.loop-k in
    let lt = c.loop-k-test.true in
    (omega arith, walked_next c.args.n c.requires.1 x.invariant.1 lt (omega (arith, c.requires.2)) c.action_at-act.result c.in-Ok.v c.action_at-act.ensures (sym c.shown_of.ensures ∙ c.in-Ok.is) _ c.put.ensures)

pub shape_of-room-in-Err : goal.shape_of-room-in-Err
shape_of-room-in-Err c = walked-length c.loop-k.invariant.1 (omega (arith, c.requires.2, c.loop-k-test.true))

pub returns-in-Err : goal.returns-in-Err
returns-in-Err c =
    let x = c.loop-k in
    let lt = c.loop-k-test.true in
    walked-stops c.args.n c.requires.1 x.invariant.1 lt (omega (arith, c.requires.2)) c.action_at-act.result c.in-Err.r c.action_at-act.ensures (sym c.shown_of.ensures ∙ c.in-Err.is)

pub shape_of-room : goal.shape_of-room
shape_of-room c = walked-length c.loop-k.invariant.1 (omega (arith, c.requires.2, c.loop-k.invariant.0))

pub returns : goal.returns
returns c =
    let x = c.loop-k in
    walked-ends c.args.n c.requires.1 x.invariant.1 c.loop-k-test.false x.invariant.0 (omega (arith, c.requires.2, x.invariant.0))
