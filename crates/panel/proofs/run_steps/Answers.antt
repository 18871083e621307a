use lib.Seq.{length-take-le}
use mir.Val.{to_z, of_z}
use Rattle.refusal.specs.Number.{number_of}
use Rattle.refusal.specs.Answer.{at_step, done}
use Prim.Native.Nat.{◌≤◌}
use mathlib.Core.Path.{◌≡◌, refl, sym, ap, ◌∙◌}
use native.Mathlib.Omega.{arith}
use borrow.Author.Rules.{rules}
use lib.ListN.{length, take, length-set}
use mir.Syntax.{w64}
use Rattle.whole.specs.Sized.{width_of}
use Rattle.step.specs.Run.{run_op}
use Rattle.panel.proofs.Walk.{run-next, run-stops, run_ends, filled, stored, few}
use Rattle.panel.proofs.run_steps.Goals as goal

pub loop-k-init : goal.loop-k-init
loop-k-init c = (search rules, search rules, refl, refl, refl)

pub overflow_add-j : goal.overflow_add-j
overflow_add-j c =
    let x = c.loop-k in
    let u = c.used-j.ensures in
    let h = few c.action_at-act.result in
    let l = c.requires.0 in
    record { fits = omega arith }

pub loop-k-preserved : goal.loop-k-preserved
loop-k-preserved c =
    let x = c.loop-k in
    let act = c.action_at-act.result in
    let u = c.used-j.ensures in
    let h = few act in
    let lt = c.loop-k-test.true in
    let e : to_z w64 (of_z w64 c.in-Ok.x) ≡ c.in-Ok.x = search rules in
    let s = stored x.room c.args.room.now x.k x.invariant.2 x.invariant.3 c.in-Ok.x (omega (arith, c.requires.2)) in
    let r = run-next c.args.steps.now c.args.n x.k c.requires.1 c.args.inputs.now x.j (run_op (width_of c.args.size)) (take x.k x.room) lt act c.in-Ok.x c.action_at-act.ensures (sym c.in-Ok.is ∙ c.outcome.ensures) in
    rw e (omega arith, omega arith, length-set x.room x.k c.in-Ok.x ∙ x.invariant.2, s.1, rw (s.0, u) (r ∙ x.invariant.4))

pub shape_of-room-in-Err : goal.shape_of-room-in-Err
shape_of-room-in-Err c = c.loop-k.invariant.2

pub returns-in-Err : goal.returns-in-Err
returns-in-Err c =
    let x = c.loop-k in
    let lt = c.loop-k-test.true in
    let k : x.k ≤ length x.room = omega (arith, c.requires.2, x.invariant.2) in
    let r = sym x.invariant.4 ∙ run-stops c.args.steps.now c.args.n x.k c.requires.1 c.args.inputs.now x.j (run_op (width_of c.args.size)) (take x.k x.room) lt c.action_at-act.result c.in-Err.r c.action_at-act.ensures (sym c.in-Err.is ∙ c.outcome.ensures) in
    rw r (ap (λ m. at_step (number_of c.in-Err.r) m) (sym (length-take-le x.k x.room k)), filled x.room c.args.room.now x.k x.invariant.2 x.invariant.3 k)

pub shape_of-room : goal.shape_of-room
shape_of-room c = c.loop-k.invariant.2

pub returns : goal.returns
returns c =
    let x = c.loop-k in
    let k : x.k ≤ length x.room = omega (arith, c.requires.2, x.invariant.2) in
    let r = sym x.invariant.4 ∙ run_ends c.args.steps.now c.args.n x.k c.requires.1 c.args.inputs.now x.j (run_op (width_of c.args.size)) (take x.k x.room) c.loop-k-test.false in
    let all : c.args.n ≡ x.k = omega (arith, x.invariant.0, c.loop-k-test.false) in
    rw r (ap done (all ∙ sym (length-take-le x.k x.room k)), filled x.room c.args.room.now x.k x.invariant.2 x.invariant.3 k)
