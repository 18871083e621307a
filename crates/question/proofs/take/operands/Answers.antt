use Rattle.std.proofs.Common.{◌≡◌, sym, ap, ◌∙◌, ◌-◌, suc, length, Some, arith}
use Rattle.std.proofs.lemmas.List.{set-get_or}
use Rattle.question.proofs.Taking.{full, nothing, turn, to-the-end, given-up}
use Rattle.question.proofs.take.operands.Goals as goal

pub returns-then-at-line-clause-told : goal.returns-then-at-line-clause-told
returns-then-at-line-clause-told g c f h =
    let x = c.loop-n in
    let s = c.args.line.now in
    let left = length c.args.room.now - x.n in
    let none = nothing (f s) left x.at (sym (ap (f s) c.if-at-line.true ∙ h.ends s)) in
    rw set-get_or (to-the-end (f s) c.args.at c.args.room.now x.n left x.at x.room (x.invariant f h left (omega arith)) none (length s) c.if-at-line.true)

pub returns-in_err-operand-clause-told : goal.returns-in_err-operand-clause-told
returns-in_err-operand-clause-told g c f h =
    let x = c.loop-n in
    let s = c.args.line.now in
    let left = length c.args.room.now - x.n in
    let none = nothing (f s) left x.at (h.answered c.args.line x.at _ c.in_err-operand.ensures) in
    rw (c.from_residual.ensures, set-get_or) (given-up (f s) c.args.at c.args.room.now x.n left x.at x.room (x.invariant f h left (omega arith)) none (length s) c.if-at-line.false)

pub loop-n-preserved : goal.loop-n-preserved
loop-n-preserved g c = λ f h m k.
    let x = c.loop-n in
    turn (f c.args.line.now) c.args.at c.args.room.now x.n m x.at x.room _ _ (h.answered c.args.line x.at _ c.in_ok-operand.ensures) (x.invariant f h (suc m) (omega arith))

pub returns-then-at-line-2-clause-told : goal.returns-then-at-line-2-clause-told
returns-then-at-line-2-clause-told g c f h =
    let x = c.loop-n in
    let s = c.args.line.now in
    let all : length x.room ≡ x.n = omega arith in
    let t = to-the-end (f s) c.args.at c.args.room.now x.n 0 x.at x.room (x.invariant f h 0 (omega arith)) (full (f s) x.at) (length s) c.if-at-line-2.true in
    (ap Some all ∙ t.0, t.1)

pub returns-clause-told : goal.returns-clause-told
returns-clause-told g c f h =
    let x = c.loop-n in
    let s = c.args.line.now in
    given-up (f s) c.args.at c.args.room.now x.n 0 x.at x.room (x.invariant f h 0 (omega arith)) (full (f s) x.at) (length s) c.if-at-line-2.false
