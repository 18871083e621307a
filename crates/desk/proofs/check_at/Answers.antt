use mathlib.Core.Path.{refl, sym, ◌∙◌}
use native.Mathlib.Omega.{arith}
use lib.Seq.{length-take-le}
use Rattle.whole.specs.Sized.{width_of}
use Rattle.refusal.proofs.Claims.{count-fault}
use Rattle.panel.proofs.Answers.{listed, unread}
use Rattle.desk.proofs.Answers.{checks-read, checks-refused}
use Rattle.desk.proofs.check_at.Goals as goal

pub returns-in_err-n : goal.returns-in_err-n
returns-in_err-n c =
    let a = c.args in
    let u = unread a.bytes.now _ _ (omega arith) c.in_err-n.ensures.0 in
    rw (checks-refused (width_of a.size) a.bytes.now a.room.now u.number u.byte u.parsed) (count-fault c.from_residual.result _ c.from_residual.ensures.1 ∙ u.told, refl)

pub overflow_mul-steps : goal.overflow_mul-steps
overflow_mul-steps c =
    let l = listed c.args.bytes.now _ _ c.in_ok-n.n c.in_ok-n.ensures.0 c.in_ok-n.ensures.1 in
    record { fits = omega (arith, l.few) }

pub slice_bounds-steps-end : goal.slice_bounds-steps-end
slice_bounds-steps-end c = (listed c.args.bytes.now _ _ c.in_ok-n.n c.in_ok-n.ensures.0 c.in_ok-n.ensures.1).long

pub slice_bounds-check_listed-end : goal.slice_bounds-check_listed-end
slice_bounds-check_listed-end c = sym (length-take-le _ _ (listed c.args.bytes.now _ _ c.in_ok-n.n c.in_ok-n.ensures.0 c.in_ok-n.ensures.1).long)

pub check_listed-requires : goal.check_listed-requires
check_listed-requires c =
    let l = listed c.args.bytes.now _ _ c.in_ok-n.n c.in_ok-n.ensures.0 c.in_ok-n.ensures.1 in
    (l.few, length-take-le _ _ l.long)

pub returns : goal.returns
returns c =
    let a = c.args in
    let l = listed a.bytes.now _ _ c.in_ok-n.n c.in_ok-n.ensures.0 c.in_ok-n.ensures.1 in
    rw (checks-read (width_of a.size) a.bytes.now a.room.now l.steps l.end l.parsed, ← l.back) c.check_listed.ensures
