use mir.Syntax.{w64}
use mir.Val.{SFits}
use borrow.Author.Rules.{rules}
use Rattle.interval.specs.Ends.{held_range}
use Rattle.interval.proofs.Calls.{handed_on}
use Rattle.interval.proofs.Full.{held-64}
use Rattle.interval.proofs.mended.held.Goals as goal

pub returns-in_err-v : goal.returns-in_err-v
unfolding held_range
returns-in_err-v c = rw c.in_err-v.was (handed_on _ _ c.from_residual.ensures.1)

pub returns-in-B64 : goal.returns-in-B64
returns-in-B64 c =
    let f : SFits w64 c.in_ok-v.v.min = search rules in
    let h : SFits w64 c.in_ok-v.v.max = search rules in
    rw (c.in_ok-v.was, c.in-B64.is) (held-64 c.in_ok-v.v.min c.in_ok-v.v.max f h)

pub returns-in_default : goal.returns-in_default
unfolding held_range
returns-in_default c = rw c.in_ok-v.was c.range_in.ensures
