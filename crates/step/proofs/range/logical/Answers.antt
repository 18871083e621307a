use mathlib.Core.Bool.{true, false}
use lib.IntN.{pos}
use mir.Syntax.{w64}
use mir.Val.{SFits}
use borrow.Author.Rules.{rules}
use Rattle.whole.proofs.Fits.{zero-fits}
use Rattle.whole.proofs.Flags.{le-flag}
use Rattle.step.proofs.Calls.{one-fits}
use Rattle.step.proofs.range.logical.Goals.{else-i-ge0-via-then-i-ge0+else-i-le1, else-i-ge0-via-else-i-ge0}
use Rattle.step.proofs.range.logical.Goals as goal

pub returns-then-i-le1 : goal.returns-then-i-le1
returns-then-i-le1 c =
    let a = c.args.i in
    let f : SFits w64 a.min = search rules in
    let g : SFits w64 a.max = search rules in
    rw (le-flag (pos 0) a.min true c.if-i-ge0.true zero-fits f, le-flag a.max (pos 1) true c.if-i-le1.true g one-fits)

pub returns-else-i-ge0 : goal.returns-else-i-ge0
returns-else-i-ge0 c =
    let a = c.args.i in
    let f : SFits w64 a.min = search rules in
    let g : SFits w64 a.max = search rules in
    elim c.else-i-ge0.branch [
      | else-i-ge0-via-then-i-ge0+else-i-le1 w ↦ rw (le-flag (pos 0) a.min true w.if-i-ge0.true zero-fits f, le-flag a.max (pos 1) false w.if-i-le1.false g one-fits)
      | else-i-ge0-via-else-i-ge0 w ↦ rw (le-flag (pos 0) a.min false w.if-i-ge0.false zero-fits f)
    ]
