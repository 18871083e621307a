use Prim.Native.Nat.{◌≤◌, ◌*◌, ◌/◌}
use mathlib.Core.Path.{◌≡◌, ◌∙◌}
use native.Mathlib.Omega.{arith}
use lib.ListN.{length}
use borrow.Author.Rules.{rules}
use Rattle.say.specs.Texts.{numbered}
use Rattle.say.proofs.Saying.{◌and_then◌, nothing}
use Rattle.desk.specs.Five.{shown_first}
use Rattle.desk.proofs.Fives.{looked-in}
use Rattle.check_sheet.proofs.Printing.{one_more}
use Rattle.check_sheet.proofs.printed.lines.Goals as goal

pub loop-k-init : goal.loop-k-init
unfolding numbered shown_first
loop-k-init c = nothing _

pub loop-k-preserved : goal.loop-k-preserved
loop-k-preserved c =
    let v = c.loop-k in
    let a = c.args in
    let l = a.room.now in
    let h : a.n * 5 ≤ length l = search rules in
    let q = c.shown_at.ensures ∙ looked-in l (length l / 5) v.k (omega (arith, h, c.loop-k-test.true)) in
    rw (one_more l v.k) (v.invariant and_then (rw q at c.line.ensures))
