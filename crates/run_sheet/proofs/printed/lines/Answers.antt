use mathlib.Core.Path.{◌≡◌}
use native.Mathlib.Omega.{arith}
use lib.IntN.{pos}
use lib.ListN.{get_or, take}
use mir.Syntax.{w64}
use mir.Val.{to_z, of_z}
use borrow.Author.Rules.{rules}
use Rattle.say.specs.Texts.{numbered}
use Rattle.say.proofs.Sizes.{size-append}
use Rattle.say.proofs.Saying.{◌and_then◌, nothing}
use Rattle.run_sheet.specs.Text.{step_line}
use Rattle.run_sheet.proofs.Printing.{one_more, all_lines}
use Rattle.run_sheet.proofs.printed.lines.Goals as goal

pub loop-k-init : goal.loop-k-init
unfolding numbered
loop-k-init c = (nothing _, λ h. search rules)

pub loop-k-preserved : goal.loop-k-preserved
loop-k-preserved c =
    let v = c.loop-k in
    let l = c.args.numbers.now in
    let e : to_z w64 (of_z w64 (get_or l v.k (pos 0))) ≡ get_or l v.k (pos 0) = search rules in
    let o = one_more l v.k (search rules) in
    let n = rw e at c.line.ensures in
    let z = size-append (numbered step_line 0 (take v.k l)) (step_line v.k (get_or l v.k (pos 0))) in
    (rw o (v.invariant.0 and_then n.0), λ h. rw o (omega (arith, z, n.1 (omega arith), v.invariant.1 h)))

pub returns : goal.returns
returns c =
    let l = c.args.numbers.now in
    let v = c.loop-k in
    let a = all_lines l v.k (search rules) in
    (rw a at v.invariant.0, λ h. rw (← a) (omega (arith, v.invariant.1 h)))
