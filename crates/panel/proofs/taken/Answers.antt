use native.Mathlib.Omega.{arith}
use mathlib.Core.Path.{◌∙◌}
use mathlib.Core.Bool.{true, false}
use lib.IntN.{pos}
use lib.ListN.{get_or}
use mir.Syntax.{w64}
use mir.Val.{SFits}
use Rattle.whole.proofs.Flags.{le-flag, le_is}
use Rattle.panel.specs.Run.{taken?}
use Rattle.panel.proofs.Walk.{taken-past, taken_here}
use borrow.Author.Rules.{rules}
use Rattle.panel.proofs.taken.Goals as goal

pub returns-then-inputs-j : goal.returns-then-inputs-j
returns-then-inputs-j c = let a = c.args in rw c.in-Input.is (taken-past c.in-Input.l c.in-Input.h a.inputs.now a.j c.if-inputs-j.true)

pub returns-then-l-x : goal.returns-then-l-x
returns-then-l-x c =
    let a = c.args in
    let x = get_or a.inputs.now a.j (pos 0) in
    let fx : SFits w64 x = search rules in
    let fl : SFits w64 c.in-Input.l = search rules in
    let fh : SFits w64 c.in-Input.h = search rules in
    let t = le-flag c.in-Input.l x true c.if-l-x.true fl fx in
    let T = taken_here c.in-Input.l c.in-Input.h a.inputs.now a.j (omega arith) in
    rw c.in-Input.is (le_is x c.in-Input.h fx fh ∙ (rw t at T))

pub returns-else-l-x : goal.returns-else-l-x
returns-else-l-x c =
    let a = c.args in
    let x = get_or a.inputs.now a.j (pos 0) in
    let fx : SFits w64 x = search rules in
    let fl : SFits w64 c.in-Input.l = search rules in
    let fh : SFits w64 c.in-Input.h = search rules in
    let t = le-flag c.in-Input.l x false c.if-l-x.false fl fx in
    let T = taken_here c.in-Input.l c.in-Input.h a.inputs.now a.j (omega arith) in
    rw c.in-Input.is (rw t at T)

pub returns-in-Does : goal.returns-in-Does
unfolding taken?
returns-in-Does c = cc
