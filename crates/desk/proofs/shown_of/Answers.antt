use Rattle.desk.specs.Answer.{step_in}
use mir.Syntax.{w64}
use mir.Val.{SFits}
use mir.Facts.{to_z-of_z}
use borrow.Author.Rules.{rules}
use Rattle.desk.proofs.shown_of.Goals as goal

pub returns-in-Input : goal.returns-in-Input
unfolding step_in
returns-in-Input c = let f : SFits w64 c.in-Input.l = search rules in let h : SFits w64 c.in-Input.h = search rules in rw c.in-Input.is (cc (to_z-of_z f, to_z-of_z h))

pub returns-in-Does : goal.returns-in-Does
unfolding step_in
returns-in-Does c = rw c.in-Does.is (cc)
