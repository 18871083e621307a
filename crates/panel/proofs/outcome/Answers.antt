use mir.Facts.{to_z-of_z}
use mir.Syntax.{w64}
use mir.Val.{SFits}
use Rattle.panel.specs.Run.{run_step}
use borrow.Author.Rules.{rules}
use Rattle.panel.proofs.outcome.Goals as goal

pub returns-in-Input : goal.returns-in-Input
unfolding run_step
returns-in-Input c = let f : SFits w64 c.input_at.result = search rules in rw c.in-Input.is (cc (to_z-of_z f))

pub returns-in-Does : goal.returns-in-Does
unfolding run_step
returns-in-Does c = let f₁ : SFits w64 c.given.result = search rules in let f₂ : SFits w64 c.given-in-Does.result = search rules in let f₃ : SFits w64 c.given-in-Does-2.result = search rules in rw c.in-Does.is (cc (to_z-of_z f₁, to_z-of_z f₂, to_z-of_z f₃))
