use borrow.Author.Rules.{rules}
use Rattle.desk.specs.Five.{sign_at}
use Rattle.desk.proofs.sign_at.Goals as goal

pub returns : goal.returns
unfolding sign_at
returns c = search rules
