use Rattle.say.proofs.Page.sign.Goals as goal

pub returns : goal.returns
returns c = rw c.sign_name.ensures at c.word.ensures
