use Rattle.say.proofs.Page.order.Goals as goal

pub returns : goal.returns
returns c = rw c.order_name.ensures at c.word.ensures
