use Rattle.say.proofs.Page.truth.Goals as goal

pub returns-then-t : goal.returns-then-t
returns-then-t c = rw c.if-t.true c.word.ensures

pub returns-else-t : goal.returns-else-t
returns-else-t c = rw c.if-t.false c.word-else-t.ensures
