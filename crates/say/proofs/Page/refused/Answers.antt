use Rattle.say.proofs.Saying.{◌and_then◌}
use Rattle.say.proofs.Page.refused.Goals as goal

pub returns : goal.returns
returns c = c.word.ensures and_then (rw c.number.ensures at c.natural.ensures)
