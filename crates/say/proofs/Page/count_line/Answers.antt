use Rattle.say.proofs.Saying.{◌and_then◌}
use Rattle.say.proofs.Page.count_line.Goals as goal

pub returns : goal.returns
returns c = c.word.ensures and_then c.natural.ensures and_then c.word-2.ensures
