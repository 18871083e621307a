use Rattle.say.proofs.Saying.{◌and_then◌}
use Rattle.say.proofs.Page.place_line.Goals as goal

pub returns : goal.returns
returns c = c.word.ensures and_then c.place_by.ensures and_then c.word-2.ensures
