use Rattle.say.proofs.Saying.{◌and_then◌}
use Rattle.say.proofs.Page.stopped_at.Goals as goal

pub returns : goal.returns
returns c = c.word.ensures and_then c.place_by.ensures
