use Rattle.say.proofs.Saying.{◌and_then◌}
use Rattle.say.proofs.Page.place_by.Goals as goal

pub returns : goal.returns
returns c =
    c.natural.ensures and_then c.word.ensures and_then (rw c.number.ensures at c.natural-2.ensures)
