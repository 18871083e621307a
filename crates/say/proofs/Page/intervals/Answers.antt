use Rattle.say.proofs.Saying.{◌and_then◌}
use Rattle.say.proofs.Page.intervals.Goals as goal

pub returns : goal.returns
returns c =
    c.interval.ensures
    and_then c.word.ensures
    and_then c.interval-2.ensures
