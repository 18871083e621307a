use Rattle.say.proofs.Saying.{◌and_then◌}
use Rattle.check_sheet.proofs.printed.shown.Goals as goal

pub returns : goal.returns
returns c =
    c.interval.ensures
    and_then c.word.ensures
    and_then c.congruence.ensures
    and_then c.word-2.ensures
    and_then c.sign.ensures
