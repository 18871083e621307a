use Rattle.say.proofs.Saying.{◌and_then◌}
use Rattle.check_sheet.proofs.printed.line.Goals as goal

pub returns : goal.returns
returns c =
    c.natural.ensures
    and_then c.word.ensures
    and_then c.shown.ensures
    and_then c.word-2.ensures
